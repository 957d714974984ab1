-- The picked columns moved, and the others went.
use Rattle.std.proofs.Common.{ap, subst, map, sym}
use Rattle.mem_buf.specs.Callers.{GivesBack}
use Rattle.mem_buf.specs.Chain.{Runs}
use Rattle.operators.proofs.MovingLemmas.{can_project, projected, unprojected}
use Rattle.operators.proofs.projecting.project.Goals as goal

pub move_batch-moved-requires-clause-budget : goal.move_batch-moved-requires-clause-budget
move_batch-moved-requires-clause-budget g c =
    can_project g.M.Memory.model c.args.at c.args.input.holds c.args.picks.now _ _ c.in-Ok.ensures.holds c.requires.budget

pub returns-in-Ok-clause-calls : goal.returns-in-Ok-clause-calls
returns-in-Ok-clause-calls g c =
    projected g.M.Memory.model c.args.at c.args.input.holds _ c.args.picks.now _ c.in-Ok.field-0.rest.items c.move_batch-moved.result
    _ _ _ c.in-Ok.ensures.holds c.in-Ok.ensures.rest c.move_batch-moved.ensures.calls c.give_back.ensures.calls

pub returns-in-Err-clause-calls : goal.returns-in-Err-clause-calls
returns-in-Err-clause-calls g c =
    unprojected g.M.Memory.model c.args.at c.args.input.holds _ _ _ _
    (subst (λ batch. Runs g.M.Memory.model (GivesBack (map g.M.Memory.model.reference batch.holds)) c.args.token.now c.release_batch.new.token)
    c.in-Err.ensures.err c.release_batch.ensures.calls)
