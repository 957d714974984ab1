-- The call draws at most one number.
use Rattle.std.proofs.Common.{subst, sym}
use Rattle.std.proofs.lemmas.Result.{on_ok_weaker}
use Rattle.mem_model.specs.DrawnNumbers.{DrawsNumbers}
use Rattle.mem_model.proofs.DrawnLemmas.{release_draws}
use Rattle.script.proofs.trace.Trace.release_buffer.Goals as goal

pub returns-clause-draws : goal.returns-clause-draws
returns-clause-draws c =
    on_ok_weaker _ (λ _. subst (λ tree. DrawsNumbers c.args.self.now.tree.state tree 1) (sym c.release-answer.ensures.after.state) (release_draws _ c.args.given.reference)) c.write_release.ensures
