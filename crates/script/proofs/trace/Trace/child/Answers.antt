-- The call draws at most one number.
use Rattle.std.proofs.Common.{subst, sym}
use Rattle.std.proofs.lemmas.Result.{on_ok_weaker}
use Rattle.mem_model.specs.DrawnNumbers.{DrawsNumbers}
use Rattle.mem_model.proofs.DrawnLemmas.{child_draws}
use Rattle.script.proofs.trace.Trace.child.Goals as goal

pub returns-clause-draws : goal.returns-clause-draws
returns-clause-draws c =
    on_ok_weaker _ (λ _. subst (λ tree. DrawsNumbers c.args.self.now.tree.state tree 1) (sym c.child-answer.ensures.after.state) (child_draws _ c.in-Some.at c.args.reservation c.args.limit)) c.write_child.ensures
