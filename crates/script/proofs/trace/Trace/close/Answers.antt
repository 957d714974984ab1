-- The call draws at most one number.
use Rattle.std.proofs.Common.{subst, sym}
use Rattle.std.proofs.lemmas.Result.{on_ok_weaker}
use Rattle.mem_model.specs.DrawnNumbers.{DrawsNumbers}
use Rattle.mem_model.proofs.DrawnLemmas.{close_draws}
use Rattle.script.proofs.trace.Trace.close.Goals as goal

pub returns-clause-draws : goal.returns-clause-draws
returns-clause-draws c =
    on_ok_weaker _ (λ _. subst (λ tree. DrawsNumbers c.args.self.now.tree.state tree 1) (sym c.close-answer.ensures.after.state) (close_draws _ c.in-Some.id)) c.write_close.ensures
