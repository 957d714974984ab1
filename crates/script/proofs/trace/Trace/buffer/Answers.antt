-- The call draws at most one number, and what it gives isn't large.
use Rattle.std.proofs.Common.{subst, sym}
use Rattle.std.proofs.lemmas.Result.{on_ok_weaker}
use Rattle.mem_model.specs.DrawnNumbers.{DrawsNumbers}
use Rattle.mem_model.proofs.DrawnLemmas.{grant_draws}
use Rattle.script.proofs.NumberLemmas.{granted_small}
use Rattle.script.proofs.trace.Trace.buffer.Goals as goal

pub bind-requires-clause-small : goal.bind-requires-clause-small
bind-requires-clause-small c = granted_small c.args.self.now.tree.state c.in-Some.id c.args.size c.grant-answer.result c.grant-answer.ensures.answer

pub returns-clause-draws : goal.returns-clause-draws
returns-clause-draws c =
    on_ok_weaker _ (λ given. subst (λ tree. DrawsNumbers c.args.self.now.tree.state tree 1) (sym (c.grant-answer.ensures.after given).state) (grant_draws _ c.in-Some.id c.args.size)) c.write_buffer.ensures.memory
