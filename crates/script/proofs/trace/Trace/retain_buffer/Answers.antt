-- The call draws at most one number, and adds at most one reference.
use Rattle.std.proofs.Common.{subst, sym}
use Rattle.std.proofs.lemmas.Result.{on_ok_weaker}
use Rattle.mem_model.specs.DrawnNumbers.{DrawsNumbers}
use Rattle.mem_model.proofs.DrawnLemmas.{retain_draws}
use Rattle.script.proofs.NumberLemmas.{numbers-room}
use Rattle.script.proofs.trace.Trace.retain_buffer.Goals as goal

pub retain-answer-requires : goal.retain-answer-requires
retain-answer-requires c = record { room = numbers-room c.args.self.now.tree.state c.args.given.reference c.requires.numbers }

pub returns-clause-draws : goal.returns-clause-draws
returns-clause-draws c =
    on_ok_weaker _ (λ given. subst (λ tree. DrawsNumbers c.args.self.now.tree.state tree 1) (sym (c.retain-answer.ensures.after given).state) (retain_draws _ c.args.given.reference c.args.at)) c.write_retain.ensures.memory
