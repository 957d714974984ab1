-- The clauses of the tree's own call are those of a memory.
use Rattle.mem_buf.proofs.CauseLemmas.{close-in_use}
use Rattle.alloc_tree.proofs.SoloCallLemmas.{makes-close}
use Rattle.alloc_tree.proofs.solo.SoloMemory.close.Goals as goal

pub returns : goal.returns
returns c =
    let made = makes-close c.args.at c.close.result c.args.token.now c.close.new.self
    (record { answer_is = c.close.ensures.answer; after = c.close.ensures.after }) c.close.ensures.uncounted in
    record { in_use = close-in_use c.close.result made.answer; makes = made }
