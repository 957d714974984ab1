use Rattle.std.proofs.Common.{arith}
use Rattle.acct_words.proofs.FillLemmas.{filled_root, parent_there, sum_small, filled_then}
use Rattle.acct_words.proofs.opening.fill_level.Goals as goal

pub bounds-words-node : goal.bounds-words-node
bounds-words-node c = parent_there _ c.requires.tree _ c.requires.level _ c.requires.filled c.if-level-gt0.true

pub overflow_add-words-then-level-gt0-2 : goal.overflow_add-words-then-level-gt0-2
overflow_add-words-then-level-gt0-2 c =
    let a = sum_small _ c.requires.tree _ c.requires.level _ c.requires.filled c.if-level-gt0.true _ c.max-counted.ensures in omega arith

pub bounds-words-node-then-level-gt0 : goal.bounds-words-node-then-level-gt0
bounds-words-node-then-level-gt0 c = parent_there _ c.requires.tree _ c.requires.level _ c.requires.filled c.if-level-gt0.true

pub returns-then-level-gt0 : goal.returns-then-level-gt0
returns-then-level-gt0 c = filled_then _ c.requires.tree _ c.requires.level _ c.requires.filled c.if-level-gt0.true _ c.max-counted.ensures

pub returns-else-level-gt0 : goal.returns-else-level-gt0
returns-else-level-gt0 c = filled_root _ c.requires.tree _ c.requires.level _ c.requires.filled (omega arith)
