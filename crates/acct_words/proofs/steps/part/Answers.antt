use Rattle.std.proofs.Common.{arith, ◌∙◌}
use Rattle.acct_words.proofs.CallLemmas.{part_owes}
use Rattle.acct_words.proofs.SplitLemmas.{cuts}
use Rattle.acct_words.proofs.steps.part.Goals as goal

pub load-requires : goal.load-requires
load-requires c = let t = c.requires.table in
    (t.table, (let w = t.wide in omega arith), part_owes _ _ _ _ t.start 0 c.requires.chunk c.requires.whole)

pub split_seat-requires : goal.split_seat-requires
split_seat-requires c = let t = c.requires.table in (c.load.ensures.0 ∙ t.table, (let w = t.wide in omega arith), cuts _ _ _)
