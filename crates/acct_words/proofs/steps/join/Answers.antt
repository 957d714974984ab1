use Rattle.std.proofs.Common.{arith, ap, ◌∙◌}
use Rattle.acct_words.proofs.CallLemmas.{count_owes}
use Rattle.acct_words.proofs.SplitLemmas.{joins}
use Rattle.acct_words.proofs.steps.join.Goals as goal

pub join_seat-requires : goal.join_seat-requires
join_seat-requires c = let t = c.requires.table in (t.0.table, t.1, t.2, (let w = t.0.wide in omega arith), joins _ _ _ _ _)

pub load-requires : goal.load-requires
load-requires c =
    let t = c.requires.table in (
      c.join_seat.ensures.0 ∙ t.0.table,
      (let w = t.0.wide in omega arith),
      count_owes _ _ _ _ (ap (λ (m : _). m.0.start) c.join_seat.ensures.2 ∙ t.0.start) 0,
    )
