use Rattle.std.proofs.Common.{arith, ◌∙◌}
use Rattle.acct_words.proofs.CallLemmas.{pay_owes}
use Rattle.acct_words.proofs.SplitLemmas.{cuts}
use Rattle.acct_words.proofs.steps.pay.Goals as goal

pub compare_exchange_with-requires : goal.compare_exchange_with-requires
compare_exchange_with-requires c =
    let t = c.requires.table in (
      t.table,
      (let w = t.wide in omega arith),
      pay_owes _ _ _ _ t.start 16 (record { bytes = c.args.bytes; turns = c.args.turns })
          c.requires.whole c.requires.budget.0 c.requires.budget.1,
    )

pub split_seat-requires : goal.split_seat-requires
split_seat-requires c = let t = c.requires.table in (
  c.compare_exchange_with.ensures.0 ∙ t.table,
  (let w = t.wide in omega arith),
  cuts _ _ _,
)
