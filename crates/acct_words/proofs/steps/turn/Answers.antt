use Rattle.std.proofs.Common.{arith}
use Rattle.acct_words.proofs.CallLemmas.{turn_owes}
use Rattle.acct_words.proofs.steps.turn.Goals as goal

pub fetch_sub-requires : goal.fetch_sub-requires
fetch_sub-requires c =
    let t = c.requires.table in (
      t.table,
      (let w = t.wide in let l = c.requires.level in omega arith),
      turn_owes _ _ _ _ t.start c.args.level c.args.size c.requires.turns,
    )
