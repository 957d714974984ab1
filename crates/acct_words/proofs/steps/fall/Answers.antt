use Rattle.std.proofs.Common.{arith}
use Rattle.acct_words.proofs.CallLemmas.{fall_owes}
use Rattle.acct_words.proofs.steps.fall.Goals as goal

pub fetch_sub-requires : goal.fetch_sub-requires
fetch_sub-requires c =
    let t = c.requires.table in (
      t.table,
      (let w = t.wide in let l = c.requires.level in omega arith),
      fall_owes _ _ _ _ t.start c.args.level c.args.amount c.requires.down,
    )
