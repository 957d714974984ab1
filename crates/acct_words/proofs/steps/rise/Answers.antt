use Rattle.std.proofs.Common.{arith}
use Rattle.acct_words.proofs.CallLemmas.{rise_owes}
use Rattle.acct_words.proofs.steps.rise.Goals as goal

pub fetch_add-requires : goal.fetch_add-requires
fetch_add-requires c =
    let t = c.requires.table in (
      t.table,
      (let w = t.wide in let l = c.requires.level in omega arith),
      rise_owes _ _ _ _ t.start c.args.level c.args.amount c.requires.up,
    )
