use Rattle.std.proofs.Common.{arith}
use Rattle.acct_words.proofs.CallLemmas.{raise_owes}
use Rattle.acct_words.proofs.steps.raise.Goals as goal

pub fetch_max-requires : goal.fetch_max-requires
fetch_max-requires c =
    let t = c.requires.table in (
      t.table,
      (let w = t.wide in let l = c.requires.level in omega arith),
      raise_owes _ _ _ _ t.start c.args.level c.args.to c.requires.level c.requires.reached,
    )
