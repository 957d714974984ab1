use Rattle.std.proofs.Common.{arith}
use Rattle.acct_words.proofs.CallLemmas.{begin_owes}
use Rattle.acct_words.proofs.steps.begin.Goals as goal

pub fetch_add-requires : goal.fetch_add-requires
fetch_add-requires c =
    let t = c.requires.table in let s = c.requires.size in (
      t.table,
      (let w = t.wide in let l = c.requires.level in omega arith),
      begin_owes _ _ _ _ t.start c.args.level c.args.size c.requires.level c.requires.chunk s.0 s.1 s.2,
    )
