use Rattle.std.proofs.Common.{arith}
use Rattle.acct_words.proofs.CallLemmas.{peak_owes}
use Rattle.acct_words.proofs.steps.read_peak.Goals as goal

pub load-requires : goal.load-requires
load-requires c =
    let t = c.requires.table in
    (t.table, (let w = t.wide in let l = c.requires.level in omega arith), peak_owes _ _ _ _ t.start c.args.level c.requires.level)
