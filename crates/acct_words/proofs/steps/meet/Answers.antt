use Rattle.std.proofs.Common.{arith}
use Rattle.acct_words.proofs.CallLemmas.{meet_owes}
use Rattle.acct_words.proofs.steps.meet.Goals as goal

pub load-requires : goal.load-requires
load-requires c =
    let t = c.requires.table in
    (t.table, (let w = t.wide in let l = c.requires.level in omega arith), meet_owes _ _ _ _ t.start c.args.level c.requires.level)
