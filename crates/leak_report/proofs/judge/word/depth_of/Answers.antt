-- The spaces are counted up to another byte.
use Rattle.std.proofs.Common.{◌==◌, ◌/◌, ap, rules, tests}
use Rattle.std.proofs.lemmas.Iterator.{YieldsList-from_slice}
use Rattle.std.proofs.lemmas.Iterator.Consumers.{count_from_yields_List}
use Rattle.std.proofs.lemmas.Iterator.Search.{YieldsList-from_take_while}
use Rattle.leak_report.proofs.judge.word.depth_of.Goals as goal

pub returns : goal.returns
returns c =
    ap (λ n. n / 2) (count_from_yields_List _ _ c.count.ensures.ran
    (YieldsList-from_take_while _ (λ byte. byte == 32) (YieldsList-from_slice c.args.line.now cc) c.take_while.ensures.closure c.take_while.ensures.done (λ x b q k. search (rules, tests))))
