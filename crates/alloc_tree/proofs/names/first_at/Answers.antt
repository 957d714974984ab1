-- The search goes over the entries in order.
use Rattle.std.proofs.Common.{◌==◌, rules, tests}
use Rattle.std.proofs.lemmas.Iterator.Consumers.{YieldsList-from_rest}
use Rattle.std.proofs.lemmas.Iterator.Search.{find_from_yields_List}
use Rattle.alloc_tree.proofs.names.first_at.Goals as goal

pub returns : goal.returns
returns c = find_from_yields_List (λ entry. entry.1.0 == c.args.at.0) _ _ _ c.find.ensures.ran
    (YieldsList-from_rest c.args.bound.now.entries c.iter.ensures.rest) (λ x b q k. search (rules, tests))
