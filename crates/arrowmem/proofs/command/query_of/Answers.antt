-- Words that are no two and no four are no query.
use Rattle.std.proofs.Common.{arith, length, sym, ◌≡◌}
use Rattle.arrowmem.proofs.CommandLemmas.{query_of-none}
use Rattle.arrowmem.proofs.command.query_of.Goals as goal

pub returns-in-len1 : goal.returns-in-len1
returns-in-len1 c = sym
    (query_of-none _ (λ (is : length c.args.words.now ≡ 2). omega (arith, is, c.in-len1.len_below))
    (λ (is : length c.args.words.now ≡ 4). omega (arith, is, c.in-len1.len_below)))

pub returns-in-len3 : goal.returns-in-len3
returns-in-len3 c = sym
    (query_of-none _ (λ (is : length c.args.words.now ≡ 2). omega (arith, is, c.in-len3.len_at_least))
    (λ (is : length c.args.words.now ≡ 4). omega (arith, is, c.in-len3.len_below)))

pub returns-in-len5-up : goal.returns-in-len5-up
returns-in-len5-up c = sym
    (query_of-none _ (λ (is : length c.args.words.now ≡ 2). omega (arith, is, c.in-len5-up.len_at_least))
    (λ (is : length c.args.words.now ≡ 4). omega (arith, is, c.in-len5-up.len_at_least)))
