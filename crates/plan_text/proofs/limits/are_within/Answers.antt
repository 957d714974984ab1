use Rattle.std.proofs.Common.{ℕ, nat_le, rules, tests}
use Rattle.std.proofs.lemmas.Iterator.{YieldsList-from_slice, YieldsList-from_zip}
use Rattle.std.proofs.lemmas.Iterator.Search.{all_from_yields_List}
use Rattle.plan_text.proofs.limits.are_within.Goals as goal

pub returns : goal.returns
returns c =
    all_from_yields_List (λ (both : ℕ × ℕ). nat_le both.0 both.1) c.all.new.self _ c.all.result c.all.ensures.ran
    (YieldsList-from_zip (YieldsList-from_slice c.args.reserves.now (search rules))
    (YieldsList-from_slice c.args.limits.now (search rules)))
    (λ x b q k. search (rules, tests))
