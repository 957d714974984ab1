-- Both are filled up.
use Rattle.std.proofs.Common.{◌≡◌, ◌∙◌, ◌++◌, ◌-◌, ap, false, length, take, rules}
use Rattle.std.specs.Prelude.{pos}
use Rattle.std.specs.Vec.{vec_len}
use Rattle.std.proofs.Math.ListN.{replicate}
use Rattle.operators.proofs.AddLemmas.{grown-both}
use Rattle.operators.proofs.sums.grow_both.Goals as goal

pub returns-clause-value : goal.returns-clause-value
returns-clause-value c =
    let values : vec_len c.args.values.now ≡ length c.args.values.now.items = search rules in
    let known : vec_len c.reserve.new.self ≡ length c.args.known.now.items = search rules in
    let grown = rw c.unwrap.ensures at c.resize-2.ensures.items in
    grown-both c.args.values.now.items _ c.args.known.now.items _ c.args.count c.requires.marked c.requires.more
    (c.in_ok-resize.ensures.items
    ∙ ap (λ n. take c.args.count c.args.values.now.items ++ replicate (c.args.count - n) (pos 0)) values)
    (grown ∙ (λ k. take c.args.count (c.in_ok-reserve.ensures.items k) ++ replicate (c.args.count - known k) false))
