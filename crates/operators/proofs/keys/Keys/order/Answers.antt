-- One key more, the sort, and one place more.
use Rattle.std.proofs.Common.{◌<◌, ◌≤◌, ◌∙◌, ap, arith, length, map, refl, rules}
use Rattle.std.proofs.lemmas.List.{length-map, take_all}
use Rattle.operators.proofs.GatherLemmas.{mapped-all, mapped-more}
use Rattle.operators.proofs.KeyLemmas.{seen-key}
use Rattle.operators.proofs.OrderLemmas.{named-more, order-is}
use Rattle.operators.proofs.keys.Keys.order.Goals as goal

pub keys-preserved : goal.keys-preserved
keys-preserved c =
    let long = ap length c.self.view_is in
    let size = length-map c.self.inside.keys.keys (λ one. one.items) in
    let lent = ap length c.as_slice-keys.ensures.keys in
    let within : c.keys.place < length c.args.self.now = omega (arith, long, size, lent, c.keys-test.true) in
    let key = c.as_slice.ensures.value
    ∙ seen-key c.self.inside.keys.keys _ c.args.self.now c.keys.place c.index-keys-place.result c.as_slice-keys.ensures.keys
    c.self.view_is within
    c.index-keys-place.is in
    let more = named-more c.args.self.now _ _ c.keys.place c.as_slice.result within key c.push_reserved.ensures.items c.keys.invariant.keys
    c.keys.invariant.found in
    record { keys = more.0; found = more.1; filled = search rules; room = search rules }

pub named-preserved : goal.named-preserved
named-preserved c = record {
  order = mapped-more (λ one. one.1) c.deref-one-items.result.now c.named.one-index _ _ _ _ c.named-test.true
      c.push_reserved-in-named.ensures.items c.named.invariant.order refl;
  filled = search rules;
  room = search rules;
}

pub returns-clause-within : goal.returns-clause-within
returns-clause-within c =
    let long = ap length c.self.view_is in
    let size = length-map c.self.inside.keys.keys (λ one. one.items) in
    let lent = ap length c.as_slice-keys.ensures.keys in
    let behind : length c.args.self.now ≤ c.keys.place = omega (arith, long, size, lent, c.keys-test.false) in
    let keys = c.keys.invariant.keys ∙ take_all c.keys.place c.args.self.now behind in
    (order-is c.self.inside.keys.keys c.args.self.now c.keys.named.items c.sort_unstable.new.self.items c.named.order.items c.self.view_is
    c.as_slice-keys.ensures.unique keys c.keys.invariant.found c.sort_unstable.ensures.permutation c.sort_unstable.ensures.sorted
    (mapped-all (λ one. one.1) c.deref-one-items.result.now c.named.one-index _ c.named-test.false c.named.invariant.order
    ∙ ap (map (λ one. one.1)) c.deref-one-items.ensures.value)).0

pub returns-clause-order : goal.returns-clause-order
returns-clause-order c =
    let long = ap length c.self.view_is in
    let size = length-map c.self.inside.keys.keys (λ one. one.items) in
    let lent = ap length c.as_slice-keys.ensures.keys in
    let behind : length c.args.self.now ≤ c.keys.place = omega (arith, long, size, lent, c.keys-test.false) in
    let keys = c.keys.invariant.keys ∙ take_all c.keys.place c.args.self.now behind in
    (order-is c.self.inside.keys.keys c.args.self.now c.keys.named.items c.sort_unstable.new.self.items c.named.order.items c.self.view_is
    c.as_slice-keys.ensures.unique keys c.keys.invariant.found c.sort_unstable.ensures.permutation c.sort_unstable.ensures.sorted
    (mapped-all (λ one. one.1) c.deref-one-items.result.now c.named.one-index _ c.named-test.false c.named.invariant.order
    ∙ ap (map (λ one. one.1)) c.deref-one-items.ensures.value)).1
