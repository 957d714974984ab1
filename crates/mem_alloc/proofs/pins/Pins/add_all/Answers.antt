use Rattle.std.proofs.Common.{◌≡◌, ◌+◌, ℕ, List, arith, length-set, subst}
use Rattle.std.specs.List.{slice_index}
use Rattle.mem_alloc.proofs.PinLemmas.{summed_more, summed_all, set_small}
use Rattle.mem_alloc.proofs.pins.Pins.add_all.Goals as goal

pub loop-place-preserved : goal.loop-place-preserved
loop-place-preserved g c =
    let was = c.loop-place.invariant in
    let more = summed_more c.self.inside.counts c.others.inside.counts c.loop-place.self-inside.counts c.loop-place.place c.sum.result (omega arith) c.sum.ensures.value was.0 was.1 in
    (more.0, more.1, simp length-set was.2, set_small c.loop-place.self-inside.counts c.loop-place.place c.sum.result was.3 c.sum.type_inv)

pub returns : goal.returns
returns g c =
    let was = c.loop-place.invariant in
    let all = summed_all c.self.inside.counts c.others.inside.counts c.loop-place.self-inside.counts c.loop-place.place c.self.told c.others.told was.2 c.loop-place-test.false was.0 in
    let P : List ℕ → Type 0 = λ xs. (n : ℕ) → slice_index c.loop-place.self-inside.counts n ≡ slice_index xs n + slice_index c.args.others.now n in
    let Q : List ℕ → Type 0 = λ ys. (n : ℕ) → slice_index c.loop-place.self-inside.counts n ≡ slice_index c.self.inside.counts n + slice_index ys n in
    record { more = subst P c.self.view_is (subst Q c.others.view_is all) }

pub invariant_of-self : goal.invariant_of-self
invariant_of-self g c = c.loop-place.invariant.3
