-- One more was given back.
use Rattle.std.proofs.Common.{◌≡◌, ◌+◌, ◌∷◌, length, arith, rules, ap}
use Rattle.std.specs.Vec.Iter.{into_iter_items, into_iter_len}
use Rattle.mem_buf.proofs.GiveBackLemmas.{HasGivenBack-one}
use Rattle.mem_buf.proofs.giving_back.give_back_rest.Goals as goal

pub loop-buf-preserved : goal.loop-buf-preserved
loop-buf-preserved g c =
    let steps : into_iter_items c.loop-buf.left ≡ c.in-Some.buf ∷ into_iter_items c.next.new.self = c.in-Some.ensures.items in
    let before = rw steps at c.loop-buf.invariant.0 in
    let counted : into_iter_len c.loop-buf.left ≡ length (into_iter_items c.loop-buf.left) = c.loop-buf.invariant.1 in
    let one_less : into_iter_len c.next.new.self + 1 ≡ into_iter_len c.loop-buf.left = c.in-Some.ensures.len in
    let same : length (into_iter_items c.loop-buf.left) ≡ length (into_iter_items c.next.new.self) + 1 =
    search (rules, ap length steps) in
    (HasGivenBack-one g.M.Memory.model _ _ _ _ _ _ _ _ before c.release.ensures.makes, omega arith)
