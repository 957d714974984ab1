-- One batch more was given back.
use Rattle.std.proofs.Common.{◌≡◌, ◌+◌, ◌∷◌, length, arith, rules, ap}
use Rattle.std.specs.Vec.Iter.{into_iter_items, into_iter_len}
use Rattle.operators.proofs.InsteadLemmas.{HasReleased-one}
use Rattle.operators.proofs.storing_instead.release_left.Goals as goal

pub loop-batch-preserved : goal.loop-batch-preserved
loop-batch-preserved g c =
    let steps : into_iter_items c.loop-batch.left ≡ c.in-Some.batch ∷ into_iter_items c.next.new.self = c.in-Some.ensures.items in
    let before = rw steps at c.loop-batch.invariant.0 in
    let counted : into_iter_len c.loop-batch.left ≡ length (into_iter_items c.loop-batch.left) = c.loop-batch.invariant.1 in
    let one_less : into_iter_len c.next.new.self + 1 ≡ into_iter_len c.loop-batch.left = c.in-Some.ensures.len in
    let same : length (into_iter_items c.loop-batch.left) ≡ length (into_iter_items c.next.new.self) + 1 =
    search (rules, ap length steps) in
    (HasReleased-one g.M.Memory.model _ _ _ _ _ _ before c.release_batch.ensures.calls, omega arith)
