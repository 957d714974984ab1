-- One batch more moved, or all were given back.
use Rattle.std.proofs.Common.{◌≡◌, ◌+◌, ◌∷◌, length, arith, rules, ap}
use Rattle.std.specs.Vec.{vec_len, vec_capacity}
use Rattle.std.specs.Vec.Iter.{into_iter_items, into_iter_len}
use Rattle.operators.proofs.MovingLemmas.{HasMerged-none, HasMerged-one, HasMerged-pays, HasMerged-refused, HasMerged-unasked}
use Rattle.operators.proofs.merging_picked.merge_picked.Goals as goal

pub returns-in_default-clause-calls : goal.returns-in_default-clause-calls
returns-in_default-clause-calls g c =
    HasMerged-unasked g.M.Memory.model c.args.at c.args.input.items _ _ c.release_batches.ensures.calls

pub loop-batch-init : goal.loop-batch-init
loop-batch-init g c =
    let all : into_iter_items c.into_iter-left.result ≡ c.args.input.items = c.into_iter-left.ensures.rest in
    let none = c.in-Ok.ensures.items in
    let start = HasMerged-none g.M.Memory.model c.args.at c.args.input.items c.args.token.now c.requires.pinned c.requires.budget in
    record {
      done = rw (all, none) start;
      counted = search rules;
      room = search rules;
    }

pub move_batch-requires : goal.move_batch-requires
move_batch-requires g c =
    let steps : into_iter_items c.loop-batch.left ≡ c.in-Some.batch ∷ into_iter_items c.next.new.self = c.in-Some.ensures.items in
    let before = rw steps at c.loop-batch.invariant.done in
    record {
      pinned = before.pinned;
      budget = HasMerged-pays g.M.Memory.model c.args.at _ _ _ c.in-Some.batch _ _ before;
    }

pub loop-batch-preserved : goal.loop-batch-preserved
loop-batch-preserved g c =
    let steps : into_iter_items c.loop-batch.left ≡ c.in-Some.batch ∷ into_iter_items c.next.new.self = c.in-Some.ensures.items in
    let before = rw steps at c.loop-batch.invariant.done in
    let counted : into_iter_len c.loop-batch.left ≡ length (into_iter_items c.loop-batch.left) = c.loop-batch.invariant.counted in
    let one_less : into_iter_len c.next.new.self + 1 ≡ into_iter_len c.loop-batch.left = c.in-Some.ensures.len in
    let same : length (into_iter_items c.loop-batch.left) ≡ length (into_iter_items c.next.new.self) + 1 =
    search (rules, ap length steps) in
    let room = c.loop-batch.invariant.room in
    let pushed : vec_len c.push_reserved.new.self ≡ vec_len c.loop-batch.moved + 1 = c.push_reserved.ensures.len in
    let capacity : vec_capacity c.push_reserved.new.self ≡ vec_capacity c.loop-batch.moved = c.push_reserved.ensures.capacity in
    record {
      done = rw c.push_reserved.ensures.items (HasMerged-one g.M.Memory.model c.args.at c.args.input.items
          (into_iter_items c.next.new.self) c.loop-batch.moved.items c.in-Some.batch c.in-Ok-move_batch.batch c.args.token.now
          c.loop-batch.token c.move_batch.new.token before c.in-Ok-move_batch.ensures.kinds c.in-Ok-move_batch.ensures.rows
          c.in-Ok-move_batch.ensures.calls);
      counted = omega arith;
      room = omega arith;
    }

pub returns-in-Err-clause-calls : goal.returns-in-Err-clause-calls
returns-in-Err-clause-calls g c =
    let steps : into_iter_items c.loop-batch.left ≡ c.in-Some.batch ∷ into_iter_items c.next.new.self = c.in-Some.ensures.items in
    let before = rw steps at c.loop-batch.invariant.done in
    HasMerged-refused g.M.Memory.model c.args.at c.args.input.items (into_iter_items c.next.new.self) c.loop-batch.moved.items
    c.in-Some.batch c.args.token.now c.loop-batch.token c.move_batch.new.token c.release_left.new.token
    c.release_batches-in-Err.new.token before c.in-Err.ensures.calls c.release_left.ensures.calls c.release_batches-in-Err.ensures.calls
