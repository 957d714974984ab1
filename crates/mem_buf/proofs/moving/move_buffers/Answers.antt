-- One more moved, or all was given back.
use Rattle.std.proofs.Common.{◌≡◌, ◌+◌, ◌∷◌, length, arith, rules, ap}
use Rattle.std.specs.Vec.{vec_len, vec_capacity}
use Rattle.std.specs.Vec.Iter.{into_iter_items, into_iter_len}
use Rattle.mem_buf.proofs.MovingLemmas.{HasMoved-none, HasMoved-one, HasMoved-refused, HasMoved-unasked}
use Rattle.mem_buf.proofs.moving.move_buffers.Goals as goal

pub returns-in_default-clause-calls : goal.returns-in_default-clause-calls
returns-in_default-clause-calls g c = HasMoved-unasked g.M.Memory.model c.args.target c.args.bufs.items _ _ c.give_back.ensures.calls

pub loop-buf-init : goal.loop-buf-init
loop-buf-init g c =
    let all : into_iter_items c.into_iter-left.result ≡ c.args.bufs.items = c.into_iter-left.ensures.rest in
    let none = c.in-Ok.ensures.items in
    let start = HasMoved-none g.M.Memory.model c.args.target c.args.bufs.items c.args.token.now c.requires.budget in
    record {
      done = rw (all, none) start;
      counted = search rules;
      room = search rules;
    }

pub loop-buf-preserved : goal.loop-buf-preserved
loop-buf-preserved g c =
    let steps : into_iter_items c.loop-buf.left ≡ c.in-Some.buf ∷ into_iter_items c.next.new.self = c.in-Some.ensures.items in
    let before = rw steps at c.loop-buf.invariant.done in
    let counted : into_iter_len c.loop-buf.left ≡ length (into_iter_items c.loop-buf.left) = c.loop-buf.invariant.counted in
    let one_less : into_iter_len c.next.new.self + 1 ≡ into_iter_len c.loop-buf.left = c.in-Some.ensures.len in
    let same : length (into_iter_items c.loop-buf.left) ≡ length (into_iter_items c.next.new.self) + 1 = search (rules, ap length steps) in
    let room = c.loop-buf.invariant.room in
    let pushed : vec_len c.push_reserved.new.self ≡ vec_len c.loop-buf.moved + 1 = c.push_reserved.ensures.len in
    let capacity : vec_capacity c.push_reserved.new.self ≡ vec_capacity c.loop-buf.moved = c.push_reserved.ensures.capacity in
    record {
      done = rw c.push_reserved.ensures.items (HasMoved-one g.M.Memory.model c.args.target c.args.bufs.items
          (into_iter_items c.next.new.self) c.loop-buf.moved.items c.in-Some.buf c.in-Ok-move_one.buf c.args.token.now c.loop-buf.token c.move_one.new.token before
          c.in-Ok-move_one.ensures.calls);
      counted = omega arith;
      room = omega arith;
    }

pub returns-in-Err-clause-calls : goal.returns-in-Err-clause-calls
returns-in-Err-clause-calls g c =
    let steps : into_iter_items c.loop-buf.left ≡ c.in-Some.buf ∷ into_iter_items c.next.new.self = c.in-Some.ensures.items in
    let before = rw steps at c.loop-buf.invariant.done in
    HasMoved-refused g.M.Memory.model c.args.target c.args.bufs.items (into_iter_items c.next.new.self) c.loop-buf.moved.items
    c.in-Some.buf c.in-Err.buf c.in-Err.refused c.release.result c.args.token.now c.loop-buf.token c.move_one.new.token c.release.new.token c.give_back_rest.new.token
    c.give_back-in-Err.new.token before c.in-Err.ensures.calls c.release.ensures.makes c.give_back_rest.ensures.calls c.give_back-in-Err.ensures.calls
