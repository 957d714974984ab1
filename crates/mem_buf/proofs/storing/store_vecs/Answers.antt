-- One more was stored, or the buffers were given back.
use Rattle.std.proofs.Common.{rules, ◌≡◌, ◌+◌, arith, [], ◌∷◌, ap, length, refl}
use Rattle.std.specs.Vec.{vec_len, vec_capacity}
use Rattle.std.specs.Vec.Iter.{into_iter_items}
use Rattle.mem_buf.proofs.StoringLemmas.{HasStored-none, HasStored-one, HasStored-refused, HasStored-unasked}
use Rattle.mem_buf.proofs.storing.store_vecs.Goals as goal

pub returns-in_default-clause-calls : goal.returns-in_default-clause-calls
returns-in_default-clause-calls g c = HasStored-unasked g.M.Memory.model c.args.at _ c.args.token.now

pub loop-input-init : goal.loop-input-init
loop-input-init g c =
    let given : into_iter_items c.into_iter-input-iterator.result ≡ c.args.inputs.items = search rules in
    let none : c.in-Ok.bufs.items ≡ [] = search rules in
    record {
      stored = rw given (rw none (HasStored-none g.M.Memory.model c.args.at _ c.args.token.now c.requires.budget));
      room = search rules;
    }

pub loop-input-preserved : goal.loop-input-preserved
loop-input-preserved g c =
    let next : into_iter_items c.loop-input.input-iterator ≡ c.in-Some.input ∷ into_iter_items c.next.new.self = c.in-Some.ensures.steps.0 in
    let stored = rw next at c.loop-input.invariant.stored in
    let calls = c.in-Ok-store_vec.ensures.calls in
    let one_less : length (into_iter_items c.loop-input.input-iterator) ≡ length (into_iter_items c.next.new.self) + 1 =
    search (rules, ap length next) in
    let capacity : vec_capacity c.push_reserved.new.self ≡ vec_capacity c.loop-input.bufs = c.push_reserved.ensures.capacity in
    let filled : vec_len c.push_reserved.new.self ≡ vec_len c.loop-input.bufs + 1 = c.push_reserved.ensures.len in
    let before = c.loop-input.invariant.room in
    record {
      stored = rw c.push_reserved.ensures.items (HasStored-one g.M.Memory.model c.args.at _ _ _ c.loop-input.bufs.items
          c.in-Ok-store_vec.buf calls.0 _ _ _ stored c.in-Ok-store_vec.ensures.stored calls.1 calls.2);
      room = omega arith;
    }

pub returns-in-Err-clause-calls : goal.returns-in-Err-clause-calls
returns-in-Err-clause-calls g c =
    let stored = rw c.in-Some.ensures.steps.0 at c.loop-input.invariant.stored in
    HasStored-refused g.M.Memory.model c.args.at _ _ _ _ c.loop-input.bufs.items c.in-Err.refused _ _ _ _ refl stored
    c.in-Err.ensures.calls c.give_back.ensures.calls
