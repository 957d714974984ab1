-- One more was stored, or the buffers were given back.
use Rattle.std.proofs.Common.{◌≡◌, ◌+◌, arith, ◌∙◌}
use Rattle.std.specs.Vec.{vec_len, vec_capacity}
use Rattle.mem_buf.specs.View.{bytes_in}
use Rattle.mem_buf.proofs.StoringLemmas.{HasStored-one, HasStored-refused, HasStored-unasked, left-cons}
use Rattle.uses.proofs.memories.store_all.Goals as goal

pub returns-in_default-clause-calls : goal.returns-in_default-clause-calls
returns-in_default-clause-calls g c = HasStored-unasked g.M.Memory.model c.args.at _ c.args.token.now

pub returns-in-Err-clause-calls : goal.returns-in-Err-clause-calls
returns-in-Err-clause-calls g c =
    let next = left-cons (λ input. input.items) c.args.inputs.now c.loop-input.input-index c.input-item.result c.loop-input-test.true
    c.input-item.is in
    let stored = rw next at c.loop-input.invariant.stored in
    HasStored-refused g.M.Memory.model c.args.at _ _ _ _ c.loop-input.bufs.items c.in-Err.refused _ _ _ _
    c.as_slice.ensures.value stored c.in-Err.ensures.calls c.give_back.ensures.calls

pub loop-input-preserved : goal.loop-input-preserved
loop-input-preserved g c =
    let next = left-cons (λ input. input.items) c.args.inputs.now c.loop-input.input-index c.input-item.result c.loop-input-test.true
    c.input-item.is in
    let stored = rw next at c.loop-input.invariant.stored in
    let calls = rw c.as_slice.ensures.value at c.in-Ok-store_bytes.ensures.calls in
    let bytes : bytes_in c.in-Ok-store_bytes.buf.view ≡ c.input-item.result.items =
    c.in-Ok-store_bytes.ensures.stored ∙ c.as_slice.ensures.value in
    let capacity : vec_capacity c.push_reserved.new.self ≡ vec_capacity c.loop-input.bufs = c.push_reserved.ensures.capacity in
    let filled : vec_len c.push_reserved.new.self ≡ vec_len c.loop-input.bufs + 1 = c.push_reserved.ensures.len in
    let before = c.loop-input.invariant.filled in
    let room = c.loop-input.invariant.room in
    record {
      stored = rw c.push_reserved.ensures.items (HasStored-one g.M.Memory.model c.args.at _ _ _
          c.loop-input.bufs.items c.in-Ok-store_bytes.buf calls.0 _ _ _ stored bytes calls.1 calls.2);
      filled = omega arith;
      room = omega arith;
    }
