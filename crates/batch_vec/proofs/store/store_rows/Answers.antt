-- The rows stand in the buffers that were granted, or one was refused.
use Rattle.std.proofs.Common.{◌≡◌, length, map, sym, ◌∙◌, ap, subst}
use Rattle.mem_num.specs.declared.buffer_refused.BufferRefused.TheVariants as buffer
use Rattle.mem_buf.specs.Answers.{IsPastLimit}
use Rattle.mem_buf.specs.Callers.{CanPay}
use Rattle.mem_buf.specs.Storing.{granted_of}
use Rattle.mem_buf.proofs.StoringLemmas.{HasStored-unasked}
use Rattle.batch_vec.specs.Batches.{bytes_of}
use Rattle.batch_vec.proofs.RefusalLemmas.{full_past, never_closed, never_too_large}
use Rattle.batch_vec.proofs.StoredLemmas.{rows_back, stored_back}
use Rattle.batch_vec.proofs.StoreLemmas.{granted_lengths, granted_references, refused_as, requests_are, sizes_short, sizes_small}
use Rattle.batch_vec.proofs.StoreLemmas.{stored_whole}
use Rattle.batch_vec.proofs.store.store_rows.Goals as goal

pub returns-in_default-clause-calls : goal.returns-in_default-clause-calls
returns-in_default-clause-calls g c = HasStored-unasked g.M.Memory.model c.args.at _ c.args.token.now

pub store_vecs-requires : goal.store_vecs-requires
store_vecs-requires g c =
    let lengths = requests_are c.args.rows.now.kinds c.args.rows.now.rows _ c.in-Ok.ensures.bytes in
    record { budget = subst (CanPay (g.M.Memory.model.view c.args.token.now) c.args.at) (sym lengths) c.requires.budget }

pub invariant_of-result : goal.invariant_of-result
invariant_of-result g c =
    let short = sizes_short c.args.rows.now.kinds c.args.rows.now.rows c.requires.sized in
    stored_back c.len-count.result c.in-Ok.field-0.kinds.items (bytes_of c.in-Ok-store_vecs.buffers.items) c.args.rows.now.rows
    (stored_whole c.args.rows.now.kinds c.args.rows.now.rows c.len-count.result _ _ _ c.in-Ok.ensures.kinds c.len-count.ensures.value
    c.len-count.ensures.typed short c.in-Ok-store_vecs.ensures.stored c.in-Ok.ensures.bytes)

pub returns-in-Ok-store_vecs-clause-rows : goal.returns-in-Ok-store_vecs-clause-rows
returns-in-Ok-store_vecs-clause-rows g c =
    let short = sizes_short c.args.rows.now.kinds c.args.rows.now.rows c.requires.sized in
    rows_back c.len-count.result c.in-Ok.field-0.kinds.items (bytes_of c.in-Ok-store_vecs.buffers.items) c.args.rows.now.rows
    (stored_whole c.args.rows.now.kinds c.args.rows.now.rows c.len-count.result _ _ _ c.in-Ok.ensures.kinds c.len-count.ensures.value
    c.len-count.ensures.typed short c.in-Ok-store_vecs.ensures.stored c.in-Ok.ensures.bytes)

pub returns-in-Ok-store_vecs-clause-calls : goal.returns-in-Ok-store_vecs-clause-calls
returns-in-Ok-store_vecs-clause-calls g c =
    let reference = g.M.Memory.model.reference in
    let bufs = c.in-Ok-store_vecs.buffers.items in
    let lengths = ap (map length) c.in-Ok-store_vecs.ensures.stored
    ∙ requests_are c.args.rows.now.kinds c.args.rows.now.rows _ c.in-Ok.ensures.bytes in
    let runs = c.in-Ok-store_vecs.ensures.calls in
    (runs.0, runs.1, (map (granted_of reference) bufs, runs.2, granted_lengths reference bufs _ lengths, granted_references reference bufs))

pub returns-in-Err-Full-clause-calls : goal.returns-in-Err-Full-clause-calls
returns-in-Err-Full-clause-calls g c =
    let lengths = requests_are c.args.rows.now.kinds c.args.rows.now.rows _ c.in-Ok.ensures.bytes in
    refused_as g.M.Memory.model c.args.at _ _ _ (buffer.Full c.in-Err-Full.full) c.args.token.now c.store_vecs.new.token lengths
    c.in-Err-Full.field-0-is c.in-Err-Full.ensures.calls

pub returns-in-Err-Full-clause-full : goal.returns-in-Err-Full-clause-full
returns-in-Err-Full-clause-full g c = λ full is.
    let same : c.in-Err-Full.full ≡ full = cc is in
    let lengths = requests_are c.args.rows.now.kinds c.args.rows.now.rows _ c.in-Ok.ensures.bytes in
    subst (IsPastLimit (g.M.Memory.model.view c.args.token.now)) same
    (full_past g.M.Memory.model c.args.at _ c.args.token.now c.store_vecs.new.token c.in-Err-Full.full
    (refused_as g.M.Memory.model c.args.at _ _ _ (buffer.Full c.in-Err-Full.full) c.args.token.now c.store_vecs.new.token lengths
    c.in-Err-Full.field-0-is c.in-Err-Full.ensures.calls))

pub returns-in-Err-TooLarge-clause-calls : goal.returns-in-Err-TooLarge-clause-calls
returns-in-Err-TooLarge-clause-calls g c =
    let lengths = requests_are c.args.rows.now.kinds c.args.rows.now.rows _ c.in-Ok.ensures.bytes in
    let small = sizes_small c.args.rows.now.kinds c.args.rows.now.rows (g.M.Memory.model.view c.args.token.now) c.args.at
    c.requires.budget.named c.requires.sized in
    absurd (never_too_large g.M.Memory.model c.args.at _ c.args.token.now c.store_vecs.new.token c.in-Err-TooLarge.field-0-0
    small (refused_as g.M.Memory.model c.args.at _ _ _ (buffer.TooLarge c.in-Err-TooLarge.field-0-0) c.args.token.now
    c.store_vecs.new.token lengths c.in-Err-TooLarge.field-0-is c.in-Err-TooLarge.ensures.calls))

pub returns-in-Err-Closed-clause-calls : goal.returns-in-Err-Closed-clause-calls
returns-in-Err-Closed-clause-calls g c =
    let lengths = requests_are c.args.rows.now.kinds c.args.rows.now.rows _ c.in-Ok.ensures.bytes in
    absurd (never_closed g.M.Memory.model c.args.at _ c.args.token.now c.store_vecs.new.token c.in-Err-Closed.field-0-0
    c.requires.pinned (refused_as g.M.Memory.model c.args.at _ _ _ (buffer.Closed c.in-Err-Closed.field-0-0) c.args.token.now
    c.store_vecs.new.token lengths c.in-Err-Closed.field-0-is c.in-Err-Closed.ensures.calls))

pub returns-clause-calls : goal.returns-clause-calls
returns-clause-calls g c =
    let lengths = requests_are c.args.rows.now.kinds c.args.rows.now.rows _ c.in-Ok.ensures.bytes in
    refused_as g.M.Memory.model c.args.at _ _ _ buffer.NoMemory c.args.token.now c.store_vecs.new.token lengths
    c.in-Err-NoMemory.field-0-is c.in-Err-NoMemory.ensures.calls
