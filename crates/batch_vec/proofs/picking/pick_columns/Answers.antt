-- The picked columns stand in their buffers.
use Rattle.std.proofs.Common.{◌≡◌, ◌*◌, ◌<◌, All, List, length, map, ap, sym, ◌∙◌, subst, arith, rules}
use Rattle.query_model.specs.Answer.{picked}
use Rattle.query_model.specs.Requests.{picked_kinds}
use Rattle.query_model.specs.SequentialCalls.{unpicked}
use Rattle.batch_vec.specs.Batches.{bytes_of}
use Rattle.batch_vec.specs.Columns.{rows_in}
use Rattle.batch_vec.specs.Moving.{of_columns}
use Rattle.batch_vec.proofs.BackLemmas.{buffers_many}
use Rattle.batch_vec.proofs.PickedLemmas.{of_columns-map, picked_batch}
use Rattle.batch_vec.proofs.StoredLemmas.{rows_back, stored_back}
use Rattle.batch_vec.proofs.picking.pick_columns.Goals as goal

pub take_columns-requires-clause-two : goal.take_columns-requires-clause-two
take_columns-requires-clause-two g c =
    let many = buffers_many c.batch.inside.count c.batch.inside.kinds.items c.batch.inside.buffers.items _ c.batch.invariant in
    let same : c.len.result ≡ length c.batch.inside.kinds.items = search rules in
    many ∙ ap (λ n. 2 * n) (sym same)

pub invariant_of-result : goal.invariant_of-result
invariant_of-result g c =
    stored_back c.batch.inside.count c.in-Ok.kinds.items _ _
    (picked_batch c.batch.inside.count c.batch.inside.kinds.items c.args.batch.kinds c.in-Ok.kinds.items c.args.picks.now
    c.batch.inside.buffers.items c.in-Ok-take_columns.field-0.picked.items (ap (λ batch. batch.kinds) c.batch.view_is)
    (c.in-Ok.ensures.value ∙ ap (λ kinds. picked_kinds kinds c.args.picks.now) c.kinds.ensures.value) c.requires.within
    c.in-Ok-take_columns.ensures.picked c.batch.invariant)

pub returns-in-Ok-take_columns-clause-rows : goal.returns-in-Ok-take_columns-clause-rows
returns-in-Ok-take_columns-clause-rows g c =
    rows_back c.batch.inside.count c.in-Ok.kinds.items _ _
    (picked_batch c.batch.inside.count c.batch.inside.kinds.items c.args.batch.kinds c.in-Ok.kinds.items c.args.picks.now
    c.batch.inside.buffers.items c.in-Ok-take_columns.field-0.picked.items (ap (λ batch. batch.kinds) c.batch.view_is)
    (c.in-Ok.ensures.value ∙ ap (λ kinds. picked_kinds kinds c.args.picks.now) c.kinds.ensures.value) c.requires.within
    c.in-Ok-take_columns.ensures.picked c.batch.invariant)
    ∙ ap (λ batch. map (picked c.args.picks.now) batch.rows) c.batch.view_is

pub returns-in-Ok-take_columns-clause-holds : goal.returns-in-Ok-take_columns-clause-holds
returns-in-Ok-take_columns-clause-holds g c =
    ap (map (λ buffer. buffer.hold)) c.in-Ok-take_columns.ensures.picked
    ∙ sym (of_columns-map (λ buffer. buffer.hold) c.batch.inside.buffers.items c.args.picks.now)
    ∙ ap (λ batch. of_columns batch.holds c.args.picks.now) c.batch.view_is

pub returns-in-Ok-take_columns-clause-rest : goal.returns-in-Ok-take_columns-clause-rest
returns-in-Ok-take_columns-clause-rest g c =
    let same : c.len.result ≡ length c.batch.inside.kinds.items = search rules in
    ap (map (λ buffer. buffer.hold)) c.in-Ok-take_columns.ensures.rest
    ∙ sym (of_columns-map (λ buffer. buffer.hold) c.batch.inside.buffers.items (unpicked c.len.result c.args.picks.now))
    ∙ ap (λ n. of_columns (map (λ buffer. buffer.hold) c.batch.inside.buffers.items) (unpicked n c.args.picks.now)) same
    ∙ ap (λ batch. of_columns batch.holds (unpicked (length batch.kinds) c.args.picks.now)) c.batch.view_is
