-- The buffers of the batch moved, or were given back.
use Rattle.std.proofs.Common.{ap, ◌∙◌}
use Rattle.mem_num.specs.declared.ref_refused.RefRefused.TheVariants as sharing
use Rattle.batch_vec.specs.Batches.{bytes_of}
use Rattle.batch_vec.specs.Columns.{rows_in}
use Rattle.batch_vec.proofs.MovingLemmas.{bytes_kept, can_share, moved_as, stored_kept, unmoved_as, unmoved_closed}
use Rattle.batch_vec.proofs.moving.move_batch.Goals as goal

pub move_buffers-requires : goal.move_buffers-requires
move_buffers-requires g c = record {
  budget = can_share g.M.Memory.model c.args.at _ _ (ap (λ batch. batch.holds) c.batch.view_is) _ c.requires.budget;
}

pub invariant_of-result : goal.invariant_of-result
invariant_of-result g c =
    stored_kept c.batch.inside.count c.batch.inside.kinds.items (bytes_of c.in-Ok.buffers.items) _
    (bytes_kept _ c.batch.inside.buffers.items c.in-Ok.ensures.views) c.batch.invariant

pub returns-in-Ok-clause-rows : goal.returns-in-Ok-clause-rows
returns-in-Ok-clause-rows g c =
    ap (rows_in c.batch.inside.count c.batch.inside.kinds.items) (bytes_kept _ c.batch.inside.buffers.items c.in-Ok.ensures.views)
    ∙ ap (λ batch. batch.rows) c.batch.view_is

pub returns-in-Ok-clause-calls : goal.returns-in-Ok-clause-calls
returns-in-Ok-clause-calls g c =
    moved_as g.M.Memory.model c.args.at _ _ (ap (λ batch. batch.holds) c.batch.view_is) c.in-Ok.buffers.items _ _ c.in-Ok.ensures.calls

pub returns-in-Err-Closed-clause-calls : goal.returns-in-Err-Closed-clause-calls
returns-in-Err-Closed-clause-calls g c =
    absurd (unmoved_closed g.M.Memory.model c.args.at _ _ (ap (λ batch. batch.holds) c.batch.view_is) _ c.in-Err-Closed.field-0-0 _ _
    c.in-Err-Closed.field-0-is c.requires.pinned c.in-Err-Closed.ensures.calls)

pub returns-clause-calls : goal.returns-clause-calls
returns-clause-calls g c =
    unmoved_as g.M.Memory.model c.args.at _ _ (ap (λ batch. batch.holds) c.batch.view_is) _ sharing.NoMemory _ _
    c.in-Err-NoMemory.field-0-is c.in-Err-NoMemory.ensures.calls
