use Rattle.std.proofs.Common.{arith, ◌∙◌, Some}
use Rattle.mem_model.proofs.BalanceLemmas.{exceeds_nothing}
use Rattle.alloc_tree.specs.Rows.{nodes_in, held_by}
use Rattle.alloc_tree.proofs.RaiseLemmas.{at_row, parent_older, parent_open}
use Rattle.alloc_tree.proofs.LowerLemmas.{lower_keeps_nodes, lower_keeps_peaks, lower_goes_on, lower_ends_at_root, level_holds}
use Rattle.alloc_tree.proofs.walk.lower.Goals as goal

pub overflow_sub-held : goal.overflow_sub-held
overflow_sub-held c =
    let i = c.loop-pending.invariant in
    let h = at_row c.loop-pending.level c.row_of-row.result c.requires.tree i.kept i.open_ c.row_of-row.ensures in
    level_holds h c.loop-pending.pending c.requires.covered.0 (i.exceeds c.requires.covered.0 c.requires.covered.1)

pub loop-pending-smaller : goal.loop-pending-smaller
loop-pending-smaller c =
    let i = c.loop-pending.invariant in
    parent_older (at_row c.loop-pending.level c.row_of-row.result c.requires.tree i.kept i.open_ c.row_of-row.ensures) c.in-Some.is

pub loop-pending-preserved : goal.loop-pending-preserved
loop-pending-preserved c =
    let i = c.loop-pending.invariant in
    let h = at_row c.loop-pending.level c.row_of-row.result c.requires.tree i.kept i.open_ c.row_of-row.ensures in
    let kept = lower_keeps_nodes h c.loop-pending.pending in
    rw (c.beyond_reservation-pending.ensures) (record {
      kept = kept;
      open_ = parent_open h kept c.in-Some.is;
      peaks = lower_keeps_peaks h c.loop-pending.pending ∙ i.peaks;
      exceeds = λ charges owed. lower_goes_on h c.loop-pending.pending charges _ c.in-Some.is (i.exceeds charges owed);
    })

pub returns-after-loop-pending-clause-released : goal.returns-after-loop-pending-clause-released
returns-after-loop-pending-clause-released c = λ charges owed.
    let l = c.loop-pending in
    exceeds_nothing (nodes_in c.args.rows.now) charges (held_by l.rows) (Some l.level) l.pending (omega (arith, c.loop-pending-test.false))
    (l.invariant.exceeds charges owed)

pub returns-in_default : goal.returns-in_default
returns-in_default c =
    let i = c.loop-pending.invariant in
    let h = at_row c.loop-pending.level c.row_of-row.result c.requires.tree i.kept i.open_ c.row_of-row.ensures in
    record {
      kept = lower_keeps_nodes h c.loop-pending.pending;
      peaks = lower_keeps_peaks h c.loop-pending.pending ∙ i.peaks;
      released = λ charges owed. lower_ends_at_root h c.loop-pending.pending charges c.in_default.is (i.exceeds charges owed);
    }
