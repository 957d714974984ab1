use Rattle.std.proofs.Common.{◌≡◌, List, Some}
use Rattle.mem_model.specs.declared.charge.Charge.{Charge}
use Rattle.mem_model.specs.Balance.{ExceedsByAmount}
use Rattle.alloc_tree.specs.Rows.{nodes_in, held_by, peaks_in, IsOpenAt}
use Rattle.alloc_tree.specs.Walk.{KeepsNodes}
use Rattle.alloc_tree.proofs.walk.lower.Given as goal

abbrev pub invariant-loop-pending : goal.invariant-loop-pending
invariant-loop-pending l = record {
  kept : KeepsNodes l.initial.rows l.rows;
  open_ : IsOpenAt l.rows l.level.0;
  peaks : peaks_in l.rows ≡ peaks_in l.initial.rows;
  exceeds : (charges : List Charge)
      → ExceedsByAmount (nodes_in l.initial.rows) charges (held_by l.initial.rows) (Some l.fn.at) l.fn.amount
      → ExceedsByAmount (nodes_in l.initial.rows) charges (held_by l.rows) (Some l.level) l.pending;
}

abbrev pub decreases-loop-pending : goal.decreases-loop-pending
decreases-loop-pending l = l.level.0
