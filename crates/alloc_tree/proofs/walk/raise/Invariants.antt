use Rattle.std.proofs.Common.{◌≡◌, ℕ, ◌≤◌, List, Some}
use Rattle.mem_model.specs.declared.charge.Charge.{Charge}
use Rattle.alloc_tree.specs.Rows.{nodes_in, held_by, peaks_in, HoldCharges, IsOpenAt}
use Rattle.alloc_tree.specs.Walk.{KeepsNodes}
use Rattle.alloc_tree.proofs.WalkLemmas.{IsRaising}
use Rattle.alloc_tree.proofs.walk.raise.Given as goal

abbrev pub invariant-loop-pending : goal.invariant-loop-pending
invariant-loop-pending l = record {
  kept : KeepsNodes l.initial.rows l.rows;
  open_ : IsOpenAt l.rows l.level.0;
  least : l.pending ≤ l.fn.amount;
  fits : (n : ℕ) → n ≤ l.level.0 → held_by l.rows n ≡ held_by l.initial.rows n;
  charged : (charges : List Charge) → HoldCharges l.initial.rows charges
      → IsRaising l.fn.is_forced (nodes_in l.initial.rows) charges (record { at = l.fn.at; amount = l.fn.amount })
      (held_by l.initial.rows) (peaks_in l.initial.rows) (held_by l.rows) (peaks_in l.rows) (Some l.level) l.pending l.refusal;
}

abbrev pub decreases-loop-pending : goal.decreases-loop-pending
decreases-loop-pending l = l.level.0
