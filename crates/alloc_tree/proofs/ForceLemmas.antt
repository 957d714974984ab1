-- A forced charge, and one that moves, over rows.
use Rattle.std.proofs.Common.{◌≡◌, ℕ, List, Bool, true, false, not, is_some, Option, Some, None, refl, sym, ap, subst, ◌∙◌}
use Rattle.std.proofs.Common.{arith}
use Rattle.std.proofs.lemmas.List.Sums.{sum_by-cons}
use Rattle.mem_num.specs.declared.alloc_id.AllocId.{AllocId}
use Rattle.mem_num.specs.declared.full.Full.{Full}
use Rattle.mem_model.specs.declared.charge.Charge.{Charge}
use Rattle.mem_model.specs.declared.tree_node.TreeNode.{TreeNode}
use Rattle.mem_model.specs.Charge.{amount_at}
use Rattle.mem_model.specs.Balance.{Balances, ExceedsByAmount}
use Rattle.mem_model.specs.Request.{refusing_level}
use Rattle.alloc_tree.specs.declared.row.Row.{Row}
use Rattle.alloc_tree.specs.Rows.{held_by, nodes_in, peaks_in}
use Rattle.alloc_tree.specs.Walk.{KeepsNodes, AddsCharge, ForcesCharge, MovesAmount, MovesCharge, IsRefusal}

-- nothing was refused exactly where no level refuses
none_refused : (nodes : List TreeNode) (charges : List Charge) (force : Charge) (answer : Option Full)
    → IsRefusal nodes charges force answer → is_some answer ≡ is_some (refusing_level nodes charges force)
none_refused nodes charges force None is = sym (ap is_some is)
none_refused nodes charges force (Some full) is = sym (ap is_some is.1)

-- where one is not the other, the other is not the one
pub not_not : (b c : Bool) → c ≡ not b → b ≡ not c
not_not true c is = rw is refl
not_not false c is = rw is refl

-- a charge that was added whatever the limits are
pub forced : (charges : List Charge) (force : Charge) (old new : List (Option Row)) (answer : Option Full) (fits : Bool)
    → is_some answer ≡ not fits → AddsCharge true charges force old new answer → ForcesCharge charges force old new fits
forced charges force old new answer fits is adds = record {
  held = adds.held;
  fits = not_not fits (is_some (refusing_level (nodes_in old) charges force))
      (sym (none_refused (nodes_in old) charges force answer adds.refusal) ∙ is);
  peaks = adds.peaks;
}

-- once the amount is at both, it is too much at the first
pub exceeds_by_moved : (before after : List Charge) (from to : AllocId) (amount : ℕ) (old forced_rows : List (Option Row)) (fits : Bool)
    → KeepsNodes old forced_rows → MovesAmount before after from to amount
    → ForcesCharge before (record { at = to; amount = amount }) old forced_rows fits
    → ExceedsByAmount (nodes_in forced_rows) after (held_by forced_rows) (Some from) amount
exceeds_by_moved before after from to amount old forced_rows fits kept moves forces =
    let force : Charge = record { at = to; amount = amount } in
    subst (λ nodes. ExceedsByAmount nodes after (held_by forced_rows) (Some from) amount) (sym kept.nodes)
    (λ n. omega (arith, forces.held n, moves n, sum_by-cons (amount_at n) force before))

-- and once it went there, it has moved
pub moved : (before after : List Charge) (force : Charge) (old forced_rows new : List (Option Row)) (fits : Bool)
    → KeepsNodes old forced_rows → ForcesCharge before force old forced_rows fits → peaks_in new ≡ peaks_in forced_rows
    → Balances (nodes_in forced_rows) after (held_by new) → MovesCharge before after force old new fits
moved before after force old forced_rows new fits kept forces peaks balance = record {
  held = subst (λ nodes. Balances nodes after (held_by new)) kept.nodes balance;
  fits = forces.fits;
  peaks = peaks ∙ forces.peaks;
}
