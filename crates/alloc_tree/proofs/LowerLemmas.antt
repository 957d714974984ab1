-- A walk that subtracts an amount, over rows.
use Rattle.std.proofs.Common.{◌≡◌, ℕ, ◌-◌, ◌≤◌, List, ◌∷◌, set, false, Option, Some, None, Err, refl, sym, ap}
use Rattle.std.proofs.Common.{subst, ◌∙◌, arith, eq-eqb}
use Rattle.std.specs.List.{Contains}
use Rattle.std.proofs.Math.ListN.{length-set}
use Rattle.std.proofs.lemmas.List.Sums.{sum_by-cons}
use Rattle.mem_num.specs.declared.alloc_id.AllocId.{AllocId}
use Rattle.mem_num.specs.declared.full.Full.{Full}
use Rattle.mem_model.specs.declared.charge.Charge.{Charge}
use Rattle.mem_model.specs.declared.tree_node.TreeNode.{TreeNode}
use Rattle.mem_model.specs.Charge.{amount_at}
use Rattle.mem_model.specs.Balance.{Balances, ExceedsByAmount, amount_for, lowered}
use Rattle.mem_model.specs.Reservation.{beyond_reservation}
use Rattle.mem_model.proofs.BalanceLemmas.{lower_passes_on, exceeds_none}
use Rattle.alloc_tree.specs.declared.row.Row.{Row}
use Rattle.alloc_tree.specs.Rows.{held_by, peaks_in, nodes_in, row_node, IsOpenAt}
use Rattle.alloc_tree.specs.Walk.{KeepsNodes, AddsCharge, AnswersRequest, IsRefusal}
use Rattle.alloc_tree.proofs.RowLemmas.{made_node, row_of_node, nodes_in-set, kept_at, kept-same, kept-lowered}
use Rattle.alloc_tree.proofs.RaiseLemmas.{IsAtRow, level_among}

-- a level's row with an amount less
abbrev pub with_less : Row → ℕ → Row
with_less row amount = record row { held = row.held - amount }

module _ {old rows : List (Option Row)} {level : AllocId} {row : Row} (h : IsAtRow old rows level row) (amount : ℕ) where
  -- a level leaves the nodes
  pub lower_keeps_nodes : KeepsNodes old (set rows level.0 (Some (with_less row amount)))
  lower_keeps_nodes =
      let less = with_less row amount in
      record {
        nodes = nodes_in-set rows level.0 row less h.is refl ∙ h.kept.nodes;
        uses = kept-same (λ r. r.uses) rows level.0 row less h.is refl ∙ h.kept.uses;
        length = length-set rows level.0 (Some less) ∙ h.kept.length;
      }

  -- and the peaks
  pub lower_keeps_peaks : peaks_in (set rows level.0 (Some (with_less row amount))) ≡ peaks_in rows
  lower_keeps_peaks = kept-same (λ r. r.peak) rows level.0 row (with_less row amount) h.is refl

  -- it holds what is to be subtracted there
  pub level_holds : (charges : List Charge) → ExceedsByAmount (nodes_in old) charges (held_by rows) (Some level) amount
      → amount ≤ row.held
  level_holds charges exceeds =
      let held_is : held_by rows level.0 ≡ row.held = kept_at (λ r. r.held) rows level.0 row h.is in
      let here : amount_for (Some level) amount level.0 ≡ amount = rw (eq-eqb level.0 level.0 refl) refl in
      omega (arith, exceeds level.0, here, held_is)

  -- one level leaves an amount at its parent
  pub lower_goes_on : (charges : List Charge) (next : Option AllocId) → row.parent ≡ next
      → ExceedsByAmount (nodes_in old) charges (held_by rows) (Some level) amount
      → ExceedsByAmount (nodes_in old) charges (held_by (set rows level.0 (Some (with_less row amount)))) next
      (beyond_reservation row.reservation (row.held - amount) row.held)
  lower_goes_on charges next up exceeds =
      let l = level.0 in
      let g = held_by rows in
      let new = held_by (set rows l (Some (with_less row amount))) in
      let A : (ℕ → ℕ) → ℕ → Option AllocId
      → Type 0 = λ f n p. ExceedsByAmount (nodes_in old) charges f p (beyond_reservation row.reservation (n - amount) n) in
      let held' : lowered g l amount ≡ new = sym (kept-lowered (λ r. r.held) rows l row (with_less row amount) h.is amount refl) in
      subst (A new row.held) up (subst (λ n. A new n row.parent) (kept_at (λ r. r.held) rows l row h.is)
      (subst (λ f. A f (g l) row.parent) held'
      (lower_passes_on (nodes_in old) charges g amount _ h.tree.ordered (level_among h) h.is_open exceeds)))

  -- the root is the last
  pub lower_ends_at_root : (charges : List Charge) → row.parent ≡ None
      → ExceedsByAmount (nodes_in old) charges (held_by rows) (Some level) amount
      → Balances (nodes_in old) charges (held_by (set rows level.0 (Some (with_less row amount))))
  lower_ends_at_root charges root exceeds =
      exceeds_none (nodes_in old) charges (held_by (set rows level.0 (Some (with_less row amount))))
      (beyond_reservation row.reservation (row.held - amount) row.held)
      (lower_goes_on charges None root exceeds)

-- with a charge besides, numbers balance but for what undoes it
pub exceeds_by_charge : (nodes : List TreeNode) (charges : List Charge) (request : Charge) (held : ℕ → ℕ)
    → Balances nodes (request ∷ charges) held → ExceedsByAmount nodes charges held (Some request.at) request.amount
exceeds_by_charge nodes charges request held balance n = omega (arith, balance n, sum_by-cons (amount_at n) request charges)

-- where the nodes stay, they are open as they were
pub stays_open : (old new : List (Option Row)) (n : ℕ) → KeepsNodes old new → IsOpenAt old n → IsOpenAt new n
stays_open old new n kept is_open =
    let node = row_node n is_open.0 in
    let its = row_of_node new node (subst (λ nodes. Contains nodes node) (sym kept.nodes) (made_node old n is_open.0 is_open.1)) in
    (its.0, its.1, sym (ap (λ (x : TreeNode). x.closed) its.2) ∙ is_open.2)

-- a refused request that was undone
pub undone : (charges : List Charge) (request : Charge) (old raised_rows new : List (Option Row)) (answer : Option Full) (full : Full)
    → KeepsNodes old raised_rows → AddsCharge false charges request old raised_rows answer → answer ≡ Some full
    → peaks_in new ≡ peaks_in raised_rows
    → (ExceedsByAmount (nodes_in raised_rows) charges (held_by raised_rows) (Some request.at) request.amount
    → Balances (nodes_in raised_rows) charges (held_by new)) → AnswersRequest charges request old new (Err full)
undone charges request old raised_rows new answer full kept adds is peaks lowered_back =
    let exceeds : ExceedsByAmount (nodes_in old) charges (held_by raised_rows) (Some request.at) request.amount =
    exceeds_by_charge (nodes_in old) charges request (held_by raised_rows) adds.held in
    let back : Balances (nodes_in raised_rows) charges (held_by new) =
    lowered_back (subst (λ nodes. ExceedsByAmount nodes charges (held_by raised_rows) (Some request.at) request.amount)
    (sym kept.nodes) exceeds) in
    record {
      held = subst (λ nodes. Balances nodes charges (held_by new)) kept.nodes back;
      refusal = subst (IsRefusal (nodes_in old) charges request) is adds.refusal;
      peaks = peaks ∙ adds.peaks;
    }
