-- A walk that adds an amount, over rows.
use Rattle.std.proofs.Common.{◌≡◌, ℕ, ◌+◌, ◌<◌, List, ◌∷◌, set, Bool, false, cond, eqb, Option, Some, None, refl, sym}
use Rattle.std.proofs.Common.{ap, subst, ◌∙◌, arith, ne_eqb}
use Rattle.std.specs.List.{Contains}
use Rattle.std.proofs.Math.ListN.{length-set}
use Rattle.mem_num.specs.declared.alloc_id.AllocId.{AllocId}
use Rattle.mem_num.specs.declared.full.Full.{Full}
use Rattle.mem_model.specs.declared.charge.Charge.{Charge}
use Rattle.mem_model.specs.declared.tree_node.TreeNode.{TreeNode}
use Rattle.mem_model.specs.Balance.{Balances, LacksAmount, raised}
use Rattle.mem_model.specs.Reservation.{beyond_reservation}
use Rattle.mem_model.specs.TreeNode.{IsAllocatorTree}
use Rattle.mem_model.proofs.BalanceLemmas.{lacks_none, lacks_nothing, parent_of, HasParent}
use Rattle.alloc_tree.specs.declared.row.Row.{Row}
use Rattle.alloc_tree.specs.Rows.{row_at, held_by, peaks_in, row_node, nodes_in, HoldCharges, IsOpenAt}
use Rattle.alloc_tree.specs.Walk.{KeepsNodes, AddsCharge, peak_refusal, refusal_after, with_charge}
use Rattle.alloc_tree.proofs.RowLemmas.{made_within, made_node, row_of_node, nodes_in-set, kept_at, kept-set, kept-same, kept-raised}
use Rattle.alloc_tree.proofs.RisingLemmas.{raising_starts, raising_goes_on, raising_ends}
use Rattle.alloc_tree.proofs.WalkLemmas.{IsRaising, IsOpenNode, refusal_at, peak_at, ahead_of}

-- a level's row afterwards is the same allocator with as many uses, with the amount and with the peak that it has then
with_charge-node : (n : ℕ) (row : Row) (amount : ℕ) (refusal : Option Full)
    → row_node n (with_charge row amount refusal) ≡ row_node n row
with_charge-node n row amount None = refl
with_charge-node n row amount (Some full) = refl

with_charge-uses : (row : Row) (amount : ℕ) (refusal : Option Full) → (with_charge row amount refusal).uses ≡ row.uses
with_charge-uses row amount None = refl
with_charge-uses row amount (Some full) = refl

with_charge-held : (row : Row) (amount : ℕ) (refusal : Option Full) → (with_charge row amount refusal).held ≡ row.held + amount
with_charge-held row amount None = refl
with_charge-held row amount (Some full) = refl

with_charge-peak : (row : Row) (amount : ℕ) (refusal : Option Full)
    → (with_charge row amount refusal).peak ≡ peak_at row.peak (row.held + amount) refusal
with_charge-peak row amount None = refl
with_charge-peak row amount (Some full) = refl

refusal_of_row : (at level : AllocId) (row : Row) (amount : ℕ) (refusal : Option Full)
    → refusal_after at level row amount refusal ≡ refusal_at at (row_node level.0 row) row.held amount refusal
refusal_of_row at level row amount None = refl
refusal_of_row at level row amount (Some full) = refl

-- the rows after a level
abbrev pub rows_after : List (Option Row) → AllocId → Row → ℕ → Option Full → List (Option Row)
rows_after rows level row amount refusal = set rows level.0 (Some (with_charge row amount refusal))

-- a level of a walk, in rows that have the nodes with which the walk began
pub record IsAtRow (old rows : List (Option Row)) (level : AllocId) (row : Row) : Type 0 where
  pub tree : IsAllocatorTree (nodes_in old)
  pub kept : KeepsNodes old rows
  pub is : row_at rows level.0 ≡ Some row
  pub is_open : row.closed ≡ false

pub at_row : {old rows : List (Option Row)} (level : AllocId) (row : Row) → IsAllocatorTree (nodes_in old) → KeepsNodes old rows
    → IsOpenAt rows level.0
    → row_at rows level.0 ≡ Some row → IsAtRow old rows level row
at_row level row tree kept is_open is =
    let both : Some is_open.0 ≡ Some row = sym is_open.1 ∙ is in
    let same : is_open.0 ≡ row = cc in
    record { tree = tree; kept = kept; is = is; is_open = subst (λ (r : Row). r.closed ≡ false) same is_open.2 }

module _ {old rows : List (Option Row)} {level : AllocId} {row : Row} (h : IsAtRow old rows level row) where
  -- its node stands among those with which the walk began
  pub level_among : Contains (nodes_in old) (row_node level.0 row)
  level_among = subst (λ nodes. Contains nodes (row_node level.0 row)) h.kept.nodes (made_node rows level.0 row h.is)

  its_node : IsOpenNode (nodes_in old) (row_node level.0 row)
  its_node = record { tree = h.tree; place = level_among; is_open = h.is_open }

  -- it leaves the nodes
  pub keeps_nodes : (amount : ℕ) (refusal : Option Full) → KeepsNodes old (rows_after rows level row amount refusal)
  keeps_nodes amount refusal =
      let row' = with_charge row amount refusal in
      record {
        nodes = nodes_in-set rows level.0 row row' h.is (with_charge-node level.0 row amount refusal) ∙ h.kept.nodes;
        uses = kept-same (λ r. r.uses) rows level.0 row row' h.is (with_charge-uses row amount refusal) ∙ h.kept.uses;
        length = length-set rows level.0 (Some row') ∙ h.kept.length;
      }

  -- and what is held before it
  pub held_before : (row' : Row) (n : ℕ) → n < level.0 → held_by (set rows level.0 (Some row')) n ≡ held_by rows n
  held_before row' n below =
      kept-set (λ r. r.held) rows level.0 row' (made_within rows level.0 row h.is) n
      ∙ rw (ne_eqb n level.0 (λ same. omega (arith, same, below))) refl

  -- its parent has a smaller number
  pub parent_older : {parent : AllocId} → row.parent ≡ Some parent → parent.0 < level.0
  parent_older {parent = parent} up = ahead_of its_node (Some parent) up parent.0 (omega arith)

  -- and is open, in rows that have the same nodes
  pub parent_open : {new : List (Option Row)} {parent : AllocId} → KeepsNodes old new → row.parent ≡ Some parent
      → IsOpenAt new parent.0
  parent_open {new = new} {parent = parent} kept up =
      let found = parent_of (nodes_in old) (row_node level.0 row) parent h.tree level_among h.is_open up in
      let p = found.0 in
      let at : HasParent (nodes_in old) (row_node level.0 row) p = found.1 in
      let same : Some parent ≡ Some p.number = sym up ∙ at.number in
      let number : p.number ≡ parent = cc in
      let its = row_of_node new p (subst (λ nodes. Contains nodes p) (sym kept.nodes) at.among) in (
        its.0,
        subst (λ (q : AllocId). row_at new q.0 ≡ Some its.0) number its.1,
        sym (ap (λ (x : TreeNode). x.closed) its.2)
            ∙ at.is_open,
      )

-- how far a walk has come on rows
abbrev pub RowsRise : Bool → List Charge → Charge → List (Option Row) → List (Option Row) → Option AllocId → ℕ → Option Full
    → Type 0
RowsRise is_forced charges request old rows = IsRaising is_forced (nodes_in old) charges request (held_by old) (peaks_in old) (held_by rows)
    (peaks_in rows)

module _ (is_forced : Bool) (charges : List Charge) (request : Charge) (old : List (Option Row)) (tree : IsAllocatorTree (nodes_in old))
    (balance : HoldCharges old charges) where
  -- before the first level
  pub rows_start : IsOpenAt old request.at.0 → RowsRise is_forced charges request old old (Some request.at) request.amount None
  rows_start is_open =
      let e = row_node request.at.0 is_open.0 in
      raising_starts is_forced (nodes_in old) charges request (held_by old) (peaks_in old) tree balance e
      (made_node old request.at.0 is_open.0 is_open.1) is_open.2 refl

  -- one level
  pub rows_go_on : {rows : List (Option Row)} {level : AllocId} {row : Row} (h : IsAtRow old rows level row) (amount : ℕ)
      (refusal : Option Full) → 0 < amount
      → RowsRise is_forced charges request old rows (Some level) amount refusal
      → RowsRise is_forced charges request old
      (rows_after rows level row amount (peak_refusal is_forced (refusal_after request.at level row amount refusal)))
      row.parent (beyond_reservation row.reservation row.held (row.held + amount)) (refusal_after request.at level row amount refusal)
  rows_go_on {rows = rows} {level = level} {row = row} h amount refusal some rising =
      let l = level.0 in
      let e = row_node l row in
      let refusal' = refusal_after request.at level row amount refusal in
      let heeded = peak_refusal is_forced refusal' in
      let row' = with_charge row amount heeded in
      let new = set rows l (Some row') in
      let g = held_by rows in
      let q = peaks_in rows in
      let held_is : g l ≡ row.held = kept_at (λ r. r.held) rows l row h.is in
      let peak_is : q l ≡ row.peak = kept_at (λ r. r.peak) rows l row h.is in
      let refusal_is : refusal_at request.at e (g l) amount refusal ≡ refusal' =
      ap (λ (n : ℕ). refusal_at request.at e n amount refusal) held_is ∙ sym (refusal_of_row request.at level row amount refusal) in
      let peaks' : (m : ℕ) → peaks_in new m
      ≡ cond (eqb m l) (peak_at (q l) (g l + amount) (peak_refusal is_forced (refusal_at request.at e (g l) amount refusal))) (q m) =
      λ m. kept-set (λ r. r.peak) rows l row' (made_within rows l row h.is) m
      ∙ ap (λ (n : ℕ). cond (eqb m l) n (q m))
      (with_charge-peak row amount heeded ∙ ap (λ (n : ℕ). peak_at n (row.held + amount) heeded) (sym peak_is)
      ∙ ap (λ (n : ℕ). peak_at (q l) (n + amount) heeded) (sym held_is)
      ∙ ap (λ r. peak_at (q l) (g l + amount) (peak_refusal is_forced r)) (sym refusal_is)) in
      let next = raising_goes_on is_forced (nodes_in old) charges request (held_by old) (peaks_in old) tree balance g q
      (its_node h) amount refusal some rising (peaks_in new) peaks' in
      let held' : raised g l amount ≡ held_by new =
      sym (kept-raised (λ r. r.held) rows l row row' h.is amount (with_charge-held row amount heeded)) in
      let A : (ℕ → ℕ) → ℕ → Option Full → Type 0 =
      λ f n r. IsRaising is_forced (nodes_in old) charges request (held_by old) (peaks_in old) f (peaks_in new) row.parent
      (beyond_reservation row.reservation n (n + amount)) r in
      let refusal_was = refusal_at request.at e (g l) amount refusal in
      subst (λ r. A (held_by new) row.held r) refusal_is
      (subst (λ n. A (held_by new) n refusal_was) held_is (subst (λ f. A f (g l) refusal_was) held' next))

  rows_raised : {rows : List (Option Row)} {next : Option AllocId} {amount : ℕ} {refusal : Option Full}
      → Balances (nodes_in old) (request ∷ charges) (held_by rows)
      → RowsRise is_forced charges request old rows next amount refusal → AddsCharge is_forced charges request old rows refusal
  rows_raised {rows = rows} balance' h =
      let done = raising_ends is_forced (nodes_in old) charges request (held_by old) (peaks_in old) tree balance balance' h in
      record { held = done.held; refusal = done.refusal; peaks = done.measured }

  -- the walk ends where no amount is left
  pub rows_end : {rows : List (Option Row)} {next : Option AllocId} {amount : ℕ} {refusal : Option Full} → amount ≡ 0
      → RowsRise is_forced charges request old rows next amount refusal → AddsCharge is_forced charges request old rows refusal
  rows_end {rows = rows} {next = next} {amount = amount} none h =
      rows_raised (lacks_nothing (nodes_in old) (request ∷ charges) (held_by rows) next amount none h.lacks) h

  -- or at the root
  pub rows_end_at_root : {rows : List (Option Row)} {next : Option AllocId} {amount : ℕ} {refusal : Option Full} → next ≡ None
      → RowsRise is_forced charges request old rows next amount refusal → AddsCharge is_forced charges request old rows refusal
  rows_end_at_root {rows = rows} {amount = amount} none h =
      let lacks = subst (λ (p : Option AllocId). LacksAmount (nodes_in old) (request ∷ charges) (held_by rows) p amount) none h.lacks in
      rows_raised (lacks_none (nodes_in old) (request ∷ charges) (held_by rows) amount lacks) h
