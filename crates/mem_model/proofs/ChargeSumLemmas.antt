-- What all allocators are charged together is what the live chunks are together.
use Rattle.std.proofs.Common.{◌≡◌, ◌≢◌, ℕ, ◌+◌, ◌<◌, List, [], ◌∷◌, true, ◌==◌, refl, sym, ◌∙◌, arith, inl, inr, All}
use Rattle.std.specs.List.{list_any, sum_by}
use Rattle.std.proofs.lemmas.Bool.{cond-true, cond-false, eq-eqb, ne_eqb, cases_eq}
use Rattle.std.proofs.lemmas.List.Elements.{All-head, All-tail}
use Rattle.std.proofs.lemmas.List.Sums.{sum_by-cons}
use Rattle.mem_model.specs.declared.charge.Charge.{Charge}
use Rattle.mem_model.specs.declared.tree_node.TreeNode.{TreeNode}
use Rattle.mem_model.specs.Charge.{amount_at, charged_at}
use Rattle.mem_model.specs.Chunk.{Chunk, charge_of, charges_of}
use Rattle.mem_model.specs.LawfulState.{IsLawfulState}
use Rattle.mem_model.specs.TreeState.{TreeState, charges_in}
use Rattle.mem_model.proofs.HeldLemmas.{Rises}
use Rattle.mem_model.proofs.OpenLemmas.{is_open_at, pairs_head, pairs_tail}
use Rattle.mem_model.proofs.ReferenceLemmas.{owner_open}

-- a sum of nothings
pub sum_by-none : {X : Type 0} (f : X → ℕ) (xs : List X) → All (λ x. f x ≡ 0) xs → sum_by f xs ≡ 0
sum_by-none f [] none = refl
sum_by-none f (x ∷ xs) none =
    omega (arith, sum_by-cons f x xs, All-head (λ y. f y ≡ 0) x xs none, sum_by-none f xs (All-tail (λ y. f y ≡ 0) x xs none))

-- a sum of sums
sum_by-add : {X : Type 0} (f g h : X → ℕ) (xs : List X) → ((x : X) → f x ≡ g x + h x) → sum_by f xs ≡ sum_by g xs + sum_by h xs
sum_by-add f g h [] each = refl
sum_by-add f g h (x ∷ xs) each =
    omega (arith, sum_by-cons f x xs, sum_by-cons g x xs, sum_by-cons h x xs, each x, sum_by-add f g h xs each)

-- a charge adds its amount at its own allocator
pub amount_at-own : (charge : Charge) (n : ℕ) → n ≡ charge.at.0 → amount_at n charge ≡ charge.amount
amount_at-own charge n same = cond-true (charge.at.0 == n) charge.amount 0 (eq-eqb charge.at.0 n (sym same))

-- and nothing at any other
pub amount_at-other : (charge : Charge) (n : ℕ) → n ≢ charge.at.0 → amount_at n charge ≡ 0
amount_at-other charge n other = cond-false (charge.at.0 == n) charge.amount 0 (ne_eqb charge.at.0 n (λ e. other (sym e)))

-- an open allocator that isn't the first node is among the later ones
open_later : (n : ℕ) (node : TreeNode) (nodes : List TreeNode) → node.number.0 ≢ n → list_any (is_open_at n) (node ∷ nodes) ≡ true → list_any (is_open_at n) nodes ≡ true
open_later n node nodes other open_ = rw (ne_eqb node.number.0 n other) at open_

-- at allocators of different numbers, one of which is its own, a charge adds its amount once
charge_once : (charge : Charge) (nodes : List TreeNode) → Rises nodes → list_any (is_open_at charge.at.0) nodes ≡ true → sum_by (λ node. amount_at node.number.0 charge) nodes ≡ charge.amount
charge_once charge [] rises open_ = absurd cc
charge_once charge (node ∷ nodes) rises open_ =
    let At : TreeNode → ℕ = λ x. amount_at x.number.0 charge in
    let whole : sum_by At (node ∷ nodes) ≡ At node + sum_by At nodes = sum_by-cons At node nodes in
    elim (cases_eq node.number.0 charge.at.0) [
      | inl same ↦ (
          let later : All (λ x. node.number.0 < x.number.0) nodes = pairs_head (λ (a b : TreeNode). a.number.0 < b.number.0) node nodes rises in
          let rest : sum_by At nodes ≡ 0 = sum_by-none At nodes (λ k d within. amount_at-other charge _ (λ e. omega (arith, later k d within, same, e))) in
          omega (arith, whole, rest, amount_at-own charge node.number.0 same))
      | inr other ↦ (
          let rest = charge_once charge nodes (pairs_tail (λ (a b : TreeNode). a.number.0 < b.number.0) node nodes rises) (open_later charge.at.0 node nodes other open_) in
          omega (arith, whole, rest, amount_at-other charge node.number.0 other))
    ]

-- so the charges of chunks whose owners are open add up to their sizes
charged_sum : (nodes : List TreeNode) (chunks : List Chunk) → Rises nodes → All (λ chunk. list_any (is_open_at chunk.owner.0) nodes ≡ true) chunks
    → sum_by (λ node. charged_at (charges_of chunks) node.number.0) nodes ≡ sum_by (λ chunk. chunk.size) chunks
charged_sum nodes [] rises open_ = sum_by-none (λ (node : TreeNode). charged_at [] node.number.0) nodes (λ k d within. refl)
charged_sum nodes (chunk ∷ chunks) rises open_ =
    let Open : Chunk → Type 0 = λ x. list_any (is_open_at x.owner.0) nodes ≡ true in
    omega (
      arith,
      sum_by-add (λ (node : TreeNode). charged_at (charges_of (chunk ∷ chunks)) node.number.0) (λ node. amount_at node.number.0 (charge_of chunk)) (λ node. charged_at (charges_of chunks) node.number.0) nodes
          (λ node. sum_by-cons (amount_at node.number.0) (charge_of chunk) (charges_of chunks)),
      charge_once (charge_of chunk) nodes rises (All-head Open chunk chunks open_),
      charged_sum nodes chunks rises (All-tail Open chunk chunks open_),
      sum_by-cons (λ (x : Chunk). x.size) chunk chunks,
    )

-- all allocators are charged what the live chunks are together
pub charged_sum-lawful : (state : TreeState) → IsLawfulState state → sum_by (λ (node : TreeNode). charged_at (charges_in state) node.number.0) state.nodes ≡ sum_by (λ (chunk : Chunk). chunk.size) state.chunks
charged_sum-lawful state h = charged_sum state.nodes state.chunks h.tree.ordered (λ k d within. owner_open state _ (h.chunks k d within))

-- a chunk is charged to its owner, whole
pub charged-owner : (chunk : Chunk) → charged_at (charges_of (chunk ∷ [])) chunk.owner.0 ≡ chunk.size
charged-owner chunk = sum_by-cons (amount_at chunk.owner.0) (charge_of chunk) [] ∙ omega (arith, amount_at-own (charge_of chunk) chunk.owner.0 refl)

-- and to nobody else
pub charged-others : (chunk : Chunk) (n : ℕ) → n ≢ chunk.owner.0 → charged_at (charges_of (chunk ∷ [])) n ≡ 0
charged-others chunk n other = sum_by-cons (amount_at n) (charge_of chunk) [] ∙ omega (arith, amount_at-other (charge_of chunk) n other)
