-- Rows and the allocators that they are.
use Rattle.std.proofs.Common.{◌≡◌, ◌≢◌, ℕ, zero, suc, ◌+◌, ◌-◌, ◌<◌, List, [], ◌∷◌, length, get_or, set}
use Rattle.std.proofs.Common.{true, false, cond, eqb, Option, Some, None, refl, sym, ap, ◌∙◌, arith, inl, inr, ne_eqb, eq-eqb}
use Rattle.std.specs.List.{Contains}
use Rattle.std.specs.Option.{option_map_or}
use Rattle.std.proofs.Math.ListN.{length-set}
use Rattle.std.proofs.lemmas.Bool.{cases_eq}
use Rattle.std.proofs.lemmas.List.{get_or-set_same, get_or-set_other}
use Rattle.mem_model.specs.declared.tree_node.TreeNode.{TreeNode}
use Rattle.mem_model.specs.Balance.{raised, lowered}
use Rattle.alloc_tree.specs.declared.row.Row.{Row}
use Rattle.alloc_tree.specs.Rows.{row_at, kept_of, uses_in, row_node, nodes_from, nodes_in, ChangesUses}

-- a row that is there lies within the list
pub made_within : (rows : List (Option Row)) (n : ℕ) (row : Row) → row_at rows n ≡ Some row → n < length rows
made_within [] n row is = absurd cc
made_within (r ∷ rows) zero row is = omega arith
made_within (r ∷ rows) (suc n) row is = omega (arith, made_within rows n row is)

-- one node more before an element of a list
later : {X : Type 0} (x : X) (xs : List X) (y : X) → Contains xs y → Contains (x ∷ xs) y
later x xs y place = (suc place.0, omega (arith, place.1), place.2)

node_from : (first n k : ℕ) (rows : List (Option Row)) (row : Row) → first + n ≡ k → row_at rows n ≡ Some row
    → Contains (nodes_from first rows) (row_node k row)
unfolding nodes_from
node_from first n k [] row at is = absurd cc
node_from first zero k (None ∷ rows) row at is = absurd cc
node_from first zero k (Some r ∷ rows) row at is =
    let same : r ≡ row = cc in
    let here : first ≡ k = omega (arith, at) in
    (0, omega arith, ap (λ m. row_node m r) here ∙ ap (row_node k) same)
node_from first (suc n) k (None ∷ rows) row at is = node_from (suc first) n k rows row (omega (arith, at)) is
node_from first (suc n) k (Some r ∷ rows) row at is = later (row_node first r) (nodes_from (suc first) rows) (row_node k row)
    (node_from (suc first) n k rows row (omega (arith, at)) is)

-- a row's allocator is among the nodes
pub made_node : (rows : List (Option Row)) (n : ℕ) (row : Row) → row_at rows n ≡ Some row
    → Contains (nodes_in rows) (row_node n row)
made_node rows n row is = node_from 0 n n rows row (omega arith) is

row_from : (first : ℕ) (rows : List (Option Row)) (e : TreeNode) (k : ℕ) → k < length (nodes_from first rows)
    → get_or (nodes_from first rows) k e ≡ e
    → (n : ℕ) × (row : Row) × (row_at rows n ≡ Some row) × (e ≡ row_node (first + n) row)
unfolding nodes_from
row_from first [] e k within is = absurd (omega arith)
row_from first (None ∷ rows) e k within is =
    let rest = row_from (suc first) rows e k within is in
    (suc rest.0, rest.1, rest.2, rest.3 ∙ ap (λ m. row_node m rest.1) (omega arith))
row_from first (Some r ∷ rows) e zero within is = (0, r, refl, sym is ∙ ap (λ m. row_node m r) (omega arith))
row_from first (Some r ∷ rows) e (suc k) within is =
    let rest = row_from (suc first) rows e k (omega (arith, within)) is in
    (suc rest.0, rest.1, rest.2, rest.3 ∙ ap (λ m. row_node m rest.1) (omega arith))

-- a node has its row at its number
pub row_of_node : (rows : List (Option Row)) (e : TreeNode) → Contains (nodes_in rows) e
    → (row : Row) × (row_at rows e.number.0 ≡ Some row) × (e ≡ row_node e.number.0 row)
row_of_node rows e place =
    let found = row_from 0 rows e place.0 place.1 place.2 in
    let number : e.number.0 ≡ found.0 = ap (λ (x : TreeNode). x.number.0) found.3 ∙ omega arith in
    let number' : 0 + found.0 ≡ e.number.0 = omega (arith, number) in
    (found.1, ap (row_at rows) number ∙ found.2, found.3 ∙ ap (λ m. row_node m found.1) number')

nodes_from-set : (first n k : ℕ) (rows : List (Option Row)) (row row' : Row) → first + n ≡ k → row_at rows n ≡ Some row
    → row_node k row' ≡ row_node k row → nodes_from first (set rows n (Some row')) ≡ nodes_from first rows
unfolding nodes_from
nodes_from-set first n k [] row row' at is same = refl
nodes_from-set first zero k (None ∷ rows) row row' at is same = absurd cc
nodes_from-set first zero k (Some r ∷ rows) row row' at is same =
    let here : r ≡ row = cc in
    let number : first ≡ k = omega (arith, at) in
    ap (λ (x : TreeNode). x ∷ nodes_from (suc first) rows)
    (ap (λ m. row_node m row') number ∙ same ∙ ap (λ m. row_node m row) (sym number) ∙ ap (row_node first) (sym here))
nodes_from-set first (suc n) k (None ∷ rows) row row' at is same =
    nodes_from-set (suc first) n k rows row row' (omega (arith, at)) is same
nodes_from-set first (suc n) k (Some r ∷ rows) row row' at is same =
    ap (λ xs. row_node first r ∷ xs) (nodes_from-set (suc first) n k rows row row' (omega (arith, at)) is same)

-- a row that is the same allocator with other numbers
pub nodes_in-set : (rows : List (Option Row)) (n : ℕ) (row row' : Row) → row_at rows n ≡ Some row
    → row_node n row' ≡ row_node n row → nodes_in (set rows n (Some row')) ≡ nodes_in rows
nodes_in-set rows n row row' is same = nodes_from-set 0 n n rows row row' (omega arith) is same

-- the row that was set
pub row_at-set : (rows : List (Option Row)) (n : ℕ) (row : Option Row) → n < length rows → row_at (set rows n row) n ≡ row
row_at-set rows n row within = get_or-set_same rows n row None within

pub row_at-other : (rows : List (Option Row)) (n m : ℕ) (row : Option Row) → m ≢ n → row_at (set rows n row) m ≡ row_at rows m
row_at-other rows n m row other = get_or-set_other rows n m row None other

-- what is kept of the allocator whose row was set, and of the others
pub kept-set : (field : Row → ℕ) (rows : List (Option Row)) (n : ℕ) (row' : Row) → n < length rows → (m : ℕ)
    → kept_of field (set rows n (Some row')) m ≡ cond (eqb m n) (field row') (kept_of field rows m)
kept-set field rows n row' within m = elim (cases_eq m n) [
  | inl same ↦ (let here : eqb m n ≡ true = eq-eqb m n same in
      rw here (ap (λ k. option_map_or field (row_at (set rows n (Some row')) k) 0) same
      ∙ ap (λ r. option_map_or field r 0) (row_at-set rows n (Some row') within)))
  | inr other ↦ (let there : eqb m n ≡ false = ne_eqb m n other in
      rw there (ap (λ r. option_map_or field r 0) (row_at-other rows n m (Some row') other)))
]

-- what is kept of an allocator that was made
pub kept_at : (field : Row → ℕ) (rows : List (Option Row)) (n : ℕ) (row : Row) → row_at rows n ≡ Some row
    → kept_of field rows n ≡ field row
kept_at field rows n row is = ap (λ r. option_map_or field r 0) is

-- what is kept afterwards, by the allocator whose row was set and by the others
pub kept_as : (field : Row → ℕ) (rows : List (Option Row)) (n : ℕ) (row' : Row) (kept : ℕ → ℕ) → n < length rows
    → field row' ≡ kept n
    → ((m : ℕ) → m ≢ n → kept_of field rows m ≡ kept m) → kept_of field (set rows n (Some row')) ≡ kept
kept_as field rows n row' kept within here there =
    let each : (m : ℕ) → kept_of field (set rows n (Some row')) m ≡ kept m = λ m. kept-set field rows n row' within m
    ∙ elim (cases_eq m n) [
      | inl same ↦ rw (eq-eqb m n same) (here ∙ ap kept (sym same))
      | inr other ↦ rw (ne_eqb m n other) (there m other)
    ] in
    λ i m. each m i

module _ (field : Row → ℕ) (rows : List (Option Row)) (n : ℕ) (row row' : Row) (is : row_at rows n ≡ Some row) where
  -- a row in which this stays
  pub kept-same : field row' ≡ field row → kept_of field (set rows n (Some row')) ≡ kept_of field rows
  kept-same same = kept_as field rows n row' (kept_of field rows) (made_within rows n row is) (same ∙ sym (kept_at field rows n row is))
      (λ m other. refl)

  -- a row in which this is more
  pub kept-raised : (amount : ℕ) → field row' ≡ field row + amount
      → kept_of field (set rows n (Some row')) ≡ raised (kept_of field rows) n amount
  kept-raised amount more =
      let self : eqb n n ≡ true = eq-eqb n n refl in
      let here : field row' ≡ raised (kept_of field rows) n amount n =
      rw self (more ∙ ap (λ (k : ℕ). k + amount) (sym (kept_at field rows n row is))) in
      kept_as field rows n row' (raised (kept_of field rows) n amount) (made_within rows n row is) here
      (λ m other. rw (ne_eqb m n other) (omega arith))

  -- a row in which this is less
  pub kept-lowered : (amount : ℕ) → field row' ≡ field row - amount
      → kept_of field (set rows n (Some row')) ≡ lowered (kept_of field rows) n amount
  kept-lowered amount less =
      let self : eqb n n ≡ true = eq-eqb n n refl in
      let here : field row' ≡ lowered (kept_of field rows) n amount n =
      rw self (less ∙ ap (λ (k : ℕ). k - amount) (sym (kept_at field rows n row is))) in
      kept_as field rows n row' (lowered (kept_of field rows) n amount) (made_within rows n row is) here
      (λ m other. rw (ne_eqb m n other) (omega arith))

-- a row with another number of uses
abbrev with_uses : Row → ℕ → Row
with_uses row uses = record row { uses = uses }

changes_uses : (rows : List (Option Row)) (n uses : ℕ) (row : Row) (counts : ℕ → ℕ) → row_at rows n ≡ Some row
    → uses_in (set rows n (Some (with_uses row uses))) ≡ counts → ChangesUses rows (set rows n (Some (with_uses row uses))) counts
changes_uses rows n uses row counts is counted =
    let row' = with_uses row uses in
    record {
      nodes = nodes_in-set rows n row row' is refl;
      held = kept-same (λ r. r.held) rows n row row' is refl;
      peaks = kept-same (λ r. r.peak) rows n row row' is refl;
      uses = counted;
      length = length-set rows n (Some row');
    }

module _ (rows : List (Option Row)) (n : ℕ) (row : Row) (is : row_at rows n ≡ Some row) where
  pub use_more : ChangesUses rows (set rows n (Some (with_uses row (row.uses + 1)))) (raised (uses_in rows) n 1)
  use_more = changes_uses rows n (row.uses + 1) row _ is (kept-raised (λ r. r.uses) rows n row (with_uses row (row.uses + 1)) is 1 refl)

  pub use_less : ChangesUses rows (set rows n (Some (with_uses row (row.uses - 1)))) (lowered (uses_in rows) n 1)
  use_less = changes_uses rows n (row.uses - 1) row _ is (kept-lowered (λ r. r.uses) rows n row (with_uses row (row.uses - 1)) is 1 refl)
