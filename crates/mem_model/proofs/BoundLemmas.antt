-- Nobody holds more than all charges and all reservations together, and a charge more lets nobody hold less.
use Rattle.std.proofs.Common.{◌≡◌, ℕ, suc, ◌+◌, ◌<◌, ◌≤◌, max, List, [], ◌∷◌, get_or, Bool, true, false, not, ◌&&◌, ◌||◌, cond, eqb, refl, sym, ap, ◌∙◌, arith, add-zero, Option, Some, None, All, inl, inr}
use Rattle.std.specs.List.{sum_by}
use Rattle.std.specs.Option.{ForSome}
use Rattle.std.proofs.lemmas.Bool.{cases_Bool, and_parts}
use Rattle.std.proofs.lemmas.Bool.Decides.{nat_tests}
use Rattle.std.proofs.lemmas.List.Elements.{All-head, All-tail}
use Rattle.std.proofs.lemmas.List.Sums.{sum_by-cons}
use Rattle.mem_num.specs.declared.alloc_id.AllocId.{AllocId}
use Rattle.mem_model.specs.declared.charge.Charge.{Charge}
use Rattle.mem_model.specs.declared.tree_node.TreeNode.{TreeNode}
use Rattle.mem_model.specs.Charge.{amount_at, charged_at}
use Rattle.mem_model.specs.TreeNode.{is_number, is_open_child, IsAllocatorTree}
use Rattle.mem_model.specs.Held.{held_of}
use Rattle.mem_model.specs.Bound.{all_of}
use Rattle.mem_model.proofs.HeldLemmas.{IsOlderTree, older_from_tree, Rises}

or_false : (b : Bool) → (b || false) ≡ b
or_false true = refl
or_false false = refl

or_right : (a b : Bool) → a ≡ false → (a || b) ≡ true → b ≡ true
or_right a b out h = rw out at h

eqb_true : (a b : ℕ) → eqb a b ≡ true → a ≡ b
eqb_true a b h = grind (arith, nat_tests)

-- what one charge adds at the allocators of a set
abbrev amount_within : (ℕ → Bool) → Charge → ℕ
amount_within within charge = cond (within charge.at.0) charge.amount 0

-- whether a parent is in a set
is_within : (ℕ → Bool) → Option AllocId → Bool
is_within within None = false
is_within within (Some id) = within id.0

-- what the allocators of a set hold together, none of which stands in the list
held_within : List TreeNode → List Charge → (ℕ → Bool) → ℕ
held_within [] charges within = sum_by (amount_within within) charges
held_within (node ∷ nodes) charges within =
    cond (is_within within node.parent && not node.closed) (max (held_of nodes charges node.number.0) node.reservation) 0 + held_within nodes charges within

-- a set with one allocator more
abbrev with_one : (ℕ → Bool) → ℕ → ℕ → Bool
with_one within n k = within k || eqb k n

is_within-one : (n : ℕ) (parent : Option AllocId) → is_within (λ k. eqb k n) parent ≡ is_number n parent
unfolding is_within
is_within-one n None = refl
is_within-one n (Some id) = refl

-- a set of one holds what that one holds
held_within-one : (nodes : List TreeNode) (charges : List Charge) (n : ℕ) → held_within nodes charges (λ k. eqb k n) ≡ held_of nodes charges n
unfolding held_within
held_within-one [] charges n = refl
held_within-one (node ∷ nodes) charges n = rw (is_within-one n node.parent, held_within-one nodes charges n) refl

is_within-more : (within : ℕ → Bool) (n : ℕ) (parent : Option AllocId) → is_within (with_one within n) parent ≡ (is_within within parent || is_number n parent)
unfolding is_within
is_within-more within n None = refl
is_within-more within n (Some id) = refl

apart_parents : (within : ℕ → Bool) (n : ℕ) (parent : Option AllocId) → within n ≡ false → is_within within parent ≡ true → is_number n parent ≡ true → ⊥
unfolding is_within
apart_parents within n None out a b = absurd cc
apart_parents within n (Some id) out a b = let same : within id.0 ≡ false = ap within (eqb_true id.0 n b) ∙ out in cc

-- where the sets don't meet, a choice by either is the sum of both
split_choice : (a b open_ : Bool) (m : ℕ) → (a ≡ true → b ≡ true → ⊥) → cond ((a || b) && open_) m 0 ≡ cond (a && open_) m 0 + cond (b && open_) m 0
split_choice true true o m apart = absurd (apart refl refl)
split_choice true false o m apart = sym (add-zero _)
split_choice false true o m apart = omega arith
split_choice false false o m apart = refl

split_amounts : (charges : List Charge) (within : ℕ → Bool) (n : ℕ) → within n ≡ false → sum_by (amount_within (with_one within n)) charges ≡ sum_by (amount_within within) charges + charged_at charges n
split_amounts [] within n out = refl
split_amounts (c ∷ cs) within n out =
    let here : amount_within (with_one within n) c ≡ amount_within within c + amount_at n c =
    elim (cases_Bool (eqb c.at.0 n)) [
      | inl same ↦ (let not_in : within c.at.0 ≡ false = ap within (eqb_true c.at.0 n same) ∙ out in rw (not_in, same) (omega arith))
      | inr other ↦ (let kept : (within c.at.0 || false) ≡ within c.at.0 = or_false (within c.at.0) in rw (other, kept) (sym (add-zero _)))
    ] in
    omega (arith, here, split_amounts cs within n out, sum_by-cons (amount_within (with_one within n)) c cs, sum_by-cons (amount_within within) c cs, sum_by-cons (amount_at n) c cs)

-- a set with one allocator more holds what that one holds more
held_within-more : (nodes : List TreeNode) (charges : List Charge) (within : ℕ → Bool) (n : ℕ) → within n ≡ false
    → held_within nodes charges (with_one within n) ≡ held_within nodes charges within + held_of nodes charges n
unfolding held_within
held_within-more [] charges within n out = split_amounts charges within n out
held_within-more (node ∷ nodes) charges within n out =
    let m = max (held_of nodes charges node.number.0) node.reservation in
    let here : cond (is_within (with_one within n) node.parent && not node.closed) m 0 ≡ cond (is_within within node.parent && not node.closed) m 0 + cond (is_open_child n node) m 0 =
    ap (λ b. cond (b && not node.closed) m 0) (is_within-more within n node.parent) ∙ split_choice (is_within within node.parent) (is_number n node.parent) (not node.closed) m (apart_parents within n node.parent out) in
    omega (arith, here, held_within-more nodes charges within n out)

-- a set that no later node is in, but perhaps its first, with the nodes that are still to come
record IsClosedSet (nodes : List TreeNode) (first : ℕ) (within : ℕ → Bool) : Type 0 where
  rises : Rises nodes
  older : IsOlderTree nodes
  least : (k : ℕ) → within k ≡ true → first ≤ k
  apart : All (λ node. within node.number.0 ≡ true → node.number.0 ≡ first) nodes

rises_tail : (node : TreeNode) (nodes : List TreeNode) → Rises (node ∷ nodes) → Rises nodes
rises_tail node nodes h i j d lt within = h (suc i) (suc j) d (omega arith) (omega arith)

-- the later nodes have greater numbers
rises_head : (node : TreeNode) (nodes : List TreeNode) → Rises (node ∷ nodes) → All (λ later. node.number.0 < later.number.0) nodes
rises_head node nodes h k d within = h 0 (suc k) d (omega arith) (omega arith)

older_tail : (node : TreeNode) (nodes : List TreeNode) → IsOlderTree (node ∷ nodes) → IsOlderTree nodes
older_tail node nodes h = All-tail (λ x. ForSome x.parent (λ p. p.0 < x.number.0)) node nodes h

closed_tail : (node : TreeNode) (nodes : List TreeNode) (first : ℕ) (within : ℕ → Bool) → IsClosedSet (node ∷ nodes) first within → IsClosedSet nodes first within
closed_tail node nodes first within h = record {
  rises = rises_tail node nodes h.rises;
  older = older_tail node nodes h.older;
  least = h.least;
  apart = All-tail (λ x. within x.number.0 ≡ true → x.number.0 ≡ first) node nodes h.apart;
}

-- a node whose parent is in the set is younger than the set's first
younger : (n first : ℕ) (parent : Option AllocId) (within : ℕ → Bool) → ForSome parent (λ p. p.0 < n) → ((k : ℕ) → within k ≡ true → first ≤ k) → is_within within parent ≡ true → first < n
unfolding is_within
younger n first None within older least inside = absurd cc
younger n first (Some id) within older least inside = omega (arith, older id refl, least id.0 inside)

head_younger : (node : TreeNode) (nodes : List TreeNode) (first : ℕ) (within : ℕ → Bool) → IsClosedSet (node ∷ nodes) first within → is_within within node.parent ≡ true → first < node.number.0
head_younger node nodes first within h inside =
    younger node.number.0 first node.parent within (All-head (λ x. ForSome x.parent (λ p. p.0 < x.number.0)) node nodes h.older) h.least inside

not_first : (node : TreeNode) (nodes : List TreeNode) (first : ℕ) (within : ℕ → Bool) → IsClosedSet (node ∷ nodes) first within → is_within within node.parent ≡ true → within node.number.0 ≡ false
not_first node nodes first within h inside = elim (cases_Bool (within node.number.0)) [
  | inl holds ↦ absurd (omega (arith, head_younger node nodes first within h inside, All-head (λ x. within x.number.0 ≡ true → x.number.0 ≡ first) node nodes h.apart holds))
  | inr fails ↦ fails
]

-- a set takes in a child of one of its own
closed_more : (node : TreeNode) (nodes : List TreeNode) (first : ℕ) (within : ℕ → Bool) → IsClosedSet (node ∷ nodes) first within → is_within within node.parent ≡ true → IsClosedSet nodes first (with_one within node.number.0)
closed_more node nodes first within h inside =
    let young : first < node.number.0 = head_younger node nodes first within h inside in
    let later : All (λ x. node.number.0 < x.number.0) nodes = rises_head node nodes h.rises in
    record {
      rises = rises_tail node nodes h.rises;
      older = older_tail node nodes h.older;
      least = λ k holds. elim (cases_Bool (within k)) [ inl was ↦ h.least k was | inr new ↦ omega (arith, young, eqb_true k node.number.0 (or_right (within k) _ new holds)) ];
      apart = λ k d there holds.
          let x = get_or nodes k d in
          elim (cases_Bool (within x.number.0)) [
            | inl was ↦ h.apart (suc k) d (omega arith) was
            | inr new ↦ absurd (let same : x.number.0 ≡ node.number.0 = eqb_true x.number.0 node.number.0 (or_right (within x.number.0) _ new holds) in omega (arith, same, later k d there))
          ];
    }

amounts_bound : (charges : List Charge) (within : ℕ → Bool) → sum_by (amount_within within) charges ≤ sum_by (λ charge. charge.amount) charges
amounts_bound [] within = omega arith
amounts_bound (c ∷ cs) within =
    let here : amount_within within c ≤ c.amount = elim (within c.at.0) as (λ b. cond b c.amount 0 ≤ c.amount) [ true ↦ omega arith | false ↦ omega arith ] in
    omega (arith, here, amounts_bound cs within, sum_by-cons (amount_within within) c cs, sum_by-cons (λ charge. charge.amount) c cs)

-- such a set holds no more than all charges and all reservations
held_within_bound : (nodes : List TreeNode) (charges : List Charge) (first : ℕ) (within : ℕ → Bool) → IsClosedSet nodes first within → held_within nodes charges within ≤ all_of nodes charges
unfolding held_within
held_within_bound [] charges first within h = omega (arith, amounts_bound charges within)
held_within_bound (node ∷ nodes) charges first within h = elim (cases_Bool (is_within within node.parent && not node.closed)) [
  | inl counts ↦ (
      let inside : is_within within node.parent ≡ true = (and_parts _ _ counts).0 in
      let out : within node.number.0 ≡ false = not_first node nodes first within h inside in
      rw counts (omega (
        arith,
        held_within_bound nodes charges first (with_one within node.number.0) (closed_more node nodes first within h inside),
        held_within-more nodes charges within node.number.0 out,
        sum_by-cons (λ x. x.reservation) node nodes,
      )))
  | inr fails ↦ rw fails (omega (arith, held_within_bound nodes charges first within (closed_tail node nodes first within h), sum_by-cons (λ x. x.reservation) node nodes))
]

-- nobody holds more than all charges and all reservations
pub held_of_bound : (nodes : List TreeNode) (charges : List Charge) (n : ℕ) → IsAllocatorTree nodes → held_of nodes charges n ≤ all_of nodes charges
held_of_bound nodes charges n tree =
    let bound = held_within_bound nodes charges n (λ k. eqb k n) (record {
      rises = tree.ordered;
      older = older_from_tree nodes tree;
      least = λ k h. omega (arith, eqb_true k n h);
      apart = λ k d within h. eqb_true (get_or nodes k d).number.0 n h;
    }) in
    omega (arith, bound, held_within-one nodes charges n)

-- a charge more lets nobody hold less
pub held_of_monotone : (nodes : List TreeNode) (charges : List Charge) (request : Charge) (n : ℕ) → held_of nodes charges n ≤ held_of nodes (request ∷ charges) n
held_of_monotone [] charges request n = omega (arith, sum_by-cons (amount_at n) request charges)
held_of_monotone (node ∷ nodes) charges request n = elim (cases_Bool (is_open_child n node)) [
  | inl child ↦ rw child (omega (arith, held_of_monotone nodes charges request n, held_of_monotone nodes charges request node.number.0))
  | inr other ↦ rw other (omega (arith, held_of_monotone nodes charges request n))
]

-- with a charge more there is so much more
pub all_of_cons : (nodes : List TreeNode) (charges : List Charge) (request : Charge) → all_of nodes (request ∷ charges) ≡ request.amount + all_of nodes charges
all_of_cons nodes charges request = omega (arith, sum_by-cons (λ charge. charge.amount) request charges)
