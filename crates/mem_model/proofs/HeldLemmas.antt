-- What an allocator holds is what its charges and its open children say.
use Rattle.std.proofs.Common.{◌≡◌, ℕ, ◌+◌, ◌<◌, ◌≤◌, List, [], ◌∷◌, ◌++◌, length, get_or, Bool, false, not, ◌&&◌, cond, eqb, refl, sym, ap, subst, ◌∙◌, arith, add-zero, append_assoc, Option, Some, None, All, AllPairs, inl, inr}
use Rattle.std.specs.Option.{ForSome}
use Rattle.std.proofs.lemmas.Bool.{cases_lt}
use Rattle.std.proofs.lemmas.Bool.Decides.{nat_tests}
use Rattle.std.proofs.lemmas.List.{length-append}
use Rattle.std.proofs.lemmas.List.Elements.{All-head, All-tail}
use Rattle.std.proofs.lemmas.List.Sums.{sum_by-cons}
use Rattle.std.proofs.Math.ListN.{get_or-append}
use Rattle.std.proofs.Math.Seq.{get_or-append_seam}
use Rattle.mem_num.specs.declared.alloc_id.AllocId.{AllocId}
use Rattle.mem_model.specs.declared.charge.Charge.{Charge}
use Rattle.mem_model.specs.declared.tree_node.TreeNode.{TreeNode}
use Rattle.mem_model.specs.Charge.{charged_at}
use Rattle.mem_model.specs.Reservation.{counted_at_parent}
use Rattle.mem_model.specs.TreeNode.{is_number, is_open_child, IsParentOf, IsAllocatorTree}
use Rattle.mem_model.specs.Held.{counted_children, held_of}

-- each node's parent has a smaller number
abbrev pub IsOlderTree : List TreeNode → Type 0
IsOlderTree nodes = All (λ node. ForSome node.parent (λ p. p.0 < node.number.0)) nodes

pub older_from_tree : (nodes : List TreeNode) → IsAllocatorTree nodes → IsOlderTree nodes
older_from_tree nodes tree k d within p is =
    let found = tree.parents k d within p is in
    let parent : IsParentOf (get_or nodes k d) found.1 = found.4 in
    let same : Some p ≡ Some found.1.number = sym is ∙ parent.number in
    let number : p ≡ found.1.number = cc in
    subst (λ (q : AllocId). q.0 < (get_or nodes k d).number.0) (sym number) parent.older

-- no node of these is an open child of n
abbrev pub HasNoChild : ℕ → List TreeNode → Type 0
HasNoChild n nodes = All (λ node. is_open_child n node ≡ false) nodes

-- nodes without a child of n say nothing of what n holds
pub held_of-append : (before nodes : List TreeNode) (charges : List Charge) (n : ℕ) → HasNoChild n before → held_of (before ++ nodes) charges n ≡ held_of nodes charges n
held_of-append [] nodes charges n none = refl
held_of-append (node ∷ before) nodes charges n none =
    let fails : is_open_child n node ≡ false = All-head (λ x. is_open_child n x ≡ false) node before none in
    rw fails (omega (arith, held_of-append before nodes charges n (All-tail (λ x. is_open_child n x ≡ false) node before none)))

number_is : (n : ℕ) (parent : Option AllocId) (closed : Bool) → ((p : AllocId) → parent ≡ Some p → p.0 < n) → (is_number n parent && not closed) ≡ false
number_is n None closed older = refl
number_is n (Some p) closed older =
    let less : p.0 < n = older p refl in
    let other : eqb p.0 n ≡ false = grind (arith, nat_tests) in
    rw other refl

-- numbers rise along the list
abbrev pub Rises : List TreeNode → Type 0
Rises nodes = AllPairs (λ older newer. older.number.0 < newer.number.0) nodes

-- no node up to e has a greater number than e
up_to : (before later : List TreeNode) (e d : TreeNode) (k : ℕ) → Rises (before ++ e ∷ later) → k ≤ length before → (get_or (before ++ e ∷ later) k d).number.0 ≤ e.number.0
up_to before later e d k rises upto =
    let nodes = before ++ e ∷ later in
    let here : get_or nodes (length before) d ≡ e = get_or-append_seam before e later d in
    elim (cases_lt k (length before)) [
      | inl lt ↦ (let less : (get_or nodes k d).number.0 < (get_or nodes (length before) d).number.0 = rises k (length before) d lt (omega (arith, length-append before (e ∷ later))) in
          omega (arith, less, ap (λ (x : TreeNode). x.number.0) here))
      | inr ge ↦ (let same : k ≡ length before = omega arith in
          omega (arith, ap (λ (x : TreeNode). x.number.0) (ap (λ i. get_or nodes i d) same ∙ here)))
    ]

-- no node up to e is a child of e
pub no_child_up_to : (before later : List TreeNode) (e : TreeNode) → Rises (before ++ e ∷ later) → IsOlderTree (before ++ e ∷ later) → HasNoChild e.number.0 (before ++ e ∷ [])
no_child_up_to before later e rises older k d within =
    let front = before ++ e ∷ [] in
    let size : length front ≡ length before + 1 = length-append before (e ∷ []) in
    let joined : front ++ later ≡ before ++ e ∷ later = append_assoc before (e ∷ []) later in
    let same : get_or front k d ≡ get_or (before ++ e ∷ later) k d = sym (get_or-append front later d k within) ∙ ap (λ xs. get_or xs k d) joined in
    let node = get_or (before ++ e ∷ later) k d in
    let below : node.number.0 ≤ e.number.0 = up_to before later e d k rises (omega (arith, size)) in
    let inside : k < length (before ++ e ∷ later) = omega (arith, size, length-append before (e ∷ later), within) in
    let parents : ForSome node.parent (λ p. p.0 < node.number.0) = older k d inside in
    rw same (number_is e.number.0 node.parent node.closed (λ p is. let less : p.0 < node.number.0 = parents p is in omega arith))

-- what each of these nodes holds by the whole list is what it holds by the nodes behind it
unfoldable pub Agrees : (ℕ → ℕ) → List Charge → List TreeNode → Type 0
Agrees held charges [] = Unit {0}
Agrees held charges (node ∷ nodes) = (held node.number.0 ≡ held_of nodes charges node.number.0) × Agrees held charges nodes

agrees : (before nodes : List TreeNode) (charges : List Charge) → Rises (before ++ nodes) → IsOlderTree (before ++ nodes) → Agrees (held_of (before ++ nodes) charges) charges nodes
unfolding Agrees
agrees before [] charges rises older = tt
agrees before (e ∷ nodes) charges rises older =
    let joined : (before ++ e ∷ []) ++ nodes ≡ before ++ e ∷ nodes = append_assoc before (e ∷ []) nodes in
    let at_e : held_of (before ++ e ∷ nodes) charges e.number.0 ≡ held_of nodes charges e.number.0 =
    ap (λ xs. held_of xs charges e.number.0) (sym joined) ∙ held_of-append (before ++ e ∷ []) nodes charges e.number.0 (no_child_up_to before nodes e rises older) in
    let rest : Agrees (held_of ((before ++ e ∷ []) ++ nodes) charges) charges nodes = agrees (before ++ e ∷ []) nodes charges (subst Rises (sym joined) rises) (subst IsOlderTree (sym joined) older) in
    (at_e, subst (λ xs. Agrees (held_of xs charges) charges nodes) joined rest)

pub held_of-by : (held : ℕ → ℕ) (charges : List Charge) (nodes : List TreeNode) (n : ℕ) → Agrees held charges nodes → held_of nodes charges n ≡ charged_at charges n + counted_children held nodes n
unfolding Agrees
held_of-by held charges [] n h = sym (add-zero (charged_at charges n))
held_of-by held charges (node ∷ nodes) n h =
    let f : TreeNode → ℕ = λ x. cond (is_open_child n x) (counted_at_parent x.reservation (held x.number.0)) 0 in
    let first : cond (is_open_child n node) (counted_at_parent node.reservation (held_of nodes charges node.number.0)) 0 ≡ f node =
    ap (λ m. cond (is_open_child n node) (counted_at_parent node.reservation m) 0) (sym h.0) in
    omega (arith, first, held_of-by held charges nodes n h.1, sum_by-cons f node nodes)

-- the equation of held
pub held_of_equation : (nodes : List TreeNode) (charges : List Charge) (n : ℕ) → IsAllocatorTree nodes → held_of nodes charges n ≡ charged_at charges n + counted_children (held_of nodes charges) nodes n
held_of_equation nodes charges n tree = held_of-by (held_of nodes charges) charges nodes n (agrees [] nodes charges tree.ordered (older_from_tree nodes tree))
