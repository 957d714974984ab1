-- Lists of allocators in order of number are the same where they have the same lines.
use Rattle.std.proofs.Common.{◌≡◌, ℕ, zero, suc, ◌+◌, ◌<◌, List, [], ◌∷◌, map, fold, length, get_or, All, Any, Option, Some, None, refl, sym, ap, subst, ◌∙◌, arith, inl, inr}
use Rattle.std.specs.Option.{ForSome}
use Rattle.std.proofs.lemmas.List.{get_or-map, length-map}
use Rattle.std.proofs.lemmas.List.Elements.{All-head, All-tail}
use Rattle.mem_num.specs.declared.alloc_id.AllocId.{AllocId}
use Rattle.mem_model.specs.declared.tree_node.TreeNode.{TreeNode}
use Rattle.mem_model.specs.TreeNode.{IsAllocatorTree, IsParentOf}
use Rattle.leak_report.specs.LawfulReport.{printed_node}
use Rattle.leak_report.specs.ReadReport.{with_allocator, with_lines}
use Rattle.leak_report.specs.Report.{PrintedAllocator, tree_lines_of}
use Rattle.leak_report.proofs.MemberLemmas.{IsOf, NumbersRise, children_of, from_order, order_closed, rise_behind, rise_tail}
use Rattle.leak_report.proofs.OrderLemmas.{added_from, added_new, added_rise, one_number}
use Rattle.leak_report.proofs.ParentLemmas.{in_line_order, with_lines-lines_of}

-- numbers of a tree rise
rise_from_tree : (xs : List PrintedAllocator) → IsAllocatorTree (map printed_node xs) → NumbersRise xs
rise_from_tree xs tree i j d less within =
    let at : (k : ℕ) → k < length xs → (get_or (map printed_node xs) k (printed_node d)).number.0 ≡ (get_or xs k d).number.0 =
    λ k inside. ap (λ (n : TreeNode). n.number.0) (get_or-map printed_node xs k d (printed_node d) inside) in
    let rise : (get_or (map printed_node xs) i (printed_node d)).number.0 < (get_or (map printed_node xs) j (printed_node d)).number.0 = tree.ordered i j (printed_node d) less (omega (arith, length-map xs printed_node)) in
    omega (arith, at i (omega arith), at j within)

-- what holds of all nodes holds of that of an allocator
node_has : (P : TreeNode → Type 0) (x : PrintedAllocator) (xs : List PrintedAllocator) → All P (map printed_node xs) → IsOf x xs → P (printed_node x)
node_has P x [] all' of = absurd of
node_has P x (y ∷ xs) all' (inl same) = subst (λ (z : PrintedAllocator). P (printed_node z)) (sym same) (All-head P (printed_node y) (map printed_node xs) all')
node_has P x (y ∷ xs) all' (inr of) = node_has P x xs (All-tail P (printed_node y) (map printed_node xs) all') of

-- a node that is found is that of an allocator
found_of : (P : TreeNode → Type 0) (xs : List PrintedAllocator) → Any P (map printed_node xs) → (x : PrintedAllocator) × IsOf x xs × P (printed_node x)
found_of P [] found = absurd (omega (arith, found.2))
found_of P (y ∷ xs) (zero, node, within, is, holds) = (y, inl refl, subst P (sym is) holds)
found_of P (y ∷ xs) (suc k, node, within, is, holds) =
    let rest = found_of P xs (k, node, omega arith, is, holds) in
    (rest.0, inr rest.1, rest.2)

-- its parent has its line, and so it has its own
line_by_parent : (n : ℕ) (x : PrintedAllocator) (xs : List PrintedAllocator) (told : Option AllocId) → IsAllocatorTree (map printed_node xs) → ((y : PrintedAllocator) → IsOf y xs → y.number.0 < n → IsOf y (in_line_order xs None))
    → IsOf x xs → x.number.0 < n + 1 → x.parent ≡ told → IsOf x (in_line_order xs None)
line_by_parent n x xs None tree before of small is = children_of x xs None is of
line_by_parent n x xs (Some p) tree before of small is =
    let found = found_of (IsParentOf (printed_node x)) xs (node_has (λ node. ForSome node.parent (λ _. Any (IsParentOf node) (map printed_node xs))) x xs tree.parents of p is) in
    let parent = found.2 in
    order_closed found.0 x xs None (rise_from_tree xs tree) (before found.0 found.1 (omega (arith, parent.older))) of parent.number parent.older

-- every allocator of a tree has its line
has_line : (n : ℕ) (x : PrintedAllocator) (xs : List PrintedAllocator) → IsAllocatorTree (map printed_node xs) → IsOf x xs → x.number.0 < n → IsOf x (in_line_order xs None)
has_line zero x xs tree of small = absurd (omega arith)
has_line (suc n) x xs tree of small = line_by_parent n x xs x.parent tree (λ y among less. has_line n y xs tree among less) of (omega arith) refl

-- the first is the first of the other
first_same : (x y : PrintedAllocator) (xs ys : List PrintedAllocator) → NumbersRise (x ∷ xs) → NumbersRise (y ∷ ys) → IsOf x (y ∷ ys) → IsOf y (x ∷ xs) → x ≡ y
first_same x y xs ys rise rise' (inl same) back = same
first_same x y xs ys rise rise' (inr behind) (inl same) = sym same
first_same x y xs ys rise rise' (inr behind) (inr behind') =
    let less : y.number.0 < x.number.0 = rise_behind y x ys rise' behind in
    let more : x.number.0 < y.number.0 = rise_behind x y xs rise behind' in
    absurd (omega arith)

-- what stands behind the first stands behind the first of the other
behind_first : (x y z : PrintedAllocator) (xs ys : List PrintedAllocator) → NumbersRise (x ∷ xs) → x ≡ y → IsOf z xs → IsOf z (y ∷ ys) → IsOf z ys
behind_first x y z xs ys rise same of (inr behind) = behind
behind_first x y z xs ys rise same of (inl it) =
    let less : x.number.0 < z.number.0 = rise_behind x z xs rise of in
    let here : z.number.0 ≡ x.number.0 = ap (λ (a : PrintedAllocator). a.number.0) (it ∙ sym same) in
    absurd (omega arith)

-- lists in order of number that have the same allocators are the same
same_list : (xs ys : List PrintedAllocator) → NumbersRise xs → NumbersRise ys → ((x : PrintedAllocator) → IsOf x xs → IsOf x ys) → ((y : PrintedAllocator) → IsOf y ys → IsOf y xs) → xs ≡ ys
same_list [] [] rise rise' there back = refl
same_list [] (y ∷ ys) rise rise' there back = absurd (back y (inl refl))
same_list (x ∷ xs) [] rise rise' there back = absurd (there x (inl refl))
same_list (x ∷ xs) (y ∷ ys) rise rise' there back =
    let same : x ≡ y = first_same x y xs ys rise rise' (there x (inl refl)) (back y (inl refl)) in
    let rest = same_list xs ys (rise_tail x xs rise) (rise_tail y ys rise')
    (λ z of. behind_first x y z xs ys rise same of (there z (inr of)))
    (λ z of. behind_first y x z ys xs rise' (sym same) of (back z (inr of))) in
    λ i. same i ∷ rest i

-- the lines of a tree are read as its allocators
pub with_lines-tree : (xs : List PrintedAllocator) → IsAllocatorTree (map printed_node xs) → with_lines [] [] (tree_lines_of xs 0 None) ≡ xs
with_lines-tree xs tree =
    let rise = rise_from_tree xs tree in
    let order = in_line_order xs None in
    let none_rise : NumbersRise [] = λ i j d less within. absurd (omega arith) in
    let read : List PrintedAllocator = fold with_allocator [] order in
    with_lines-lines_of xs
    ∙ same_list read xs (added_rise [] order none_rise) rise
    (λ x of. elim (added_from x [] order none_rise of) [ inl none ↦ absurd none | inr among ↦ from_order x xs None among ])
    (λ x of. added_new x [] order none_rise (λ y none. absurd none) (λ y among. one_number xs x y rise of (from_order y xs None among)) (has_line (x.number.0 + 1) x xs tree of (omega arith)))
