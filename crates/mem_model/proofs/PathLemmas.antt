-- Searches through the nodes, one after another.
use Rattle.std.proofs.Common.{◌≡◌, ℕ, ◌+◌, ◌-◌, ◌<◌, ◌≤◌, All, arith, subst, reverse, List, [], ◌∷◌, ◌++◌, append_assoc, length, get_or, drop, find, Bool, true, false, sym, ap, ◌∙◌, add-one, drop-cons, Option, Some}
use Rattle.std.proofs.lemmas.Bool.{cond-true, cond-false, cond_both}
use Rattle.std.proofs.lemmas.List.{length-reverse, get_or-reverse}
use Rattle.std.proofs.lemmas.List.Elements.{All-cons, All-head, All-tail}
use Rattle.mem_num.specs.declared.bounds.TheConstants.{MAX_LIMIT, MAX_RESERVATION}
use Rattle.mem_num.specs.declared.alloc_id.AllocId.{AllocId}
use Rattle.mem_model.specs.declared.tree_node.TreeNode.{TreeNode}
use Rattle.mem_model.specs.TreeNode.{is_number}
use Rattle.mem_model.specs.Headroom.{path_from, path_of}
use Rattle.mem_model.specs.TreeState.{TreeState}
use Rattle.mem_model.specs.LawfulState.{IsLawfulState}

-- what is left of a list is its next element, and what is left after that
left_more : {X : Type 0} (xs : List X) (i : ℕ) (d : X) → i < length xs → drop i xs ≡ get_or xs i d ∷ drop (i + 1) xs
left_more xs i d within = rw add-one (drop-cons xs i d within)

-- the search ends at an element that passes
pub find_here : {X : Type 0} (p : X → Bool) (xs : List X) (i : ℕ) (d : X) → i < length xs → p (get_or xs i d) ≡ true → find p (drop i xs) ≡ Some (get_or xs i d)
find_here p xs i d within passes = ap (find p) (left_more xs i d within) ∙ cond-true (p (get_or xs i d)) _ _ passes

-- and goes on past one that doesn't
pub find_past : {X : Type 0} (p : X → Bool) (xs : List X) (i : ℕ) (d : X) → i < length xs → p (get_or xs i d) ≡ false → find p (drop i xs) ≡ find p (drop (i + 1) xs)
find_past p xs i d within fails = ap (find p) (left_more xs i d within) ∙ cond-false (p (get_or xs i d)) _ _ fails

-- the path goes through a node that it is to reach next
pub path_here : (newest : List TreeNode) (i : ℕ) (d : TreeNode) (next : Option AllocId) → i < length newest → is_number (get_or newest i d).number.0 next ≡ true
    → path_from (drop i newest) next ≡ get_or newest i d ∷ path_from (drop (i + 1) newest) (get_or newest i d).parent
path_here newest i d next within here = ap (λ rest. path_from rest next) (left_more newest i d within) ∙ cond-true (is_number (get_or newest i d).number.0 next) _ _ here

-- and leaves others out
pub path_past : (newest : List TreeNode) (i : ℕ) (d : TreeNode) (next : Option AllocId) → i < length newest → is_number (get_or newest i d).number.0 next ≡ false → path_from (drop i newest) next ≡ path_from (drop (i + 1) newest) next
path_past newest i d next within other = ap (λ rest. path_from rest next) (left_more newest i d within) ∙ cond-false (is_number (get_or newest i d).number.0 next) _ _ other

-- so a path that grows node by node is the whole in the end
pub path_step_here : (newest : List TreeNode) (i : ℕ) (d : TreeNode) (next : Option AllocId) (whole path longer : List TreeNode) → i < length newest → is_number (get_or newest i d).number.0 next ≡ true → longer ≡ path ++ get_or newest i d ∷ []
    → whole ≡ path ++ path_from (drop i newest) next → whole ≡ longer ++ path_from (drop (i + 1) newest) (get_or newest i d).parent
path_step_here newest i d next whole path longer within here grown so_far =
    let rest = path_from (drop (i + 1) newest) (get_or newest i d).parent in
    so_far ∙ (ap (λ xs. path ++ xs) (path_here newest i d next within here) ∙ (sym (append_assoc path (get_or newest i d ∷ []) rest) ∙ ap (λ xs. xs ++ rest) (sym grown)))

-- also past a node that it leaves out
pub path_step_past : (newest : List TreeNode) (i : ℕ) (d : TreeNode) (next : Option AllocId) (whole path : List TreeNode) → i < length newest → is_number (get_or newest i d).number.0 next ≡ false
    → whole ≡ path ++ path_from (drop i newest) next → whole ≡ path ++ path_from (drop (i + 1) newest) next
path_step_past newest i d next whole path within other so_far = so_far ∙ ap (λ xs. path ++ xs) (path_past newest i d next within other)

-- what holds of all nodes holds of those on a path
pub All-path_from : (P : TreeNode → Type 0) (newest : List TreeNode) (next : Option AllocId) → All P newest → All P (path_from newest next)
All-path_from P [] next h = h
All-path_from P (node ∷ older) next h =
    let rest = All-tail P node older h in
    cond_both (is_number node.number.0 next) _ _ (All P)
    (λ here. All-cons P node (path_from older node.parent) (All-head P node older h) (All-path_from P older node.parent rest)) (λ other. All-path_from P older next rest)

-- also where they are in order of number
pub All-path_of : (P : TreeNode → Type 0) (nodes : List TreeNode) (n : ℕ) → All P nodes → All P (path_of nodes n)
All-path_of P nodes n h =
    All-path_from P (reverse nodes) (Some (record { 0 = n })) (λ k d within.
    let inside : k < length nodes = omega (arith, within, length-reverse nodes) in
    subst P (sym (get_or-reverse nodes k d inside)) (h (length nodes - 1 - k) d (omega (arith, inside))))

-- so the numbers of those on a path of a lawful tree fit
pub path_bounds : (state : TreeState) (n : ℕ) → IsLawfulState state → All (λ node. (node.limit ≤ MAX_LIMIT) × (node.reservation ≤ MAX_RESERVATION)) (path_of state.nodes n)
path_bounds state n h =
    All-path_of (λ node. (node.limit ≤ MAX_LIMIT) × (node.reservation ≤ MAX_RESERVATION)) state.nodes n (λ k d within. ((h.nodes k d within).limited, (h.nodes k d within).small))
