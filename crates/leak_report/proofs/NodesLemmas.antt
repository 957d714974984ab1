-- The allocators of a tree, number by number.
use Rattle.std.proofs.Common.{◌≡◌, ℕ, zero, suc, ◌+◌, ◌^◌, ◌<◌, ◌≤◌, min, List, [], ◌∷◌, ◌++◌, map, filter, get_or, true, false, ltb, eqb, All, Option, Some, None, refl, sym, ap, ◌∙◌, arith, inl, inr}
use Rattle.std.specs.List.{find}
use Rattle.std.specs.Option.{option_map, option_to_list}
use Rattle.std.proofs.lemmas.Bool.{cases_lt}
use Rattle.std.proofs.lemmas.Bool.Decides.{nat_tests}
use Rattle.std.proofs.lemmas.List.Elements.{All-append, All-head, All-tail}
use Rattle.std.proofs.lemmas.List.{map-append}
use Rattle.mem_num.specs.declared.placed.Placed.{Placed}
use Rattle.mem_model.specs.declared.tree_node.TreeNode.{TreeNode}
use Rattle.mem_model.specs.LawfulState.{IsLawfulState, IsWithinBounds}
use Rattle.mem_model.specs.MeasuredTree.{placed_node}
use Rattle.mem_model.specs.TreeState.{TreeState}
use Rattle.mem_model.proofs.HeldLemmas.{Rises}
use Rattle.mem_model.proofs.RequestLemmas.{filter_none}

-- the nodes whose numbers are below n
abbrev pub nodes_below : ℕ → List TreeNode → List TreeNode
nodes_below n nodes = filter (λ node. ltb node.number.0 n) nodes

-- the node of the number n, if there is one
abbrev pub node_at : ℕ → List TreeNode → Option TreeNode
node_at n nodes = find (λ node. eqb node.number.0 n) nodes

-- no number is below 0
pub nodes_below-zero : (nodes : List TreeNode) → nodes_below 0 nodes ≡ []
nodes_below-zero nodes = filter_none (λ node. ltb node.number.0 0) nodes (λ k d within. grind (arith, nat_tests))

-- where all numbers are below n, these are all nodes
pub nodes_below-all : (n : ℕ) (nodes : List TreeNode) → All (λ node. node.number.0 < n) nodes → nodes_below n nodes ≡ nodes
nodes_below-all n [] below = refl
nodes_below-all n (node ∷ nodes) below =
    let first : node.number.0 < n = All-head (λ x. x.number.0 < n) node nodes below in
    let passes : ltb node.number.0 n ≡ true = grind (arith, nat_tests) in
    rw passes (ap (λ xs. node ∷ xs) (nodes_below-all n nodes (All-tail (λ x. x.number.0 < n) node nodes below)))

-- the nodes behind one have greater numbers
Rises-head : (node : TreeNode) (nodes : List TreeNode) → Rises (node ∷ nodes) → All (λ x. node.number.0 < x.number.0) nodes
Rises-head node nodes rises k d within = rises 0 (suc k) d (omega arith) (omega arith)

-- and their numbers rise
Rises-tail : (node : TreeNode) (nodes : List TreeNode) → Rises (node ∷ nodes) → Rises nodes
Rises-tail node nodes rises i j d before within = rises (suc i) (suc j) d (omega arith) (omega arith)

-- no number is below n where all are greater
none_below : (n : ℕ) (nodes : List TreeNode) → All (λ x. n ≤ x.number.0) nodes → nodes_below n nodes ≡ []
none_below n nodes above = filter_none (λ node. ltb node.number.0 n) nodes (λ k d within. let at_least : n ≤ (get_or nodes k d).number.0 = above k d within in grind (arith, nat_tests))

-- a number higher, the node of that number comes last
nodes_below-more : (n : ℕ) (nodes : List TreeNode) → Rises nodes → nodes_below (n + 1) nodes ≡ nodes_below n nodes ++ option_to_list (node_at n nodes)
nodes_below-more n [] rises = refl
nodes_below-more n (node ∷ nodes) rises =
    let rest = nodes_below-more n nodes (Rises-tail node nodes rises) in
    elim (cases_lt node.number.0 n) [
      | inl lt ↦ (
          let low : ltb node.number.0 n ≡ true = grind (arith, nat_tests) in
          let low' : ltb node.number.0 (n + 1) ≡ true = grind (arith, nat_tests) in
          let other : eqb node.number.0 n ≡ false = grind (arith, nat_tests) in
          rw (low, low', other) (ap (λ xs. node ∷ xs) rest))
      | inr ge ↦ elim (cases_lt n node.number.0) [
        | inl gt ↦ (
            let high : ltb node.number.0 n ≡ false = grind (arith, nat_tests) in
            let high' : ltb node.number.0 (n + 1) ≡ false = grind (arith, nat_tests) in
            let other : eqb node.number.0 n ≡ false = grind (arith, nat_tests) in
            rw (high, high', other) rest)
        | inr le ↦ (
            let high : ltb node.number.0 n ≡ false = grind (arith, nat_tests) in
            let low : ltb node.number.0 (n + 1) ≡ true = grind (arith, nat_tests) in
            let here : eqb node.number.0 n ≡ true = grind (arith, nat_tests) in
            let behind = Rises-head node nodes rises in
            let none : nodes_below n nodes ≡ [] = none_below n nodes (λ k d within. let more : node.number.0 < (get_or nodes k d).number.0 = behind k d within in omega arith) in
            let none' : nodes_below (n + 1) nodes ≡ [] = none_below (n + 1) nodes (λ k d within. let more : node.number.0 < (get_or nodes k d).number.0 = behind k d within in omega arith) in
            rw (high, low, here) (ap (λ xs. node ∷ xs) none' ∙ ap (λ xs. xs ++ node ∷ []) (sym none)))
      ]
    ]

-- a mapped answer as a list is the mapped list
option_map-list : {A B : Type 0} (f : A → B) (found : Option A) → map f (option_to_list found) ≡ option_to_list (option_map f found)
option_map-list f None = refl
option_map-list f (Some x) = refl

-- the numbers of the node of that number come last
pub placed_below-more : (f : TreeNode → Placed) (n : ℕ) (nodes : List TreeNode) (found : Option Placed) → Rises nodes → found ≡ option_map f (node_at n nodes) → map f (nodes_below (n + 1) nodes) ≡ map f (nodes_below n nodes) ++ option_to_list found
placed_below-more f n nodes found rises is =
    ap (map f) (nodes_below-more n nodes rises) ∙ map-append f (nodes_below n nodes) (option_to_list (node_at n nodes))
    ∙ ap (λ xs. map f (nodes_below n nodes) ++ xs) (option_map-list f (node_at n nodes) ∙ ap option_to_list (sym is))

-- the numbers of a lawful tree are below the next one, and below the most that there may be
pub nodes_below-end : (state : TreeState) (n : ℕ) → IsLawfulState state → min state.next 64 ≤ n → nodes_below n state.nodes ≡ state.nodes
nodes_below-end state n lawful reached = nodes_below-all n state.nodes (λ k d within. let bounds : IsWithinBounds state.next (get_or state.nodes k d) = lawful.nodes k d within in omega (arith, bounds.given, bounds.few, reached))

-- peaks that 64 bits hold
abbrev pub HasShortPeaks : List Placed → Type 0
HasShortPeaks placed = All (λ node. node.node.peak < 2 ^ 64) placed

-- one alone
one_short : (node : Placed) → node.node.peak < 2 ^ 64 → HasShortPeaks (node ∷ [])
one_short node peak zero d within = peak
one_short node peak (suc k) d within = absurd (omega arith)

-- such are those with one node more
pub short_peaks_more : (placed : List Placed) (node : Placed) → HasShortPeaks placed → node.node.peak < 2 ^ 64 → HasShortPeaks (placed ++ node ∷ [])
short_peaks_more placed node peaks peak =
    All-append (λ (p : Placed). p.node.peak < 2 ^ 64) placed (node ∷ []) peaks (one_short node peak)

-- and so are those of the nodes of a tree
pub short_peaks_from : (peaks : ℕ → ℕ) (state : TreeState) (nodes : List TreeNode) → HasShortPeaks (map (placed_node peaks state) nodes) → All (λ node. peaks node.number.0 < 2 ^ 64) nodes
short_peaks_from peaks state [] short k d within = absurd (omega arith)
short_peaks_from peaks state (node ∷ nodes) short zero d within = All-head (λ (p : Placed). p.node.peak < 2 ^ 64) (placed_node peaks state node) (map (placed_node peaks state) nodes) short
short_peaks_from peaks state (node ∷ nodes) short (suc k) d within =
    short_peaks_from peaks state nodes (All-tail (λ (p : Placed). p.node.peak < 2 ^ 64) (placed_node peaks state node) (map (placed_node peaks state) nodes) short) k d (omega arith)
