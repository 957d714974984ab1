-- The levels of a request stand on the path from its allocator to the root.
use Rattle.std.proofs.Common.{◌≡◌, ℕ, zero, suc, ◌+◌, ◌-◌, ◌<◌, ◌≤◌, ◌==◌, List, [], ◌∷◌, ◌++◌, length, get_or, reverse, filter, find, Bool, true, false, not, refl, sym, ap, subst, ◌∙◌, arith, inl, inr, All, AllPairs, Option, Some, None}
use Rattle.std.specs.List.{list_any, Any, Contains}
use Rattle.std.specs.Option.{ForSome}
use Rattle.std.proofs.lemmas.Bool.{cases_Bool, cond-true, cond-false, eq-eqb, ne_eqb, eqb-true, both_ways, false_from_ne_true, and_parts}
use Rattle.std.proofs.Math.Bool.{or-false}
use Rattle.std.proofs.lemmas.List.{append-nil, length-reverse, get_or-reverse, reverse-append, reverse-reverse, get_or_default}
use Rattle.std.proofs.lemmas.List.Elements.{All-head, All-tail, filter-append}
use Rattle.std.proofs.lemmas.List.Folds.{Any-from_list_any, list_any-from_Any, list_any_none}
use Rattle.std.proofs.lemmas.List.Sums.{sum_by-cons}
use Rattle.mem_num.specs.declared.alloc_id.AllocId.{AllocId}
use Rattle.mem_model.specs.declared.charge.Charge.{Charge}
use Rattle.mem_model.specs.declared.tree_node.TreeNode.{TreeNode}
use Rattle.mem_model.specs.Charge.{amount_at}
use Rattle.mem_model.specs.Headroom.{path_from, path_of}
use Rattle.mem_model.specs.Held.{held_of}
use Rattle.mem_model.specs.Request.{is_level, levels_of, lowest, is_past_limit, refusing_level}
use Rattle.mem_model.specs.TreeNode.{is_number, is_open_child, IsAllocatorTree}
use Rattle.mem_model.proofs.BalanceLemmas.{same_node}
use Rattle.mem_model.proofs.BoundLemmas.{held_of_monotone}
use Rattle.mem_model.proofs.ChargeSumLemmas.{amount_at-own, amount_at-other}
use Rattle.mem_model.proofs.HeadroomLemmas.{HasOlderParent, older_parent, path_of-node, path_of-root, path_of-child, reversed}
use Rattle.mem_model.proofs.HeldLemmas.{Rises}
use Rattle.mem_model.proofs.LawfulCloseLemmas.{numbered}
use Rattle.mem_model.proofs.OpenLemmas.{pairs_head, pairs_tail}
use Rattle.mem_model.proofs.PathLemmas.{All-path_from}
use Rattle.mem_model.proofs.RequestLemmas.{refuses, lowest_push, filter-filter}

-- whether a node of these has the number n
abbrev pub is_among : List TreeNode → ℕ → Bool
is_among nodes n = list_any (λ node. node.number.0 == n) nodes

-- a node of one's own number is among those that begin with it
among_first : (node : TreeNode) (nodes : List TreeNode) (n : ℕ) → node.number.0 ≡ n → is_among (node ∷ nodes) n ≡ true
among_first node nodes n same = rw (eq-eqb node.number.0 n same) refl

-- who is among some is among one more
among_more : (node : TreeNode) (nodes : List TreeNode) (n : ℕ) → is_among nodes n ≡ true → is_among (node ∷ nodes) n ≡ true
among_more node nodes n rest = elim (cases_Bool (node.number.0 == n)) [ inl here ↦ rw here refl | inr other ↦ rw other rest ]

-- whoever isn't the first is among the others
among_others : (node : TreeNode) (nodes : List TreeNode) (n : ℕ) → (node.number.0 == n) ≡ false → is_among (node ∷ nodes) n ≡ true → is_among nodes n ≡ true
among_others node nodes n other whole = rw other at whole

-- nobody is among nodes of smaller numbers
none_among : (nodes : List TreeNode) (n : ℕ) → All (λ node. node.number.0 < n) nodes → is_among nodes n ≡ false
none_among nodes n smaller =
    list_any_none (λ (node : TreeNode). node.number.0 == n) nodes (λ k d within. ne_eqb (get_or nodes k d).number.0 n (λ same. omega (arith, same, smaller k d within)))

-- a set of numbers takes in the parent of each of these nodes that is in it
abbrev pub TakesParents : (ℕ → Bool) → List TreeNode → Type 0
TakesParents within nodes = All (λ node. within node.number.0 ≡ true → ForSome node.parent (λ p. within p.0 ≡ true)) nodes

-- outside of a set that takes in parents, an open child is outside too
child_outside : (node : TreeNode) (within : ℕ → Bool) (n : ℕ) → (within node.number.0 ≡ true → ForSome node.parent (λ p. within p.0 ≡ true)) → is_open_child n node ≡ true → within n ≡ false → within node.number.0 ≡ false
child_outside node within n parent child out =
    false_from_ne_true (within node.number.0) (λ inside.
    let p = numbered n node.parent (and_parts (is_number n node.parent) (not node.closed) child).0 in
    both_ways (within n) out (subst (λ m. within m ≡ true) p.2 (parent inside p.0 p.1)))

-- so a request changes nothing outside of such a set, if its allocator is in it
pub outside_same : (nodes : List TreeNode) (charges : List Charge) (request : Charge) (within : ℕ → Bool) → within request.at.0 ≡ true → TakesParents within nodes
    → (n : ℕ) → within n ≡ false → held_of nodes (request ∷ charges) n ≡ held_of nodes charges n
outside_same [] charges request within at parents n out =
    omega (arith, sum_by-cons (amount_at n) request charges, amount_at-other request n (λ same. both_ways (within n) out (subst (λ m. within m ≡ true) (sym same) at)))
outside_same (node ∷ nodes) charges request within at parents n out =
    let Takes : TreeNode → Type 0 = λ x. within x.number.0 ≡ true → ForSome x.parent (λ p. within p.0 ≡ true) in
    let rest = outside_same nodes charges request within at (All-tail Takes node nodes parents) in
    elim (cases_Bool (is_open_child n node)) [
      | inl child ↦ (
          let below = rest node.number.0 (child_outside node within n (All-head Takes node nodes parents) child out) in
          rw child (omega (arith, rest n out, below)))
      | inr other ↦ rw other (omega (arith, rest n out))
    ]

-- the path of a node begins with it
path_first : (nodes : List TreeNode) (e : TreeNode) → IsAllocatorTree nodes → Contains nodes e → is_among (path_of nodes e.number.0) e.number.0 ≡ true
path_first nodes e tree place = ap (λ xs. is_among xs e.number.0) (path_of-node nodes e place tree.ordered) ∙ among_first e _ e.number.0 refl

-- and takes in parents
path_takes : (fuel : ℕ) (nodes : List TreeNode) (e : TreeNode) → IsAllocatorTree nodes → Contains nodes e → e.number.0 < fuel
    → (x : TreeNode) (p : AllocId) → Contains nodes x → x.parent ≡ Some p → is_among (path_of nodes e.number.0) x.number.0 ≡ true → is_among (path_of nodes e.number.0) p.0 ≡ true
path_takes zero nodes e tree place less x p at is on = absurd (omega (arith, less))
path_takes (suc fuel) nodes e tree place less x p at is on =
    let one : (e.number.0 == x.number.0) ≡ true → x ≡ e = λ same. same_node nodes x e tree.ordered at place (sym (eqb-true e.number.0 x.number.0 same)) in
    let by_parent : (parent : Option AllocId) → e.parent ≡ parent → is_among (path_of nodes e.number.0) p.0 ≡ true = λ parent. elim parent as (λ parent. e.parent ≡ parent → is_among (path_of nodes e.number.0) p.0 ≡ true) [
      | None ↦ λ none. (
          let path : path_of nodes e.number.0 ≡ e ∷ [] = path_of-root nodes e tree.ordered place none in
          let same : (e.number.0 == x.number.0) ≡ true = sym (or-false (e.number.0 == x.number.0)) ∙ subst (λ xs. is_among xs x.number.0 ≡ true) path on in
          let none' : x.parent ≡ None = ap (λ (y : TreeNode). y.parent) (one same) ∙ none in
          absurd cc)
      | Some q ↦ λ is_q. (
          let found = older_parent nodes e q tree place is_q in
          let above : HasOlderParent nodes e found.0 q = found.1 in
          let older : q.0 < e.number.0 = above.older in
          let number : found.0.number.0 ≡ q.0 = ap (λ (a : AllocId). a.0) above.number in
          let path : path_of nodes e.number.0 ≡ e ∷ path_of nodes q.0 = path_of-child nodes e q tree.ordered place is_q older in
          let on' : is_among (e ∷ path_of nodes q.0) x.number.0 ≡ true = subst (λ xs. is_among xs x.number.0 ≡ true) path on in
          let rest : is_among (path_of nodes q.0) p.0 ≡ true = elim (cases_Bool (e.number.0 == x.number.0)) [
            | inl same ↦ (
                let ids : Some p ≡ Some q = sym is ∙ ap (λ (y : TreeNode). y.parent) (one same) ∙ is_q in
                let id : p ≡ q = cc in
                subst (λ (a : AllocId). is_among (path_of nodes q.0) a.0 ≡ true) (sym id)
                (subst (λ (m : ℕ). is_among (path_of nodes m) m ≡ true) number (path_first nodes found.0 tree above.among)))
            | inr other ↦ subst (λ (m : ℕ). is_among (path_of nodes m) p.0 ≡ true) number
                (path_takes fuel nodes found.0 tree above.among (omega (arith, number, older, less)) x p at is
                (subst (λ (m : ℕ). is_among (path_of nodes m) x.number.0 ≡ true) (sym number) (among_others e (path_of nodes q.0) x.number.0 other on')))
          ] in
          ap (λ xs. is_among xs p.0) path ∙ among_more e (path_of nodes q.0) p.0 rest)
    ] in
    by_parent e.parent refl

-- whoever holds more is no stranger: what a request changes is in any set that takes in parents and has its allocator
level_within : (nodes : List TreeNode) (charges : List Charge) (request : Charge) (within : ℕ → Bool) → within request.at.0 ≡ true → TakesParents within nodes → (x : TreeNode) → is_level nodes charges request x ≡ true → within x.number.0 ≡ true
level_within nodes charges request within at parents x level = elim (cases_Bool (within x.number.0)) [
  | inl inside ↦ inside
  | inr out ↦ absurd (
      let same = outside_same nodes charges request within at parents x.number.0 out in
      let none : is_level nodes charges request x ≡ false = rw (eq-eqb _ _ same) refl in
      both_ways (is_level nodes charges request x) none level)
]

-- so each level is on the path
level_on_path : (nodes : List TreeNode) (charges : List Charge) (request : Charge) → IsAllocatorTree nodes → (x : TreeNode) → Contains nodes x → is_level nodes charges request x ≡ true → is_among (path_of nodes request.at.0) x.number.0 ≡ true
level_on_path nodes charges request tree x at level =
    let n = request.at.0 in
    elim (cases_Bool (is_among nodes n)) [
      | inl made ↦ (
          let found : Any (λ (node : TreeNode). (node.number.0 == n) ≡ true) nodes = Any-from_list_any (λ node. node.number.0 == n) nodes made in
          let e = found.1 in
          let place : Contains nodes e = (found.0, found.2, found.3) in
          let number : e.number.0 ≡ n = eqb-true e.number.0 n found.4 in
          let first : is_among (path_of nodes n) n ≡ true = subst (λ (m : ℕ). is_among (path_of nodes m) m ≡ true) number (path_first nodes e tree place) in
          level_within nodes charges request (is_among (path_of nodes n)) first
          (λ k d within inside p is.
          let y = get_or nodes k d in
          subst (λ (m : ℕ). is_among (path_of nodes m) p.0 ≡ true) number
          (path_takes (suc e.number.0) nodes e tree place (omega arith) y p (k, within, get_or_default nodes k y d within) is (subst (λ (m : ℕ). is_among (path_of nodes m) y.number.0 ≡ true) (sym number) inside)))
          x level)
      | inr unmade ↦ absurd (
          let itself : (m : ℕ) → Contains nodes x → (n == x.number.0) ≡ true → ⊥ = λ m place same.
          both_ways (is_among nodes n) unmade
          (list_any-from_Any (λ node. node.number.0 == n) nodes (place.0, x, place.1, place.2, eq-eqb x.number.0 n (sym (eqb-true n x.number.0 same)))) in
          let alone : (n == x.number.0) ≡ true = level_within nodes charges request (λ m. n == m) (eq-eqb n n refl)
          (λ k d within inside p is. absurd (
          let y = get_or nodes k d in
          both_ways (is_among nodes n) unmade
          (list_any-from_Any (λ node. node.number.0 == n) nodes (k, y, within, get_or_default nodes k y d within, eq-eqb y.number.0 n (sym (eqb-true n y.number.0 inside))))))
          x level in
          itself n at alone)
    ]

-- numbers fall along the list
abbrev Falls : List TreeNode → Type 0
Falls newest = AllPairs (λ newer older. older.number.0 < newer.number.0) newest

falls-reverse : (nodes : List TreeNode) → Rises nodes → Falls (reverse nodes)
falls-reverse nodes rises i j d lt within =
    let size : length (reverse nodes) ≡ length nodes = length-reverse nodes in
    let first = ap (λ (x : TreeNode). x.number.0) (get_or-reverse nodes i d (omega (arith, size, lt, within))) in
    let last = ap (λ (x : TreeNode). x.number.0) (get_or-reverse nodes j d (omega (arith, size, within))) in
    omega (arith, first, last, rises (length nodes - 1 - j) (length nodes - 1 - i) d (omega (arith, size, lt, within)) (omega (arith, size, lt, within)))

-- a filter that passes only nodes on a path
filter-path : (p : TreeNode → Bool) (newest : List TreeNode) (next : Option AllocId) → Falls newest → All (λ x. p x ≡ true → is_among (path_from newest next) x.number.0 ≡ true) newest → filter p (path_from newest next) ≡ filter p newest
filter-path p [] next falls on = refl
filter-path p (node ∷ older) next falls on =
    let On : List TreeNode → TreeNode → Type 0 = λ path x. p x ≡ true → is_among path x.number.0 ≡ true in
    let smaller : All (λ x. x.number.0 < node.number.0) older = pairs_head (λ (newer older : TreeNode). older.number.0 < newer.number.0) node older falls in
    let falls' : Falls older = pairs_tail (λ (newer older : TreeNode). older.number.0 < newer.number.0) node older falls in
    elim (cases_Bool (is_number node.number.0 next)) [
      | inl here ↦ (
          let above = path_from older node.parent in
          let path : path_from (node ∷ older) next ≡ node ∷ above = cond-true (is_number node.number.0 next) (node ∷ above) (path_from older next) here in
          let rest : filter p above ≡ filter p older = filter-path p older node.parent falls' (λ k d within passes.
          let x = get_or older k d in
          among_others node above x.number.0 (ne_eqb node.number.0 x.number.0 (λ same. omega (arith, same, smaller k d within)))
          (subst (λ xs. is_among xs x.number.0 ≡ true) path (All-tail (On (path_from (node ∷ older) next)) node older on k d within passes))) in
          ap (filter p) path ∙ elim (cases_Bool (p node)) [ inl passes ↦ rw passes (ap (λ xs. node ∷ xs) rest) | inr fails ↦ rw fails rest ])
      | inr past ↦ (
          let above = path_from older next in
          let path : path_from (node ∷ older) next ≡ above = cond-false (is_number node.number.0 next) (node ∷ path_from older node.parent) above past in
          let rest : filter p above ≡ filter p older = filter-path p older next falls' (λ k d within passes.
          subst (λ xs. is_among xs (get_or older k d).number.0 ≡ true) path (All-tail (On (path_from (node ∷ older) next)) node older on k d within passes)) in
          let out : p node ≡ false = false_from_ne_true (p node) (λ passes.
          both_ways (is_among above node.number.0) (none_among above node.number.0 (All-path_from (λ x. x.number.0 < node.number.0) older next smaller))
          (subst (λ xs. is_among xs node.number.0 ≡ true) path (All-head (On (path_from (node ∷ older) next)) node older on passes))) in
          ap (filter p) path ∙ rest ∙ sym (cond-false (p node) (node ∷ filter p older) (filter p older) out))
    ]

filter-reverse : (p : TreeNode → Bool) (xs : List TreeNode) → filter p (reverse xs) ≡ reverse (filter p xs)
filter-reverse p [] = refl
filter-reverse p (x ∷ xs) =
    let split : filter p (reverse (x ∷ xs)) ≡ reverse (filter p xs) ++ filter p (x ∷ []) =
    ap (filter p) (reverse-append (x ∷ []) xs) ∙ filter-append p (reverse xs) (x ∷ []) ∙ ap (λ ys. ys ++ filter p (x ∷ [])) (filter-reverse p xs) in
    split ∙ elim (cases_Bool (p x)) [
      | inl passes ↦ rw passes (sym (reverse-append (x ∷ []) (filter p xs)))
      | inr fails ↦ rw fails (append-nil (reverse (filter p xs)))
    ]

-- the levels of a request are those on the path of its allocator, the highest first
pub levels_of-path : (nodes : List TreeNode) (charges : List Charge) (request : Charge) → IsAllocatorTree nodes → levels_of nodes charges request ≡ reverse (filter (is_level nodes charges request) (path_of nodes request.at.0))
levels_of-path nodes charges request tree =
    let level = is_level nodes charges request in
    let next : Option AllocId = Some (record { 0 = request.at.0 }) in
    let on : All (λ x. level x ≡ true → is_among (path_of nodes request.at.0) x.number.0 ≡ true) nodes = λ k d within passes.
    level_on_path nodes charges request tree (get_or nodes k d) (k, within, get_or_default nodes k (get_or nodes k d) d within) passes in
    let path : filter level (path_of nodes request.at.0) ≡ filter level (reverse nodes) =
    filter-path level (reverse nodes) next (falls-reverse nodes tree.ordered) (reversed (λ x. level x ≡ true → is_among (path_of nodes request.at.0) x.number.0 ≡ true) nodes on) in
    sym (ap reverse (path ∙ filter-reverse level nodes) ∙ reverse-reverse (filter level nodes))

-- the lowest of some that stand in the other order is the first
lowest-reverse : (p : TreeNode → Bool) (xs : List TreeNode) → lowest (reverse (filter p xs)) ≡ find p xs
lowest-reverse p [] = refl
lowest-reverse p (x ∷ xs) = elim (cases_Bool (p x)) [
  | inl passes ↦ rw passes (ap lowest (reverse-append (x ∷ []) (filter p xs)) ∙ lowest_push (reverse (filter p xs)) x)
  | inr fails ↦ rw fails (lowest-reverse p xs)
]

-- so the level that refuses is the first on the path that is taken past its limit
pub refusing_level-path : (nodes : List TreeNode) (charges : List Charge) (request : Charge) → IsAllocatorTree nodes → refusing_level nodes charges request ≡ find (refuses nodes charges request) (path_of nodes request.at.0)
refusing_level-path nodes charges request tree =
    let level = is_level nodes charges request in
    let past = is_past_limit nodes (request ∷ charges) in
    let path = path_of nodes request.at.0 in
    ap (λ levels. lowest (filter past levels)) (levels_of-path nodes charges request tree)
    ∙ ap lowest (filter-reverse past (filter level path) ∙ ap reverse (filter-filter past level path)) ∙ lowest-reverse (refuses nodes charges request) path

-- a request's own allocator holds as much more
held_of-own : (nodes : List TreeNode) (charges : List Charge) (request : Charge) → held_of nodes charges request.at.0 + request.amount ≤ held_of nodes (request ∷ charges) request.at.0
held_of-own [] charges request = omega (arith, sum_by-cons (amount_at request.at.0) request charges, amount_at-own request request.at.0 refl)
held_of-own (node ∷ nodes) charges request =
    let rest = held_of-own nodes charges request in
    elim (cases_Bool (is_open_child request.at.0 node)) [
      | inl child ↦ rw child (omega (arith, rest, held_of_monotone nodes charges request node.number.0))
      | inr other ↦ rw other (omega (arith, rest))
    ]

-- so it is the lowest level
pub lowest-own : (nodes : List TreeNode) (charges : List Charge) (request : Charge) (node : TreeNode) → IsAllocatorTree nodes → Contains nodes node → node.number ≡ request.at → 1 ≤ request.amount → lowest (levels_of nodes charges request) ≡ Some node
lowest-own nodes charges request node tree place is some =
    let level = is_level nodes charges request in
    let number : node.number.0 ≡ request.at.0 = ap (λ (a : AllocId). a.0) is in
    let more : held_of nodes charges node.number.0 + request.amount ≤ held_of nodes (request ∷ charges) node.number.0 =
    subst (λ (m : ℕ). held_of nodes charges m + request.amount ≤ held_of nodes (request ∷ charges) m) (sym number) (held_of-own nodes charges request) in
    let passes : level node ≡ true = rw (ne_eqb (held_of nodes (request ∷ charges) node.number.0) (held_of nodes charges node.number.0) (λ same. omega (arith, same, more, some))) refl in
    let path : path_of nodes request.at.0 ≡ node ∷ _ = ap (path_of nodes) (sym number) ∙ path_of-node nodes node place tree.ordered in
    ap lowest (levels_of-path nodes charges request tree) ∙ lowest-reverse level (path_of nodes request.at.0) ∙ ap (find level) path ∙ cond-true (level node) (Some node) _ passes
