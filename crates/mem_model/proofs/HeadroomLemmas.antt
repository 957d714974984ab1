-- The path of an allocator goes on as its parent's does, so its headroom is the lesser of what its own limit leaves and what its parent's headroom does; and a request within it is refused by no level.
use Rattle.std.proofs.Common.{◌≡◌, ℕ, ◌+◌, ◌-◌, ◌<◌, ◌≤◌, zero, suc, ℤ, pos, ◌+ℤ◌, ◌-ℤ◌, ◌≤ℤ◌, List, [], ◌∷◌, ◌++◌, length, get_or, take, drop, reverse, Bool, true, false, ◌||◌, eqb, Some, None, All, refl, sym, ap, subst, ◌∙◌, arith, append_assoc, add-one, drop-cons, ne_eqb, eq-eqb, ltb, add-zero, inl, inr, Option}
use Rattle.std.specs.Int.{int_min}
use Rattle.std.specs.List.{Any, Contains, list_any}
use Rattle.std.specs.Option.{ForSome}
use Rattle.std.proofs.lemmas.Bool.{cond-true, cond-false, cases_eq, cases_lt, cases_order}
use Rattle.std.proofs.lemmas.Bool.Decides.{nat_tests}
use Rattle.std.proofs.Math.Bool.{and-false, or-false}
use Rattle.std.proofs.lemmas.Int.{ints, clamps}
use Rattle.std.proofs.lemmas.List.{get_or_default, get_or-drop, length-drop, length-reverse, get_or-reverse, reverse-append, take-append-drop}
use Rattle.std.proofs.lemmas.List.Elements.{All-head, All-tail}
use Rattle.std.proofs.lemmas.List.Folds.{Any-from_list_any}
use Rattle.std.proofs.lemmas.List.Sums.{sum_by-cons}
use Rattle.mem_num.specs.declared.alloc_id.AllocId.{AllocId}
use Rattle.mem_model.specs.declared.tree_node.TreeNode.{TreeNode}
use Rattle.mem_model.specs.TreeNode.{IsAllocatorTree, IsParentOf}
use Rattle.mem_model.specs.declared.charge.Charge.{Charge}
use Rattle.mem_model.specs.Charge.{amount_at}
use Rattle.mem_model.specs.Balance.{Balances, LacksAmount, raised}
use Rattle.mem_model.specs.Held.{held_of}
use Rattle.mem_model.specs.Reservation.{beyond_reservation}
use Rattle.mem_model.specs.Request.{is_past_limit, is_level, refusing_level}
use Rattle.mem_model.specs.Headroom.{path_from, path_of, free_at, unused_at, headroom_on, headroom_of, is_over_limit}
use Rattle.mem_model.specs.TreeState.{TreeState, charges_in, held_at, is_open}
use Rattle.mem_model.proofs.BalanceLemmas.{balanced_is_held, lacking_is_held, raise_passes_on, lacks_none, lacks_nothing, same_node, HasParent, parent_of}
use Rattle.mem_model.proofs.HeldLemmas.{Rises, held_of_equation}
use Rattle.mem_model.proofs.OpenLemmas.{is_open_at, open_parts, same_id}
use Rattle.mem_model.proofs.RequestLemmas.{refuses, refusing_level-none}

-- no node of these has the number n
abbrev pub HasNoNumber : ℕ → List TreeNode → Type 0
HasNoNumber n nodes = All (λ node. eqb n node.number.0 ≡ false) nodes

-- a path leaves out nodes of other numbers
path_past : (newer older : List TreeNode) (at : AllocId) → HasNoNumber at.0 newer → path_from (newer ++ older) (Some at) ≡ path_from older (Some at)
path_past [] older at none = refl
path_past (node ∷ newer) older at none =
    cond-false (eqb at.0 node.number.0) _ _ (All-head (λ x. eqb at.0 x.number.0 ≡ false) node newer none)
    ∙ path_past newer older at (All-tail (λ x. eqb at.0 x.number.0 ≡ false) node newer none)

pub reversed : (P : TreeNode → Type 0) (nodes : List TreeNode) → All P nodes → All P (reverse nodes)
reversed P nodes h k d within =
    let inside : k < length nodes = omega (arith, within, length-reverse nodes) in
    subst P (sym (get_or-reverse nodes k d inside)) (h (length nodes - 1 - k) d (omega (arith, inside)))

-- newer nodes of other numbers say nothing of a path
path_of-append : (nodes newer : List TreeNode) (at : AllocId) → HasNoNumber at.0 newer → path_of (nodes ++ newer) at.0 ≡ path_of nodes at.0
path_of-append nodes newer at none =
    ap (λ xs. path_from xs (Some at)) (reverse-append nodes newer) ∙ path_past (reverse newer) (reverse nodes) at (reversed (λ x. eqb at.0 x.number.0 ≡ false) newer none)

-- the path of an allocator that wasn't made
pub path_of-none : (nodes : List TreeNode) (at : AllocId) → HasNoNumber at.0 nodes → path_of nodes at.0 ≡ []
path_of-none nodes at none = path_of-append [] nodes at none

-- the nodes up to one, and those behind it
up_to : (nodes : List TreeNode) (e : TreeNode) (place : Contains nodes e) → nodes ≡ (take place.0 nodes ++ e ∷ []) ++ drop (place.0 + 1) nodes
up_to nodes e place =
    let i = place.0 in
    let split : drop i nodes ≡ e ∷ drop (i + 1) nodes = rw add-one (drop-cons nodes i e place.1) ∙ ap (λ (x : TreeNode). x ∷ drop (i + 1) nodes) place.2 in
    sym (append_assoc (take i nodes) (e ∷ []) (drop (i + 1) nodes) ∙ ap (λ xs. take i nodes ++ xs) (sym split) ∙ take-append-drop i nodes)

-- those behind a node have greater numbers
none_behind : (nodes : List TreeNode) (e : TreeNode) (place : Contains nodes e) (n : ℕ) → Rises nodes → n ≤ e.number.0 → HasNoNumber n (drop (place.0 + 1) nodes)
none_behind nodes e place n rises upto k d within =
    let i = place.0 in
    let inside : i + 1 + k < length nodes = omega (arith, within, length-drop (i + 1) nodes, place.1) in
    let x = get_or nodes (i + 1 + k) d in
    let here : get_or nodes i d ≡ e = get_or_default nodes i d e place.1 ∙ place.2 in
    let newer : e.number.0 < x.number.0 = subst (λ (y : TreeNode). y.number.0 < x.number.0) here (rises i (i + 1 + k) d (omega arith) inside) in
    subst (λ (y : TreeNode). eqb n y.number.0 ≡ false) (sym (get_or-drop (i + 1) nodes k d)) (ne_eqb n x.number.0 (λ same. omega (arith, same, newer, upto)))

-- the path of a node, or of an older one, from this node on
path_of-up_to : (nodes : List TreeNode) (e : TreeNode) (place : Contains nodes e) (at : AllocId) → Rises nodes → at.0 ≤ e.number.0 → path_of nodes at.0 ≡ path_from (e ∷ reverse (take place.0 nodes)) (Some at)
path_of-up_to nodes e place at rises upto =
    let before = take place.0 nodes in
    ap (λ xs. path_of xs at.0) (up_to nodes e place) ∙ path_of-append (before ++ e ∷ []) (drop (place.0 + 1) nodes) at (none_behind nodes e place at.0 rises upto)
    ∙ ap (λ xs. path_from xs (Some at)) (reverse-append before (e ∷ []))

pub path_of-node : (nodes : List TreeNode) (e : TreeNode) (place : Contains nodes e) → Rises nodes → path_of nodes e.number.0 ≡ e ∷ path_from (reverse (take place.0 nodes)) e.parent
path_of-node nodes e place rises = path_of-up_to nodes e place e.number rises (omega arith) ∙ cond-true (eqb e.number.0 e.number.0) _ _ (eq-eqb e.number.0 e.number.0 refl)

path_from-none : (nodes : List TreeNode) → path_from nodes None ≡ []
path_from-none [] = refl
path_from-none (node ∷ nodes) = path_from-none nodes

-- the path of a node without parent is that node
pub path_of-root : (nodes : List TreeNode) (e : TreeNode) → Rises nodes → Contains nodes e → e.parent ≡ None → path_of nodes e.number.0 ≡ e ∷ []
path_of-root nodes e rises place none =
    path_of-node nodes e place rises ∙ ap (λ xs. e ∷ xs) (ap (path_from (reverse (take place.0 nodes))) none ∙ path_from-none (reverse (take place.0 nodes)))

-- the path of another is that node, and then its parent's path
pub path_of-child : (nodes : List TreeNode) (e : TreeNode) (p : AllocId) → Rises nodes → Contains nodes e → e.parent ≡ Some p → p.0 < e.number.0 → path_of nodes e.number.0 ≡ e ∷ path_of nodes p.0
path_of-child nodes e p rises place is older =
    let before = reverse (take place.0 nodes) in
    let other : eqb p.0 e.number.0 ≡ false = ne_eqb p.0 e.number.0 (λ same. omega (arith, same, older)) in
    let above : path_of nodes p.0 ≡ path_from before (Some p) = path_of-up_to nodes e place p rises (omega (arith, older)) ∙ cond-false (eqb p.0 e.number.0) _ _ other in
    path_of-node nodes e place rises ∙ ap (λ xs. e ∷ xs) (ap (path_from before) is ∙ sym above)

-- the parent of a node stands in the list, and is older
pub record HasOlderParent (nodes : List TreeNode) (e parent : TreeNode) (p : AllocId) : Type 0 where
  pub among : Contains nodes parent
  pub number : parent.number ≡ p
  pub older : p.0 < e.number.0

pub older_parent : (nodes : List TreeNode) (e : TreeNode) (p : AllocId) → IsAllocatorTree nodes → Contains nodes e → e.parent ≡ Some p → (parent : TreeNode) × HasOlderParent nodes e parent p
older_parent nodes e p tree place is =
    let parents : ForSome e.parent (λ _. Any (IsParentOf e) nodes) = subst (λ (x : TreeNode). ForSome x.parent (λ _. Any (IsParentOf x) nodes)) place.2 (tree.parents place.0 e place.1) in
    let found : Any (IsParentOf e) nodes = parents p is in
    let of : IsParentOf e found.1 = found.4 in
    let same : Some p ≡ Some found.1.number = sym is ∙ of.number in
    let number : found.1.number ≡ p = cc in
    (found.1, record { among = (found.0, found.2, found.3); number = number; older = subst (λ (q : AllocId). q.0 < e.number.0) number of.older })

-- one level more, where there is one above it
headroom_on-more : (held : ℕ → ℕ) (node parent : TreeNode) (path above : List TreeNode) → path ≡ parent ∷ above → headroom_on held (node ∷ path) ≡ int_min (free_at held node) (headroom_on held path +ℤ pos (unused_at held node))
headroom_on-more held node parent path above is =
    subst (λ xs. headroom_on held (node ∷ xs) ≡ int_min (free_at held node) (headroom_on held xs +ℤ pos (unused_at held node))) (sym is) refl

-- the headroom of the root
pub headroom_of-root : (state : TreeState) (e : TreeNode) → IsAllocatorTree state.nodes → Contains state.nodes e → e.parent ≡ None → headroom_of state e.number.0 ≡ free_at (held_at state) e
headroom_of-root state e tree place none = ap (headroom_on (held_at state)) (path_of-root state.nodes e tree.ordered place none)

-- the headroom of another, by that of its parent
pub headroom_of-child : (state : TreeState) (e : TreeNode) (p : AllocId) → IsAllocatorTree state.nodes → Contains state.nodes e → e.parent ≡ Some p
    → headroom_of state e.number.0 ≡ int_min (free_at (held_at state) e) (headroom_of state p.0 +ℤ pos (unused_at (held_at state) e))
headroom_of-child state e p tree place is =
    let nodes = state.nodes in
    let found = older_parent nodes e p tree place is in
    let parent = found.0 in
    let at : HasOlderParent nodes e parent p = found.1 in
    let path : path_of nodes p.0 ≡ parent ∷ path_from (reverse (take at.among.0 nodes)) parent.parent = ap (λ (q : AllocId). path_of nodes q.0) (sym at.number) ∙ path_of-node nodes parent at.among tree.ordered in
    ap (headroom_on (held_at state)) (path_of-child nodes e p tree.ordered place is at.older) ∙ headroom_on-more (held_at state) e parent (path_of nodes p.0) _ path

-- an allocator that wasn't made has none
pub headroom_of-none : (state : TreeState) (at : AllocId) → HasNoNumber at.0 state.nodes → headroom_of state at.0 ≡ pos 0
headroom_of-none state at none = ap (headroom_on (held_at state)) (path_of-none state.nodes at none)

-- whether the root is over its limit
pub is_over_limit-root : (state : TreeState) (e : TreeNode) → IsAllocatorTree state.nodes → Contains state.nodes e → e.parent ≡ None → is_over_limit state e.number.0 ≡ is_past_limit state.nodes (charges_in state) e
is_over_limit-root state e tree place none =
    ap (list_any (is_past_limit state.nodes (charges_in state))) (path_of-root state.nodes e tree.ordered place none) ∙ or-false (is_past_limit state.nodes (charges_in state) e)

-- whether another is, by whether its parent is
pub is_over_limit-child : (state : TreeState) (e : TreeNode) (p : AllocId) → IsAllocatorTree state.nodes → Contains state.nodes e → e.parent ≡ Some p
    → is_over_limit state e.number.0 ≡ (is_past_limit state.nodes (charges_in state) e || is_over_limit state p.0)
is_over_limit-child state e p tree place is =
    let found = older_parent state.nodes e p tree place is in
    ap (list_any (is_past_limit state.nodes (charges_in state))) (path_of-child state.nodes e p tree.ordered place is found.1.older)

pub is_over_limit-none : (state : TreeState) (at : AllocId) → HasNoNumber at.0 state.nodes → is_over_limit state at.0 ≡ false
is_over_limit-none state at none = ap (list_any (is_past_limit state.nodes (charges_in state))) (path_of-none state.nodes at none)

-- an amount within an allocator's headroom is within its limit
within_free : (amount limit held : ℕ) → pos amount ≤ℤ (pos limit -ℤ pos held) → held + amount ≤ limit
within_free amount limit held h = omega (arith, ints)

within_least : (amount limit held : ℕ) (above : ℤ) → pos amount ≤ℤ int_min (pos limit -ℤ pos held) above → held + amount ≤ limit
within_least amount limit held above h = omega (arith, ints, clamps)

-- and what is beyond the reservation is within what is left above
beyond_within : (amount limit held reservation : ℕ) (above : ℤ) → pos amount ≤ℤ int_min (pos limit -ℤ pos held) (above +ℤ pos (reservation - held)) → 0 < beyond_reservation reservation held (held + amount)
    → pos (beyond_reservation reservation held (held + amount)) ≤ℤ above
beyond_within amount limit held reservation above h some = omega (arith, ints, clamps)

-- what a node holds with a request
abbrev with_request : TreeState → Charge → ℕ → ℕ
with_request state request n = held_of state.nodes (request ∷ charges_in state) n

-- a request that has reached an open node with an amount
record Reaches (state : TreeState) (request : Charge) (held : ℕ → ℕ) (e : TreeNode) (amount : ℕ) : Type 0 where
  lacks : LacksAmount state.nodes (request ∷ charges_in state) held (Some e.number) amount
  -- at the nodes ahead nothing was added so far
  ahead : (m : ℕ) → m ≤ e.number.0 → held m ≡ held_at state m
  among : Contains state.nodes e
  is_open : e.closed ≡ false

-- the node where it begins
reaches_first : (state : TreeState) (request : Charge) (e : TreeNode) → IsAllocatorTree state.nodes → Contains state.nodes e → e.closed ≡ false → e.number ≡ request.at → Reaches state request (held_at state) e request.amount
reaches_first state request e tree place is_open number =
    let charges = charges_in state in
    let lacks : LacksAmount state.nodes (request ∷ charges) (held_at state) (Some request.at) request.amount =
    λ n. omega (arith, held_of_equation state.nodes charges n tree, sum_by-cons (amount_at n) request charges) in
    record {
      lacks = subst (λ (at : AllocId). LacksAmount state.nodes (request ∷ charges) (held_at state) (Some at) request.amount) (sym number) lacks;
      ahead = λ m upto. refl;
      among = place;
      is_open = is_open;
    }

-- what the numbers come to from that node on
from_here : (state : TreeState) (request : Charge) (held : ℕ → ℕ) (e : TreeNode) (amount : ℕ) → IsAllocatorTree state.nodes → Reaches state request held e amount → (m : ℕ) → e.number.0 ≤ m → with_request state request m ≡ raised held e.number.0 amount m
from_here state request held e amount tree h m above = lacking_is_held state.nodes (request ∷ charges_in state) held amount e tree h.among h.is_open h.lacks m above

-- that node holds the amount more
holds_more : (state : TreeState) (request : Charge) (held : ℕ → ℕ) (e : TreeNode) (amount : ℕ) → IsAllocatorTree state.nodes → Reaches state request held e amount → with_request state request e.number.0 ≡ held_at state e.number.0 + amount
holds_more state request held e amount tree h =
    let c = e.number.0 in
    let here : raised held c amount c ≡ held c + amount = rw (eq-eqb c c refl) refl in
    from_here state request held e amount tree h c (omega arith) ∙ here ∙ ap (λ (n : ℕ). n + amount) (h.ahead c (omega arith))

-- where nothing goes on, the nodes ahead hold what they held
nothing_ahead : (state : TreeState) (request : Charge) (held : ℕ → ℕ) (c amount : ℕ) → IsAllocatorTree state.nodes → Balances state.nodes (request ∷ charges_in state) (raised held c amount) → (m : ℕ) → m < c → held m ≡ held_at state m → with_request state request m ≡ held_at state m
nothing_ahead state request held c amount tree balance m less same =
    let off : eqb m c ≡ false = ne_eqb m c (λ e. omega (arith, e, less)) in
    sym (balanced_is_held state.nodes (request ∷ charges_in state) (raised held c amount) tree balance m) ∙ rw off (add-zero (held m)) ∙ same

-- what goes on from a node is beyond its reservation
goes_on : (state : TreeState) (request : Charge) (held : ℕ → ℕ) (e : TreeNode) (amount : ℕ) → IsAllocatorTree state.nodes → Reaches state request held e amount
    → LacksAmount state.nodes (request ∷ charges_in state) (raised held e.number.0 amount) e.parent (beyond_reservation e.reservation (held_at state e.number.0) (held_at state e.number.0 + amount))
goes_on state request held e amount tree h =
    let c = e.number.0 in
    subst (λ (n : ℕ). LacksAmount state.nodes (request ∷ charges_in state) (raised held c amount) e.parent (beyond_reservation e.reservation n (n + amount))) (h.ahead c (omega arith))
    (raise_passes_on state.nodes (request ∷ charges_in state) held amount e tree.ordered h.among h.is_open h.lacks)

-- and reaches its parent
reaches_parent : (state : TreeState) (request : Charge) (held : ℕ → ℕ) (e parent : TreeNode) (amount : ℕ) → IsAllocatorTree state.nodes → Reaches state request held e amount → HasParent state.nodes e parent
    → Reaches state request (raised held e.number.0 amount) parent (beyond_reservation e.reservation (held_at state e.number.0) (held_at state e.number.0 + amount))
reaches_parent state request held e parent amount tree h at =
    let c = e.number.0 in
    let share = beyond_reservation e.reservation (held_at state c) (held_at state c + amount) in
    let older : parent.number.0 < c = at.older in
    record {
      lacks = subst (λ (next : Option AllocId). LacksAmount state.nodes (request ∷ charges_in state) (raised held c amount) next share) at.number (goes_on state request held e amount tree h);
      ahead = λ m upto. (
          let off : eqb m c ≡ false = ne_eqb m c (λ same. omega (arith, same, upto, older)) in
          rw off (add-zero (held m)) ∙ h.ahead m (omega (arith, upto, older)));
      among = at.among;
      is_open = at.is_open;
    }

-- the nodes between a node and its parent hold what they held
between : (state : TreeState) (request : Charge) (held : ℕ → ℕ) (e parent : TreeNode) (amount : ℕ) → IsAllocatorTree state.nodes → Reaches state request held e amount → HasParent state.nodes e parent
    → (m : ℕ) → parent.number.0 < m → m < e.number.0 → with_request state request m ≡ held_at state m
between state request held e parent amount tree h at m behind less =
    let c = e.number.0 in
    let share = beyond_reservation e.reservation (held_at state c) (held_at state c + amount) in
    let off : eqb m c ≡ false = ne_eqb m c (λ same. omega (arith, same, less)) in
    let off' : eqb m parent.number.0 ≡ false = ne_eqb m parent.number.0 (λ same. omega (arith, same, behind)) in
    let there : raised (raised held c amount) parent.number.0 share m ≡ held m = rw (off', off) (add-zero (held m + 0) ∙ add-zero (held m)) in
    from_here state request (raised held c amount) parent share tree (reaches_parent state request held e parent amount tree h at) m (omega (arith, behind)) ∙ there ∙ h.ahead m (omega (arith, less))

-- whether a request takes a node of a state past its limit
abbrev refuses_at : TreeState → Charge → TreeNode → Bool
refuses_at state request = refuses state.nodes (charges_in state) request

not_refusing : (state : TreeState) (request : Charge) (x : TreeNode) → with_request state request x.number.0 ≡ held_at state x.number.0 → refuses_at state request x ≡ false
not_refusing state request x same = rw (eq-eqb _ _ same) refl

within_its_limit : (state : TreeState) (request : Charge) (x : TreeNode) → with_request state request x.number.0 ≤ x.limit → refuses_at state request x ≡ false
within_its_limit state request x within =
    let test : ltb x.limit (with_request state request x.number.0) ≡ false = grind (arith, nat_tests) in
    rw test (and-false (is_level state.nodes (charges_in state) request x))

-- an amount within the headroom of the node that it has reached is refused neither there nor ahead
spared : (fuel : ℕ) (state : TreeState) (request : Charge) (held : ℕ → ℕ) (e : TreeNode) (amount : ℕ) → IsAllocatorTree state.nodes → Reaches state request held e amount → e.number.0 < fuel → pos amount ≤ℤ headroom_of state e.number.0
    → (x : TreeNode) → Contains state.nodes x → x.number.0 ≤ e.number.0 → refuses_at state request x ≡ false
spared zero state request held e amount tree h less room x place upto = absurd (omega (arith, less))
spared (suc fuel) state request held e amount tree h less room x place upto =
    let c = e.number.0 in
    let was = held_at state c in
    let share = beyond_reservation e.reservation was (was + amount) in
    let here : was + amount ≤ e.limit → x.number.0 ≡ c → refuses_at state request x ≡ false = λ free same. (
    let one : x ≡ e = same_node state.nodes x e tree.ordered place h.among same in
    let more : with_request state request c ≡ was + amount = holds_more state request held e amount tree h in
    subst (λ (y : TreeNode). refuses_at state request y ≡ false) (sym one) (within_its_limit state request e (omega (arith, more, free)))) in
    let by_parent : (parent : Option AllocId) → e.parent ≡ parent → refuses_at state request x ≡ false = λ parent. elim parent as (λ parent. e.parent ≡ parent → refuses_at state request x ≡ false) [
      | None ↦ λ is. (
          let free : was + amount ≤ e.limit = within_free amount e.limit was (subst (λ z. pos amount ≤ℤ z) (headroom_of-root state e tree h.among is) room) in
          elim (cases_eq x.number.0 c) [
            | inl same ↦ here free same
            | inr other ↦ (let balance = lacks_none state.nodes (request ∷ charges_in state) (raised held c amount) share (subst (λ (next : Option AllocId). LacksAmount state.nodes (request ∷ charges_in state) (raised held c amount) next share) is (goes_on state request held e amount tree h)) in
                not_refusing state request x (nothing_ahead state request held c amount tree balance x.number.0 (omega (arith, upto, other)) (h.ahead x.number.0 upto)))
          ])
      | Some p ↦ λ is. (
          let found = parent_of state.nodes e p tree h.among h.is_open is in
          let parent = found.0 in
          let at : HasParent state.nodes e parent = found.1 in
          let older : parent.number.0 < c = at.older in
          let above = headroom_of state parent.number.0 in
          let room' : pos amount ≤ℤ int_min (pos e.limit -ℤ pos was) (above +ℤ pos (e.reservation - was)) = subst (λ z. pos amount ≤ℤ z) (headroom_of-child state e parent.number tree h.among at.number) room in
          let free : was + amount ≤ e.limit = within_least amount e.limit was _ room' in
          elim (cases_order x.number.0 c) [
            | inl same ↦ here free same
            | inr (inr more) ↦ absurd (omega (arith, upto, more))
            | inr (inl ahead) ↦ elim (cases_lt 0 share) [
              | inr none ↦ (let balance = lacks_nothing state.nodes (request ∷ charges_in state) (raised held c amount) e.parent share (omega (arith, none)) (goes_on state request held e amount tree h) in
                  not_refusing state request x (nothing_ahead state request held c amount tree balance x.number.0 ahead (h.ahead x.number.0 upto)))
              | inl some ↦ elim (cases_lt parent.number.0 x.number.0) [
                | inl behind ↦ not_refusing state request x (between state request held e parent amount tree h at x.number.0 behind ahead)
                | inr upto' ↦ spared fuel state request (raised held c amount) parent share tree (reaches_parent state request held e parent amount tree h at) (omega (arith, older, less)) (beyond_within amount e.limit was e.reservation above room' some) x place upto'
              ]
            ]
          ])
    ] in
    by_parent e.parent refl

-- the node of an open allocator
open_node : (nodes : List TreeNode) (at : AllocId) → list_any (is_open_at at.0) nodes ≡ true → (e : TreeNode) × Contains nodes e × (e.closed ≡ false) × (e.number ≡ at)
open_node nodes at is_open =
    let found : Any (λ node. is_open_at at.0 node ≡ true) nodes = Any-from_list_any (is_open_at at.0) nodes is_open in
    let parts = open_parts at.0 found.1 found.4 in
    (found.1, (found.0, found.2, found.3), parts.1, same_id found.1.number at parts.0)

-- a request within the headroom of its allocator is refused by no level
pub refusing_level-within : (state : TreeState) (request : Charge) → IsAllocatorTree state.nodes → is_open state request.at.0 ≡ true → pos request.amount ≤ℤ headroom_of state request.at.0
    → refusing_level state.nodes (charges_in state) request ≡ None
refusing_level-within state request tree is_open room =
    let found = open_node state.nodes request.at is_open in
    let e = found.0 in
    let at : e.number ≡ request.at = found.3 in
    let first : Reaches state request (held_at state) e request.amount = reaches_first state request e tree found.1 found.2 at in
    let room' : pos request.amount ≤ℤ headroom_of state e.number.0 = subst (λ (a : AllocId). pos request.amount ≤ℤ headroom_of state a.0) (sym at) room in
    refusing_level-none state.nodes (charges_in state) request (λ x place. elim (cases_lt e.number.0 x.number.0) [
      | inl behind ↦ (
          let off : eqb x.number.0 e.number.0 ≡ false = ne_eqb x.number.0 e.number.0 (λ same. omega (arith, same, behind)) in
          not_refusing state request x (from_here state request (held_at state) e request.amount tree first x.number.0 (omega (arith, behind)) ∙ rw off (add-zero (held_at state x.number.0))))
      | inr upto ↦ spared (suc e.number.0) state request (held_at state) e request.amount tree first (omega arith) room' x place upto
    ])
