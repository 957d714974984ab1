-- Numbers that balance are what is held, and an amount that is added or subtracted at one level is next at its parent's.
use Rattle.std.proofs.Common.{◌≡◌, ◌≢◌, ℕ, zero, suc, ◌+◌, ◌-◌, ◌<◌, ◌≤◌, List, [], ◌∷◌, ◌++◌, length, get_or, Bool, true, false, ◌&&◌, cond, eqb, refl, sym, ap, subst, ◌∙◌, arith, add-zero, append_assoc, Option, Some, None, inl, inr, sum_by, ne_eqb, eq-eqb}
use Rattle.std.specs.List.{Any, Contains}
use Rattle.std.specs.Option.{ForSome}
use Rattle.std.proofs.lemmas.Bool.{cases_Bool, cases_eq, cases_lt}
use Rattle.std.proofs.lemmas.Bool.Decides.{nat_tests}
use Rattle.std.proofs.lemmas.List.{get_or_default}
use Rattle.std.proofs.lemmas.List.Elements.{All-head, All-tail}
use Rattle.std.proofs.lemmas.List.Sums.{sum_by-cons, sum_by-append}
use Rattle.mem_num.specs.declared.alloc_id.AllocId.{AllocId}
use Rattle.mem_model.specs.declared.charge.Charge.{Charge}
use Rattle.mem_model.specs.declared.tree_node.TreeNode.{TreeNode}
use Rattle.mem_model.specs.Charge.{charged_at}
use Rattle.mem_model.specs.Reservation.{counted_at_parent, beyond_reservation}
use Rattle.mem_model.specs.TreeNode.{is_number, is_open_child, IsAllocatorTree, IsParentOf}
use Rattle.mem_model.specs.Held.{held_of, counted_children}
use Rattle.mem_model.specs.Balance.{Balances, LacksAmount, ExceedsByAmount, amount_for, raised, lowered}
use Rattle.mem_model.proofs.HeldLemmas.{IsOlderTree, older_from_tree, Rises, HasNoChild, no_child_up_to, Agrees, held_of-by}

-- what a node counts for at the allocator n
abbrev pub counted_for : (ℕ → ℕ) → ℕ → TreeNode → ℕ
counted_for held n node = cond (is_open_child n node) (counted_at_parent node.reservation (held node.number.0)) 0

-- nodes without a child of n count for nothing there
pub counted_none : (held : ℕ → ℕ) (nodes : List TreeNode) (n : ℕ) → HasNoChild n nodes → counted_children held nodes n ≡ 0
counted_none held [] n none = refl
counted_none held (node ∷ nodes) n none =
    let fails : is_open_child n node ≡ false = All-head (λ x. is_open_child n x ≡ false) node nodes none in
    let here : counted_for held n node ≡ 0 = rw fails refl in
    omega (arith, here, sum_by-cons (counted_for held n) node nodes, counted_none held nodes n (All-tail (λ x. is_open_child n x ≡ false) node nodes none))

-- numbers that balance over the whole list agree with what the nodes behind each one hold
balanced_agrees : (held : ℕ → ℕ) (charges : List Charge) (before nodes : List TreeNode) → Rises (before ++ nodes) → IsOlderTree (before ++ nodes) → Balances (before ++ nodes) charges held → Agrees held charges nodes
unfolding Agrees
balanced_agrees held charges before [] rises older balance = tt
balanced_agrees held charges before (e ∷ nodes) rises older balance =
    let front = before ++ e ∷ [] in
    let joined : front ++ nodes ≡ before ++ e ∷ nodes = append_assoc before (e ∷ []) nodes in
    let rest : Agrees held charges nodes = balanced_agrees held charges front nodes (subst Rises (sym joined) rises) (subst IsOlderTree (sym joined) older) (subst (λ xs. Balances xs charges held) (sym joined) balance) in
    let m = e.number.0 in
    let whole : held m ≡ charged_at charges m + counted_children held (front ++ nodes) m = balance m ∙ ap (λ xs. charged_at charges m + counted_children held xs m) (sym joined) in
    let parts : counted_children held (front ++ nodes) m ≡ counted_children held front m + counted_children held nodes m = sum_by-append (counted_for held m) front nodes in
    let none : counted_children held front m ≡ 0 = counted_none held front m (no_child_up_to before nodes e rises older) in
    (omega (arith, whole, parts, none, held_of-by held charges nodes m rest), rest)

-- numbers that balance are what is held
pub balanced_is_held : (nodes : List TreeNode) (charges : List Charge) (held : ℕ → ℕ) → IsAllocatorTree nodes → Balances nodes charges held → (n : ℕ) → held n ≡ held_of nodes charges n
balanced_is_held nodes charges held tree balance n =
    balance n ∙ sym (held_of-by held charges nodes n (balanced_agrees held charges [] nodes tree.ordered (older_from_tree nodes tree) balance))

-- sums of terms that are alike
sum_by-same : {X : Type 0} (f g : X → ℕ) (xs : List X) (d : X) → ((i : ℕ) → i < length xs → f (get_or xs i d) ≡ g (get_or xs i d)) → sum_by f xs ≡ sum_by g xs
sum_by-same f g [] d same = refl
sum_by-same f g (x ∷ xs) d same =
    let here : f x ≡ g x = same 0 (omega arith) in
    omega (arith, here, sum_by-cons f x xs, sum_by-cons g x xs, sum_by-same f g xs d (λ i inside. same (suc i) (omega arith)))

-- a sum of terms that differ at one place alone
pub sum_by-but_one : {X : Type 0} (f g : X → ℕ) (xs : List X) (k : ℕ) (d : X) → k < length xs → ((i : ℕ) → i < length xs → i ≢ k → f (get_or xs i d) ≡ g (get_or xs i d))
    → sum_by f xs + g (get_or xs k d) ≡ sum_by g xs + f (get_or xs k d)
sum_by-but_one f g [] k d within same = absurd (omega arith)
sum_by-but_one {X} f g (x ∷ xs) zero d within same =
    let rest : sum_by f xs ≡ sum_by g xs = sum_by-same f g xs d (λ i inside. same (suc i) (omega arith) (λ e. omega arith)) in
    omega (arith, rest, sum_by-cons f x xs, sum_by-cons g x xs)
sum_by-but_one {X} f g (x ∷ xs) (suc k) d within same =
    let here : f x ≡ g x = same 0 (omega arith) (λ e. omega arith) in
    omega (arith, here, sum_by-cons f x xs, sum_by-cons g x xs, sum_by-but_one f g xs k d (omega arith) (λ i inside ne. same (suc i) (omega arith) (λ e. ne (omega arith))))

-- two places of a list whose numbers rise have different numbers
pub apart : (nodes : List TreeNode) (i k : ℕ) (d : TreeNode) → Rises nodes → i < length nodes → k < length nodes → i ≢ k → eqb (get_or nodes i d).number.0 (get_or nodes k d).number.0 ≡ false
apart nodes i k d rises inside within ne = elim (cases_lt i k) [
  | inl lt ↦ (let less : (get_or nodes i d).number.0 < (get_or nodes k d).number.0 = rises i k d lt within in grind (arith, nat_tests))
  | inr ge ↦ (let more : (get_or nodes k d).number.0 < (get_or nodes i d).number.0 = rises k i d (omega arith) inside in grind (arith, nat_tests))
]

-- nodes of one number are one
pub same_node : (nodes : List TreeNode) (x e : TreeNode) → Rises nodes → Contains nodes x → Contains nodes e → x.number.0 ≡ e.number.0 → x ≡ e
same_node nodes x e rises at place same = elim (cases_eq at.0 place.0) [
  | inl one ↦ sym at.2 ∙ ap (λ i. get_or nodes i x) one ∙ get_or_default nodes place.0 x e place.1 ∙ place.2
  | inr two ↦ absurd (
      let x_is : get_or nodes at.0 e ≡ x = get_or_default nodes at.0 e x at.1 ∙ at.2 in
      let off : eqb x.number.0 e.number.0 ≡ false = subst (λ (y : TreeNode). eqb y.number.0 e.number.0 ≡ false) x_is (subst (λ (y : TreeNode). eqb (get_or nodes at.0 e).number.0 y.number.0 ≡ false) place.2 (apart nodes at.0 place.0 e rises at.1 place.1 two)) in
      let on : eqb x.number.0 e.number.0 ≡ true = eq-eqb _ _ same in cc)
]

pub and_true : (b : Bool) → (b && true) ≡ b
and_true true = refl
and_true false = refl

-- the parts of a raised number, at the allocator itself and at another
raised_here : (held : ℕ → ℕ) (c amount : ℕ) → raised held c amount c ≡ held c + amount
raised_here held c amount = rw (eq-eqb c c refl) refl

raised_there : (held : ℕ → ℕ) (c amount n : ℕ) → eqb n c ≡ false → raised held c amount n ≡ held n
raised_there held c amount n other = rw other (add-zero (held n))

lowered_here : (held : ℕ → ℕ) (c amount : ℕ) → lowered held c amount c ≡ held c - amount
lowered_here held c amount = rw (eq-eqb c c refl) refl

lowered_there : (held : ℕ → ℕ) (c amount n : ℕ) → eqb n c ≡ false → lowered held c amount n ≡ held n
lowered_there held c amount n other = rw other (omega arith)

-- what one node counts for, where it holds more
counted_more : (b : Bool) (r low high : ℕ) → low ≤ high → cond b (counted_at_parent r high) 0 ≡ cond b (counted_at_parent r low) 0 + cond b (beyond_reservation r low high) 0
counted_more true r low high le = omega (arith, le)
counted_more false r low high le = refl

pub open_child : (n : ℕ) (node : TreeNode) → node.closed ≡ false → is_open_child n node ≡ is_number n node.parent
open_child n node is_open = rw is_open (and_true (is_number n node.parent))

-- where one node's number changes, its parent counts as much more as the node counts for more
counted_change : (nodes : List TreeNode) (low high : ℕ → ℕ) (n : ℕ) (e : TreeNode) → Rises nodes → Contains nodes e → e.closed ≡ false
    → low e.number.0 ≤ high e.number.0 → ((m : ℕ) → eqb m e.number.0 ≡ false → high m ≡ low m)
    → counted_children high nodes n ≡ counted_children low nodes n + amount_for e.parent (beyond_reservation e.reservation (low e.number.0) (high e.number.0)) n
counted_change nodes low high n e rises place is_open more same =
    let k = place.0 in
    let c = e.number.0 in
    let apart_from : (i : ℕ) → i < length nodes → i ≢ k → eqb (get_or nodes i e).number.0 c ≡ false =
    λ i inside ne. subst (λ (x : TreeNode). eqb (get_or nodes i e).number.0 x.number.0 ≡ false) place.2 (apart nodes i k e rises inside place.1 ne) in
    let others : (i : ℕ) → i < length nodes → i ≢ k → counted_for high n (get_or nodes i e) ≡ counted_for low n (get_or nodes i e) =
    λ i inside ne. ap (λ (h : ℕ). cond (is_open_child n (get_or nodes i e)) (counted_at_parent (get_or nodes i e).reservation h) 0) (same (get_or nodes i e).number.0 (apart_from i inside ne)) in
    let sums : counted_children high nodes n + counted_for low n e ≡ counted_children low nodes n + counted_for high n e =
    subst (λ (x : TreeNode). counted_children high nodes n + counted_for low n x ≡ counted_children low nodes n + counted_for high n x) place.2
    (sum_by-but_one (counted_for high n) (counted_for low n) nodes k e place.1 others) in
    let one : counted_for high n e ≡ counted_for low n e + cond (is_open_child n e) (beyond_reservation e.reservation (low c) (high c)) 0 = counted_more (is_open_child n e) e.reservation (low c) (high c) more in
    let passed : cond (is_open_child n e) (beyond_reservation e.reservation (low c) (high c)) 0 ≡ amount_for e.parent (beyond_reservation e.reservation (low c) (high c)) n =
    ap (λ b. cond b (beyond_reservation e.reservation (low c) (high c)) 0) (open_child n e is_open) in
    omega (arith, sums, one, passed)

-- an amount that is added at a level is next at its parent, as far as it is beyond the reservation
pub raise_passes_on : (nodes : List TreeNode) (charges : List Charge) (held : ℕ → ℕ) (amount : ℕ) (e : TreeNode) → Rises nodes → Contains nodes e → e.closed ≡ false
    → LacksAmount nodes charges held (Some e.number) amount
    → LacksAmount nodes charges (raised held e.number.0 amount) e.parent (beyond_reservation e.reservation (held e.number.0) (held e.number.0 + amount))
raise_passes_on nodes charges held amount e rises place is_open lacks n =
    let c = e.number.0 in
    let new = raised held c amount in
    let here : new c ≡ held c + amount = raised_here held c amount in
    let changed = counted_change nodes held new n e rises place is_open (omega (arith, here)) (λ m other. raised_there held c amount m other) in
    let passed : amount_for e.parent (beyond_reservation e.reservation (held c) (new c)) n ≡ amount_for e.parent (beyond_reservation e.reservation (held c) (held c + amount)) n =
    ap (λ (h : ℕ). amount_for e.parent (beyond_reservation e.reservation (held c) h) n) here in
    elim (cases_eq n c) [
      | inl same ↦ (let at : amount_for (Some e.number) amount n ≡ amount = rw (eq-eqb c n (sym same)) refl in
          let num : new n ≡ held n + amount = rw same here in
          omega (arith, lacks n, at, num, changed, passed))
      | inr other ↦ (let off : eqb n c ≡ false = ne_eqb n c other in
          let off' : eqb c n ≡ false = ne_eqb c n (λ e. other (sym e)) in
          let at : amount_for (Some e.number) amount n ≡ 0 = rw off' refl in
          omega (arith, lacks n, at, raised_there held c amount n off, changed, passed))
    ]

-- an amount that is subtracted at a level is next at its parent, as far as it was beyond the reservation
pub lower_passes_on : (nodes : List TreeNode) (charges : List Charge) (held : ℕ → ℕ) (amount : ℕ) (e : TreeNode) → Rises nodes → Contains nodes e → e.closed ≡ false
    → ExceedsByAmount nodes charges held (Some e.number) amount
    → ExceedsByAmount nodes charges (lowered held e.number.0 amount) e.parent (beyond_reservation e.reservation (held e.number.0 - amount) (held e.number.0))
lower_passes_on nodes charges held amount e rises place is_open exceeds n =
    let c = e.number.0 in
    let new = lowered held c amount in
    let here : new c ≡ held c - amount = lowered_here held c amount in
    let changed = counted_change nodes new held n e rises place is_open (omega (arith, here)) (λ m other. sym (lowered_there held c amount m other)) in
    let passed : amount_for e.parent (beyond_reservation e.reservation (new c) (held c)) n ≡ amount_for e.parent (beyond_reservation e.reservation (held c - amount) (held c)) n =
    ap (λ (h : ℕ). amount_for e.parent (beyond_reservation e.reservation h (held c)) n) here in
    elim (cases_eq n c) [
      | inl same ↦ (let at : amount_for (Some e.number) amount n ≡ amount = rw (eq-eqb c n (sym same)) refl in
          let num : new n ≡ held n - amount = rw same here in
          omega (arith, exceeds n, at, num, changed, passed))
      | inr other ↦ (let off : eqb n c ≡ false = ne_eqb n c other in
          let off' : eqb c n ≡ false = ne_eqb c n (λ e. other (sym e)) in
          let at : amount_for (Some e.number) amount n ≡ 0 = rw off' refl in
          omega (arith, exceeds n, at, lowered_there held c amount n off, changed, passed))
    ]

-- where nothing is next, the numbers balance
pub lacks_none : (nodes : List TreeNode) (charges : List Charge) (held : ℕ → ℕ) (amount : ℕ) → LacksAmount nodes charges held None amount → Balances nodes charges held
lacks_none nodes charges held amount lacks n = omega (arith, lacks n)

pub exceeds_none : (nodes : List TreeNode) (charges : List Charge) (held : ℕ → ℕ) (amount : ℕ) → ExceedsByAmount nodes charges held None amount → Balances nodes charges held
exceeds_none nodes charges held amount exceeds n = omega (arith, exceeds n)

amount_for-zero : (next : Option AllocId) (amount n : ℕ) → amount ≡ 0 → amount_for next amount n ≡ 0
amount_for-zero next amount n none = elim (cases_Bool (is_number n next)) [ inl here ↦ rw here none | inr there ↦ rw there refl ]

-- where no amount is left, the numbers balance
pub lacks_nothing : (nodes : List TreeNode) (charges : List Charge) (held : ℕ → ℕ) (next : Option AllocId) (amount : ℕ) → amount ≡ 0 → LacksAmount nodes charges held next amount → Balances nodes charges held
lacks_nothing nodes charges held next amount none lacks n = omega (arith, lacks n, amount_for-zero next amount n none)

pub exceeds_nothing : (nodes : List TreeNode) (charges : List Charge) (held : ℕ → ℕ) (next : Option AllocId) (amount : ℕ) → amount ≡ 0 → ExceedsByAmount nodes charges held next amount → Balances nodes charges held
exceeds_nothing nodes charges held next amount none exceeds n = omega (arith, exceeds n, amount_for-zero next amount n none)

-- the parent of an open node stands in the list, is older, and is open
pub record HasParent (nodes : List TreeNode) (e parent : TreeNode) : Type 0 where
  pub among : Contains nodes parent
  pub number : e.parent ≡ Some parent.number
  pub older : parent.number.0 < e.number.0
  pub is_open : parent.closed ≡ false

pub parent_of : (nodes : List TreeNode) (e : TreeNode) (p : AllocId) → IsAllocatorTree nodes → Contains nodes e → e.closed ≡ false → e.parent ≡ Some p → (parent : TreeNode) × HasParent nodes e parent
parent_of nodes e p tree place is_open is =
    let parents : ForSome e.parent (λ _. Any (IsParentOf e) nodes) = subst (λ (x : TreeNode). ForSome x.parent (λ _. Any (IsParentOf x) nodes)) place.2 (tree.parents place.0 e place.1) in
    let found : Any (IsParentOf e) nodes = parents p is in
    let of : IsParentOf e found.1 = found.4 in
    (found.1, record { among = (found.0, found.2, found.3); number = of.number; older = of.older; is_open = of.open_ is_open })

-- where an amount is still to be added at an open node, that node and the younger ones hold what their numbers come to with it
holds_with : (fuel : ℕ) (nodes : List TreeNode) (charges : List Charge) (held : ℕ → ℕ) (amount : ℕ) (e : TreeNode) → IsAllocatorTree nodes → Contains nodes e → e.closed ≡ false
    → e.number.0 < fuel → LacksAmount nodes charges held (Some e.number) amount → (m : ℕ) → e.number.0 ≤ m → held_of nodes charges m ≡ raised held e.number.0 amount m
holds_with zero nodes charges held amount e tree place is_open less lacks m above = absurd (omega (arith, less))
holds_with (suc fuel) nodes charges held amount e tree place is_open less lacks m above =
    let c = e.number.0 in
    let new = raised held c amount in
    let share = beyond_reservation e.reservation (held c) (held c + amount) in
    let passed : LacksAmount nodes charges new e.parent share = raise_passes_on nodes charges held amount e tree.ordered place is_open lacks in
    let by_parent : (parent : Option AllocId) → e.parent ≡ parent → held_of nodes charges m ≡ new m = λ parent. elim parent as (λ parent. e.parent ≡ parent → held_of nodes charges m ≡ new m) [
      | None ↦ λ is. sym (balanced_is_held nodes charges new tree (lacks_none nodes charges new share (subst (λ p. LacksAmount nodes charges new p share) is passed)) m)
      | Some p ↦ λ is. (
          let found = parent_of nodes e p tree place is_open is in
          let parent = found.0 in
          let at : HasParent nodes e parent = found.1 in
          let older : parent.number.0 < c = at.older in
          let rest : held_of nodes charges m ≡ raised new parent.number.0 share m =
          holds_with fuel nodes charges new share parent tree at.among at.is_open (omega (arith, older, less)) (subst (λ q. LacksAmount nodes charges new q share) at.number passed) m (omega (arith, older, above)) in
          let off : eqb m parent.number.0 ≡ false = ne_eqb m parent.number.0 (λ same. omega (arith, same, older, above)) in
          rest ∙ raised_there new parent.number.0 share m off)
    ] in
    by_parent e.parent refl

pub lacking_is_held : (nodes : List TreeNode) (charges : List Charge) (held : ℕ → ℕ) (amount : ℕ) (e : TreeNode) → IsAllocatorTree nodes → Contains nodes e → e.closed ≡ false
    → LacksAmount nodes charges held (Some e.number) amount → (m : ℕ) → e.number.0 ≤ m → held_of nodes charges m ≡ raised held e.number.0 amount m
lacking_is_held nodes charges held amount e tree place is_open lacks m above = holds_with (suc e.number.0) nodes charges held amount e tree place is_open (omega arith) lacks m above
