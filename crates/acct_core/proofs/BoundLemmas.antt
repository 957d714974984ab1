-- No level holds more than all sizes and all reservations together, and a reservation that a claim pays for counts once.
use Rattle.std.proofs.Common.{zero, suc, ◌≡◌, ℕ, ◌+◌, ◌<◌, ◌≤◌, ◌≢◌, max, Bool, true, false, cond, ◌&&◌, is_none, List, ◌++◌, map, get_or, length, ◌==◌, eq-eqb, ne_eqb, eqb-true, Option, Some, None, sum_by, arith, refl, sym, ap, ◌∙◌, subst, ⊎_elim}
use Rattle.std.proofs.lemmas.Option.{same_Some}
use Rattle.std.proofs.lemmas.Bool.{true≢false, cases_eq, cases_Bool, and_parts}
use Rattle.std.proofs.lemmas.List.Elements.{All-from_get_or, All-weaker}
use Rattle.std.proofs.lemmas.List.Sums.{sum-map, sum_by-append, sum_by-le-sum_by}
use Rattle.acct_core.specs.declared.shape.Shape.{Shape}
use Rattle.acct_core.specs.declared.row.Row.{Row}
use Rattle.acct_core.specs.Phases.{Phase, pending_subtraction, size_of}
use Rattle.acct_core.specs.Phases.Phase.{Free, In, Up, Held, Failed, Down, Bounced}
use Rattle.acct_core.specs.Claims.{Claim, Account, own_charge, no_claim}
use Rattle.acct_core.specs.Rows.{blank, row, shapes, is_at}
use Rattle.mem_model.specs.WorstCase.{worst_case}
use Rattle.acct_core.specs.Bounds.{sizes_of, own_size, own_sizes_of, open_reservation, reservations_of}
use Rattle.acct_core.specs.Balance.{child_count}
use Rattle.acct_core.specs.NodeTree.{IsNodeTree, IsOpen}
use Rattle.acct_core.proofs.FitsLemmas.{ClaimFits, HeldLaw}
use Rattle.acct_core.proofs.SumLemmas.{sum_to, sum_to-le, sum_to-none, sum_to-add, sum_to-same, sum_to-one, sum_by-map, sum_by-sum_to, sum_by-add, exchange, sum_by-le_each, sum_by-zeros, zero_cond}
use Rattle.acct_core.proofs.LineLemmas.{on_line, on_self, line_step, on_above, by_child, at_some, made_in}
use Rattle.acct_core.proofs.CoverLemmas.{of_child}

module _ (shape : ℕ → Shape) (t : IsNodeTree shape) where
  -- numbers on the way to the root are at most the first
  on_le : (f k n : ℕ) → on_line shape f k n ≡ true → n ≤ k
  on_le zero k n h = let e = eqb-true k n h in omega arith
  on_le (suc f) k n h = ⊎_elim
      (λ e. omega arith)
      (λ ne. let s = line_step shape t f k n ne h in let a = on_le f s.0 n s.2 in let b = t.smaller k s.0 s.1 in omega arith)
      (cases_eq k n)

  -- of the children of a node one at most is on the way
  one_child : (f k a b n : ℕ) → on_line shape f k a ≡ true → on_line shape f k b ≡ true → (shape a).parent ≡ Some n →
      (shape b).parent ≡ Some n → a ≡ b
  one_child zero k a b n h g p q = sym (eqb-true k a h) ∙ eqb-true k b g
  one_child (suc f) k a b n h g p q = ⊎_elim
      (λ e. ⊎_elim (λ e'. sym e ∙ e') (λ ne. absurd (crossed f k a b n e ne g p q)) (cases_eq k b))
      (λ ne. ⊎_elim
      (λ e'. absurd (crossed f k b a n e' ne h q p))
      (λ ne'. let s = line_step shape t f k a ne h in let u = line_step shape t f k b ne' g in
      one_child f s.0 a b n s.2 (subst (λ (x : ℕ). on_line shape f x b ≡ true) (same_Some u.0 s.0 (sym u.1 ∙ s.1)) u.2) p q)
      (cases_eq k b))
      (cases_eq k a)
    where
      crossed : (f k a b n : ℕ) → k ≡ a → k ≢ b → on_line shape (suc f) k b ≡ true → (shape a).parent ≡ Some n →
          (shape b).parent ≡ Some n → ⊥
      crossed f k a b n e ne g p q =
          let s = line_step shape t f k b ne g in
          let w : s.0 ≡ n = same_Some s.0 n (sym s.1 ∙ (ap (λ (x : ℕ). (shape x).parent) e ∙ p)) in
          let le = on_le f s.0 b s.2 in let less = t.smaller b n q in
          omega arith

  -- an amount at a level counts at n or at one child of n
  spreads : (len n k x : ℕ) → cond (k == n) x 0 + sum_to len (λ j. of_child (shape j) n (cond (on_line shape k k j) x 0))
      ≤ cond (on_line shape k k n) x 0
  spreads len n k x = ⊎_elim
      (λ e. rw (eq-eqb k n e) (let on = subst (λ (y : ℕ). on_line shape k k y ≡ true) e (on_self shape t k k) in rw on
      (let z = sum_to-none len (λ j. of_child (shape j) n (cond (on_line shape k k j) x 0))
      (λ j. no_term j (λ p h. (let le = on_le k k j h in let less = t.smaller j n p in omega arith))) in omega arith)))
      (λ ne. rw (ne_eqb k n ne) (⊎_elim
      (λ (on : on_line shape k k n ≡ true).
      let c = by_child shape t k k n ne on in
      rw on (let z = sum_to-one len c.0 x (λ j. of_child (shape j) n (cond (on_line shape k k j) x 0))
      (at_most (shape c.0) (on_line shape k k c.0))
      (λ j other. no_term j (λ p h. other (one_child k k j c.0 n h c.2 p c.1))) in omega arith))
      (λ (not_on : on_line shape k k n ≡ false).
      rw not_on (let z = sum_to-none len (λ j. of_child (shape j) n (cond (on_line shape k k j) x 0))
      (λ j. no_term j (λ p h. true≢false (sym (on_above shape t k k j n (omega arith) h p) ∙ not_on))) in omega arith))
      (cases_Bool (on_line shape k k n))))
      (cases_eq k n)
    where
      at_most : (s : Shape) (b : Bool) → of_child s n (cond b x 0) ≤ x
      at_most s b = most (s.is_open && is_at s.parent n) b
        where
          most : (a b : Bool) → cond a (cond b x 0) 0 ≤ x
          most true true = omega arith
          most true false = omega arith
          most false b = omega arith

      no_term : (j : ℕ) → ((shape j).parent ≡ Some n → on_line shape k k j ≡ true → ⊥) →
          of_child (shape j) n (cond (on_line shape k k j) x 0) ≡ 0
      no_term j h = ⊎_elim
          (λ (on : on_line shape k k j ≡ true). ⊎_elim
          (λ (y : (shape j).is_open && is_at (shape j).parent n ≡ true). absurd
          (h (at_some (shape j).parent n (and_parts (shape j).is_open (is_at (shape j).parent n) y).1) on))
          (λ (no : (shape j).is_open && is_at (shape j).parent n ≡ false). rw no refl)
          (cases_Bool ((shape j).is_open && is_at (shape j).parent n)))
          (λ (off : on_line shape k k j ≡ false). rw off (zero_cond ((shape j).is_open && is_at (shape j).parent n)))
          (cases_Bool (on_line shape k k j))

-- what a claim has in held numbers at its level
abbrev pub has : Phase → ℕ
has Free = 0
has In = 0
has (Up size next pending forced steps) = size
has (Held size forced steps) = size
has (Failed size forced steps) = size
has (Down size next pending) = pending
has Bounced = 0

-- the level at which a claim has an amount in held numbers
abbrev pub level : ℕ → Phase → ℕ
level node Free = node
level node In = node
level node (Up size next pending forced steps) = node
level node (Held size forced steps) = node
level node (Failed size forced steps) = node
level node (Down size next pending) = next
level node Bounced = node

-- an amount at a level
abbrev pub Item : Type 0
Item = ℕ × ℕ

-- what a claim has in held numbers by itself; where a child stands on it, the child's reservation counts in its place
abbrev pub has_own : Option ℕ → Phase → ℕ
has_own under (Down size next pending) = pending
has_own under phase = cond (is_none under) (has phase) 0

-- a claim as an amount at a level
abbrev pub claim_item : Claim → Item
claim_item c = (level c.node c.phase, has_own c.under c.phase)

-- an open reservation as an amount at the parent
abbrev pub row_rest : Row → Option ℕ → Item
row_rest r None = (0, 0)
row_rest r (Some p) = (p, open_reservation r)

-- a row as an amount at its parent
abbrev pub row_item : Row → Item
row_item r = row_rest r r.shape.parent

-- all amounts of an account
abbrev pub items : Account → List Item
items a = map claim_item a.claims ++ map row_item a.rows

-- an amount, where it is at n
abbrev pub item_at : ℕ → Item → ℕ
item_at n x = cond (x.0 == n) x.1 0

-- an amount, where it is at n or below it
abbrev pub below : (ℕ → Shape) → ℕ → Item → ℕ
below shape n x = cond (on_line shape x.0 x.0 n) x.1 0

-- a sum over the items is one over the claims and one over the rows
split : (f : Item → ℕ) (a : Account) → sum_by f (items a) ≡ sum_by (λ c. f (claim_item c)) a.claims + sum_by (λ r. f (row_item r)) a.rows
split f a = let p = sum_by-append f (map claim_item a.claims) (map row_item a.rows) in let q = sum_by-map f claim_item a.claims in
    let r = sum_by-map f row_item a.rows in omega arith

-- the sum of what a child passes on is what it passes on of the sum
child_sum : {X : Type 0} (s : Shape) (n : ℕ) (h : X → ℕ) (xs : List X) → sum_by (λ x. of_child s n (h x)) xs ≡ of_child s n (sum_by h xs)
child_sum {X} s n h xs = go (s.is_open && is_at s.parent n)
  where
    go : (b : Bool) → sum_by (λ (x : X). cond b (h x) 0) xs ≡ cond b (sum_by h xs) 0
    go true = refl
    go false = sum_by-zeros xs

-- two parts of an amount, each where it counts, are within it
part : (a b : Bool) (x y z : ℕ) → x + y ≤ z → cond (a && b) x 0 + cond a y 0 ≤ cond a z 0
part true true x y z h = omega arith
part true false x y z h = omega arith
part false b x y z h = omega arith

-- an amount of a claim on which no child stands, where it counts, is within it
part_bare : (a b : Bool) (x : ℕ) → cond (a && b) x 0 + 0 ≤ cond a (cond b x 0) 0
part_bare true true x = omega arith
part_bare true false x = omega arith
part_bare false b x = omega arith

-- what a claim is charged at n, with what it has to subtract there, is within its amount at n
claim_here : (n node : ℕ) (under : Option ℕ) (phase : Phase) →
    own_charge n (record { node = node; under = under; phase = phase }) + pending_subtraction n phase
    ≤ item_at n (claim_item (record { node = node; under = under; phase = phase }))
claim_here n node under (Down size next pending) = let a = part (node == n) (is_none under) 0 0 0 (omega arith) in
    let b = zero_cond (node == n) in omega arith
claim_here n node under Free = part_bare (node == n) (is_none under) 0
claim_here n node under In = part_bare (node == n) (is_none under) 0
claim_here n node under (Up size next pending forced steps) = part_bare (node == n) (is_none under) size
claim_here n node under (Held size forced steps) = part_bare (node == n) (is_none under) size
claim_here n node under (Failed size forced steps) = part_bare (node == n) (is_none under) size
claim_here n node under Bounced = part_bare (node == n) (is_none under) 0

-- what a row counts for at n is within its held number and its reservation
row_here : (n h : ℕ) (r : Row) → r.held ≤ h → child_count n r ≤ of_child r.shape n h + item_at n (row_item r)
row_here n h r le = go r.shape.is_open r.shape.parent
  where
    go : (o : Bool) (p : Option ℕ) → cond (o && is_at p n) (max r.held r.shape.reservation) 0
        ≤ cond (o && is_at p n) h 0 + item_at n
        (row_item (record {
          shape = record { made = r.shape.made; is_open = o; parent = p; reservation = r.shape.reservation };
          limit = r.limit;
          held = r.held;
          uses = r.uses;
        }))
    go true (Some m) = both (m == n)
      where
        both : (b : Bool) → cond b (max r.held r.shape.reservation) 0 ≤ cond b h 0 + cond b r.shape.reservation 0
        both true = omega arith
        both false = omega arith
    go true None = omega arith
    go false p = omega arith

module _ (a : Account) (s : HeldLaw a) where
  -- what each number is
  abbrev sh : ℕ → Shape
  sh = shapes a.rows

  -- an open number has a row
  open_in : (n : ℕ) → IsOpen sh n → n < length a.rows
  open_in n o = made_in a.rows n (s.tree.made n o)

  -- an open node holds at most the amounts at it or below it
  within_below : (f n : ℕ) → length a.rows ≤ n + f → IsOpen sh n → (row a.rows n).held ≤ sum_by (below sh n) (items a)
  within_below zero n h o = let i = open_in n o in absurd (omega arith)
  within_below (suc f) n h o =
      let len = length a.rows in
      let b = s.balance n o in
      let c₁ = sum_by-add (own_charge n) (λ (c : Claim). pending_subtraction n c.phase) a.claims in
      let c₂ = sum_by-le_each (λ (c : Claim). own_charge n c + pending_subtraction n c.phase) (λ (c : Claim). item_at n (claim_item c))
      a.claims
      (All-from_get_or (λ (c : Claim). own_charge n c + pending_subtraction n c.phase ≤ item_at n (claim_item c)) a.claims no_claim
      (λ i h. claim_here n (get_or a.claims i no_claim).node (get_or a.claims i no_claim).under (get_or a.claims i no_claim).phase)) in
      let r₁ = sum_by-sum_to (child_count n) a.rows blank in
      let r₂ = sum_to-le len (λ j. child_count n (row a.rows j))
      (λ j. of_child (sh j) n (sum_by (below sh j) (items a)) + item_at n (row_item (row a.rows j)))
      (λ j. row_below n j (λ opened above. (within_below f j (omega arith) opened))) in
      let r₃ = sum_to-add len (λ j. of_child (sh j) n (sum_by (below sh j) (items a))) (λ j. item_at n (row_item (row a.rows j))) in
      let r₄ = sum_by-sum_to (λ (r : Row). item_at n (row_item r)) a.rows blank in
      let e₁ = exchange (λ j (x : Item). of_child (sh j) n (below sh j x)) len (items a) in
      let e₂ = sum_to-same len (λ j. sum_by (λ (x : Item). of_child (sh j) n (below sh j x)) (items a))
      (λ j. of_child (sh j) n (sum_by (below sh j) (items a))) (λ j. child_sum (sh j) n (below sh j) (items a)) in
      let i₁ = split (item_at n) a in
      let i₂ = sum_by-add (item_at n) (λ (x : Item). sum_to len (λ j. of_child (sh j) n (below sh j x))) (items a) in
      let i₃ = sum_by-le-sum_by (λ (x : Item). item_at n x + sum_to len (λ j. of_child (sh j) n (below sh j x))) (below sh n) (items a)
      (λ (x : Item). spreads sh s.tree len n x.0 x.1) in
      omega arith
    where
      row_below : (n j : ℕ) → (IsOpen sh j → n < j → (row a.rows j).held ≤ sum_by (below sh j) (items a)) →
          child_count n (row a.rows j) ≤ of_child (sh j) n (sum_by (below sh j) (items a)) + item_at n (row_item (row a.rows j))
      row_below n j ih = ⊎_elim
          (λ (y : (sh j).is_open && is_at (sh j).parent n ≡ true).
          let p = and_parts (sh j).is_open (is_at (sh j).parent n) y in
          row_here n (sum_by (below sh j) (items a)) (row a.rows j) (ih p.0 (s.tree.smaller j n (at_some (sh j).parent n p.1))))
          (λ (no : (sh j).is_open && is_at (sh j).parent n ≡ false). rw no (omega arith))
          (cases_Bool ((sh j).is_open && is_at (sh j).parent n))

  -- a node holds at most the sizes of the claims on which no child stands, and all open reservations
  pub bounded_once : (n : ℕ) → (row a.rows n).held ≤ sum_by own_size a.claims + sum_by open_reservation a.rows
  bounded_once n = ⊎_elim
      (λ (o : IsOpen sh n).
      let w = within_below (length a.rows) n (omega arith) o in
      let u = sum_by-le-sum_by (below sh n) (λ (x : Item). x.1) (items a) (λ (x : Item). cut (on_line sh x.0 x.0 n) x.1) in
      let i = split (λ (x : Item). x.1) a in
      let c = sum_by-le_each (λ (c : Claim). has_own c.under c.phase) own_size a.claims
      (All-weaker (λ (c : Claim). ClaimFits sh c.node c.under c.phase) (λ (c : Claim). has_own c.under c.phase ≤ own_size c)
      (λ (c : Claim). has_less c.node c.under c.phase) a.claims s.claims) in
      let r = sum_by-le-sum_by (λ (r : Row). (row_item r).1) open_reservation a.rows (λ (r : Row). row_less r r.shape.parent) in
      omega arith)
      (λ (c : (sh n).is_open ≡ false). let e = s.empty n c in omega arith)
      (cases_Bool (sh n).is_open)
    where
      cut : (b : Bool) (x : ℕ) → cond b x 0 ≤ x
      cut true x = omega arith
      cut false x = omega arith

      same : (b : Bool) (x : ℕ) → cond b x 0 ≤ cond b x 0
      same b x = omega arith

      has_less : (node : ℕ) (under : Option ℕ) (phase : Phase) → ClaimFits sh node under phase →
          has_own under phase ≤ cond (is_none under) (size_of phase) 0
      has_less node under Free f = same (is_none under) 0
      has_less node under In f = same (is_none under) 0
      has_less node under (Up size next pending forced steps) f = same (is_none under) size
      has_less node under (Held size forced steps) f = same (is_none under) size
      has_less node under (Failed size forced steps) f = same (is_none under) size
      has_less node under (Down size next pending) f = rw f.1 f.4
      has_less node under Bounced f = same (is_none under) 0

      row_less : (r : Row) (p : Option ℕ) → (row_rest r p).1 ≤ open_reservation r
      row_less r None = omega arith
      row_less r (Some p) = omega arith

  -- so at most all sizes and all open reservations
  pub bounded : (n : ℕ) → (row a.rows n).held ≤ sum_by (λ c. size_of c.phase) a.claims + sum_by open_reservation a.rows
  bounded n = let b = bounded_once n in
      let l = sum_by-le-sum_by own_size (λ (c : Claim). size_of c.phase) a.claims
      (λ (c : Claim). less (is_none c.under) (size_of c.phase)) in
      omega arith
    where
      less : (b : Bool) (x : ℕ) → cond b x 0 ≤ x
      less true x = omega arith
      less false x = omega arith

-- and so at most the worst case of them
pub held-le-worst_case : (a : Account) → HeldLaw a → (n : ℕ) → (row a.rows n).held ≤ worst_case (sizes_of a.claims) (reservations_of a.rows)
held-le-worst_case a s n =
    let b = bounded a s n in
    let e = sum-map (λ (c : Claim). size_of c.phase) a.claims in
    let f = sum-map open_reservation a.rows in
    omega arith

-- and the worst case in which a claim on which a child stands counts for nothing, since the child's reservation counts
pub held-le-worst_case_once : (a : Account) → HeldLaw a → (n : ℕ) →
    (row a.rows n).held ≤ worst_case (own_sizes_of a.claims) (reservations_of a.rows)
held-le-worst_case_once a s n =
    let b = bounded_once a s n in
    let e = sum-map own_size a.claims in
    let f = sum-map open_reservation a.rows in
    omega arith
