-- A walk that adds an amount: what holds on the way, and at a level.
use Rattle.std.proofs.Common.{◌≡◌, ℕ, ◌+◌, ◌-◌, ◌<◌, ◌≤◌, max, List, ◌∷◌, Bool, true, false, ◌&&◌, cond}
use Rattle.std.proofs.Common.{eqb, ltb, Option, Some, None, refl, sym, ap, subst, ◌∙◌, arith, add-zero, inl, inr, ◌⊎◌, ne_eqb}
use Rattle.std.proofs.Common.{eq-eqb}
use Rattle.std.specs.List.{Contains}
use Rattle.std.proofs.lemmas.Bool.{cases_Bool, cases_order, cond_both, lt-ltb, le-ltb}
use Rattle.mem_num.specs.declared.alloc_id.AllocId.{AllocId}
use Rattle.mem_num.specs.declared.full.Full.{Full}
use Rattle.mem_model.specs.declared.charge.Charge.{Charge}
use Rattle.mem_model.specs.declared.tree_node.TreeNode.{TreeNode}
use Rattle.mem_model.specs.Balance.{LacksAmount}
use Rattle.mem_model.specs.Held.{held_of}
use Rattle.mem_model.specs.PeakSample.{is_counted, held_in}
use Rattle.mem_model.specs.Request.{is_level, levels_of, refusing_level, refusal_of}
use Rattle.mem_model.specs.TreeNode.{IsAllocatorTree}
use Rattle.mem_model.proofs.BalanceLemmas.{balanced_is_held, lacks_none, lacking_is_held, parent_of, HasParent, same_node}
use Rattle.mem_model.proofs.RequestLemmas.{and_no, refuses, refusing_level-is, refusing_level-none, is_listed, is_counted-request}
use Rattle.mem_model.proofs.RequestLemmas.{listed_all, unlisted, listed}
use Rattle.alloc_tree.specs.Walk.{IsRefusal, charge_sample, peak_refusal}

-- the walk hasn't come to the allocator n yet
abbrev pub IsAhead : Option AllocId → ℕ → Type 0
IsAhead None n = ⊥
IsAhead (Some next) n = n ≤ next.0

-- the walk has passed the allocator n
abbrev pub IsPassed : Option AllocId → ℕ → Type 0
IsPassed None n = Unit {0}
IsPassed (Some next) n = next.0 < n

-- the next level, if there is one, is an open node
abbrev pub IsOpenNext : List TreeNode → Option AllocId → Type 0
IsOpenNext nodes None = Unit {0}
IsOpenNext nodes (Some next) = (e : TreeNode) × Contains nodes e × (e.closed ≡ false) × (e.number ≡ next)

-- what was refused up to now
abbrev pub IsRefusalSoFar : List TreeNode → List Charge → Charge → Option AllocId → Option Full → Type 0
IsRefusalSoFar nodes charges request next None = (x : TreeNode) → Contains nodes x → IsPassed next x.number.0
    → refuses nodes charges request x ≡ false
IsRefusalSoFar nodes charges request next (Some full) =
    (level : TreeNode) × (refusing_level nodes charges request ≡ Some level) × (full ≡ refusal_of nodes charges request level)
    × IsPassed next level.number.0

-- whether the allocator n is below the level that was refused, if one was
abbrev pub is_below : Option Full → ℕ → Bool
is_below None n = true
is_below (Some full) n = ltb full.node.0 n

-- the peak of the allocator n, which sees what it holds with the request where it is a level below the one that was refused
abbrev pub peak_with : List TreeNode → List Charge → Charge → Option Full → (ℕ → ℕ) → ℕ → ℕ
peak_with nodes charges request refusal peaks n =
    cond (is_listed nodes charges request n && is_below refusal n) (max (peaks n) (held_of nodes (request ∷ charges) n)) (peaks n)

-- the numbers on the way: `held` and `peaks` are those before the walk
pub record IsRaising (is_forced : Bool) (nodes : List TreeNode) (charges : List Charge) (request : Charge)
    (held peaks new_held new_peaks : ℕ → ℕ) (next : Option AllocId) (amount : ℕ) (refusal : Option Full) : Type 0 where
  pub lacks : LacksAmount nodes (request ∷ charges) new_held next amount
  pub next_open : IsOpenNext nodes next
  pub held_ahead : (m : ℕ) → IsAhead next m → new_held m ≡ held m
  pub peaks_ahead : (m : ℕ) → IsAhead next m → new_peaks m ≡ peaks m
  pub refused : IsRefusalSoFar nodes charges request next refusal
  pub peaks_passed : (m : ℕ) → IsPassed next m
      → new_peaks m ≡ peak_with nodes charges request (peak_refusal is_forced refusal) peaks m

-- an open node of a tree
pub record IsOpenNode (nodes : List TreeNode) (e : TreeNode) : Type 0 where
  pub tree : IsAllocatorTree nodes
  pub place : Contains nodes e
  pub is_open : e.closed ≡ false

module _ {nodes : List TreeNode} {e : TreeNode} (node : IsOpenNode nodes e) where
  -- its parent is an older open node
  parent_is : (p : AllocId) → e.parent ≡ Some p → (parent : TreeNode) × Contains nodes parent × (parent.closed ≡ false)
      × (parent.number ≡ p) × (p.0 < e.number.0)
  parent_is p is =
      let found = parent_of nodes e p node.tree node.place node.is_open is in
      let at : HasParent nodes e found.0 = found.1 in
      let same : Some p ≡ Some found.0.number = sym is ∙ at.number in
      let number : found.0.number ≡ p = cc in
      (found.0, at.among, at.is_open, number, subst (λ (q : AllocId). q.0 < e.number.0) number at.older)

  pub next_open_of : (next : Option AllocId) → e.parent ≡ next → IsOpenNext nodes next
  next_open_of None is = tt
  next_open_of (Some p) is = let found = parent_is p is in (found.0, found.1, found.2, found.3)

  -- what its parent has before it is before the node
  pub ahead_of : (next : Option AllocId) → e.parent ≡ next → (m : ℕ) → IsAhead next m → m < e.number.0
  ahead_of None is m ahead = absurd ahead
  ahead_of (Some p) is m ahead = omega (arith, (parent_is p is).4, ahead)

  -- what is behind the node is behind its parent
  behind_parent : (next : Option AllocId) → e.parent ≡ next → (m : ℕ) → e.number.0 ≤ m → IsPassed next m
  behind_parent None is m behind = tt
  behind_parent (Some p) is m behind = omega (arith, (parent_is p is).4, behind)

module _ (nodes : List TreeNode) (charges : List Charge) (held : ℕ → ℕ) (tree : IsAllocatorTree nodes) where
  -- what was passed holds what its number says
  pub passed_is_held : (next : Option AllocId) (amount : ℕ) → IsOpenNext nodes next → LacksAmount nodes charges held next amount
      → (m : ℕ) → IsPassed next m → held_of nodes charges m ≡ held m
  passed_is_held None amount is_open lacks m passed =
      sym (balanced_is_held nodes charges held tree (lacks_none nodes charges held amount lacks) m)
  passed_is_held (Some next) amount is_open lacks m passed =
      let e = is_open.0 in
      let lacks' : LacksAmount nodes charges held (Some e.number) amount =
      subst (λ (q : AllocId). LacksAmount nodes charges held (Some q) amount) (sym is_open.3) lacks in
      let number : e.number.0 ≡ next.0 = ap (λ (q : AllocId). q.0) is_open.3 in
      let off : eqb m e.number.0 ≡ false = ne_eqb m e.number.0 (λ same. omega (arith, same, number, passed)) in
      lacking_is_held nodes charges held amount e tree is_open.1 is_open.2 lacks' m (omega (arith, number, passed))
      ∙ rw off (add-zero (held m))

  -- the next level holds its number and the amount
  pub next_is_held : (e : TreeNode) (amount : ℕ) → Contains nodes e → e.closed ≡ false
      → LacksAmount nodes charges held (Some e.number) amount
      → held_of nodes charges e.number.0 ≡ held e.number.0 + amount
  next_is_held e amount place is_open lacks =
      let c = e.number.0 in
      let here : eqb c c ≡ true = eq-eqb c c refl in
      lacking_is_held nodes charges held amount e tree place is_open lacks c (omega arith) ∙ rw here refl

-- the refusal after a level, by its node and what it held
abbrev pub refusal_at : AllocId → TreeNode → ℕ → ℕ → Option Full → Option Full
refusal_at at e held amount (Some full) = Some full
refusal_at at e held amount None =
    cond (ltb e.limit (held + amount))
    (Some (record { node = e.number; held = held; amount = amount; limit = e.limit; local = eqb e.number.0 at.0 })) None

-- a level's peak once it holds an amount more
abbrev pub peak_at : ℕ → ℕ → Option Full → ℕ
peak_at peak held None = max peak held
peak_at peak held (Some full) = peak

-- a charge on trial heeds its refusal, and a forced one heeds none
heeds_refusal : (refusal : Option Full) → peak_refusal false refusal ≡ refusal
heeds_refusal None = refl
heeds_refusal (Some full) = refl

heeds_none : (refusal : Option Full) → peak_refusal true refusal ≡ None
heeds_none None = refl
heeds_none (Some full) = refl

module _ (nodes : List TreeNode) (charges : List Charge) (request : Charge) where
  -- a node that holds what it held is not taken past its limit
  pub not_refusing : (x : TreeNode) → held_of nodes (request ∷ charges) x.number.0 ≡ held_of nodes charges x.number.0
      → refuses nodes charges request x ≡ false
  not_refusing x same = rw (eq-eqb _ _ same) refl

  -- the peak of an allocator that is no level stays
  pub peak_of_none : (refusal : Option Full) (peaks : ℕ → ℕ) (n : ℕ)
      → held_of nodes (request ∷ charges) n ≡ held_of nodes charges n → peaks n ≡ peak_with nodes charges request refusal peaks n
  peak_of_none refusal peaks n same = rw (unlisted nodes charges request n same) refl

  -- the peak of an allocator that is younger than a level
  peak_behind : (peaks : ℕ → ℕ) (e : TreeNode) (held amount : ℕ) (refusal : Option Full) (m : ℕ) → e.number.0 < m
      → peak_with nodes charges request refusal peaks m
      ≡ peak_with nodes charges request (refusal_at request.at e held amount refusal) peaks m
  peak_behind peaks e held amount (Some full) m behind = refl
  peak_behind peaks e held amount None m behind =
      let on : ltb e.number.0 m ≡ true = lt-ltb e.number.0 m behind in
      elim (cases_Bool (ltb e.limit (held + amount))) [ inl past ↦ rw (past, on) refl | inr within ↦ rw within refl ]

  pub peak_behind_by : (is_forced : Bool) (peaks : ℕ → ℕ) (e : TreeNode) (held amount : ℕ) (refusal : Option Full) (m : ℕ)
      → e.number.0 < m
      → peak_with nodes charges request (peak_refusal is_forced refusal) peaks m
      ≡ peak_with nodes charges request (peak_refusal is_forced (refusal_at request.at e held amount refusal)) peaks m
  peak_behind_by false peaks e held amount refusal m behind =
      let peak : Option Full → ℕ = λ r. peak_with nodes charges request r peaks m in
      ap peak (heeds_refusal refusal) ∙ peak_behind peaks e held amount refusal m behind
      ∙ ap peak (sym (heeds_refusal (refusal_at request.at e held amount refusal)))
  peak_behind_by true peaks e held amount refusal m behind =
      ap (λ r. peak_with nodes charges request r peaks m)
      (heeds_none refusal ∙ sym (heeds_none (refusal_at request.at e held amount refusal)))

  -- the levels that count are those below the one that was refused; all levels, where the charge is forced
  pub counts_by : (is_forced : Bool) (refusal : Option Full) (m : ℕ) → IsRefusal nodes charges request refusal
      → is_counted m (charge_sample is_forced nodes charges request)
      ≡ (is_listed nodes charges request m && is_below (peak_refusal is_forced refusal) m)
  counts_by false None m is = is_counted-request nodes charges request None m is
  counts_by false (Some full) m is =
      is_counted-request nodes charges request (Some is.0) m is.1
      ∙ ap (λ (n : ℕ). is_listed nodes charges request m && ltb n m) (sym (ap (λ (f : Full). f.node.0) is.2))
  counts_by true refusal m is = listed_all (levels_of nodes charges request) m
      ∙ ap (λ r. is_listed nodes charges request m && is_below r m) (sym (heeds_none refusal))

  -- both samples have the charge
  pub sample_holds : (is_forced : Bool) (m : ℕ) → held_in m (charge_sample is_forced nodes charges request)
      ≡ held_of nodes (request ∷ charges) m
  sample_holds false m = refl
  sample_holds true m = refl

  pub refusal_ends : (next : Option AllocId) (refusal : Option Full)
      → ((x : TreeNode) → IsPassed next x.number.0
      ⊎ (held_of nodes (request ∷ charges) x.number.0 ≡ held_of nodes charges x.number.0))
      → IsRefusalSoFar nodes charges request next refusal → IsRefusal nodes charges request refusal
  refusal_ends next None each refused = refusing_level-none nodes charges request (λ x among. elim (each x) [
    | inl passed ↦ refused x among passed
    | inr same ↦ not_refusing x same
  ])
  refusal_ends next (Some full) each refused = (refused.0, refused.1, refused.2)

-- what is known at a level that holds g before the amount is added there
pub record IsAtLevel (nodes : List TreeNode) (charges : List Charge) (request : Charge) (g : ℕ → ℕ)
    (e : TreeNode) (amount : ℕ) : Type 0 where
  pub node : IsOpenNode nodes e
  pub with_request : held_of nodes (request ∷ charges) e.number.0 ≡ g e.number.0 + amount
  pub before : held_of nodes charges e.number.0 ≡ g e.number.0
  pub some : 0 < amount
  -- an older allocator that the next step passes over
  pub between : (m : ℕ) → m < e.number.0 → IsPassed e.parent m → held_of nodes (request ∷ charges) m ≡ held_of nodes charges m

module _ {nodes : List TreeNode} {charges : List Charge} {request : Charge} {g : ℕ → ℕ} {e : TreeNode} {amount : ℕ}
    (at : IsAtLevel nodes charges request g e amount) where
  -- a level holds more than it held
  is_a_level : is_level nodes charges request e ≡ true
  is_a_level =
      let off : eqb (held_of nodes (request ∷ charges) e.number.0) (held_of nodes charges e.number.0) ≡ false =
      ne_eqb _ _ (λ same. omega (arith, same, at.with_request, at.before, at.some)) in
      rw off refl

  its_listed : is_listed nodes charges request e.number.0 ≡ true
  its_listed = listed nodes charges request e at.node.place is_a_level

  is_past : (b : Bool) → ltb e.limit (g e.number.0 + amount) ≡ b → refuses nodes charges request e ≡ b
  is_past b test =
      let limit : ltb e.limit (held_of nodes (request ∷ charges) e.number.0) ≡ b = ap (ltb e.limit) at.with_request ∙ test in
      rw is_a_level limit

  -- the numbers that a refusal at a level tells
  refusal_is : record { node = e.number; held = g e.number.0; amount = amount; limit = e.limit; local = eqb e.number.0 request.at.0 }
      ≡ refusal_of nodes charges request e
  refusal_is =
      let c = e.number.0 in
      let more : amount ≡ held_of nodes (request ∷ charges) c - held_of nodes charges c = omega (arith, at.with_request, at.before) in
      let f : ℕ → ℕ → Full = λ h a. record {
        node = e.number;
        held = h;
        amount = a;
        limit = e.limit;
        local = eqb c request.at.0;
      } in
      ap (λ h. f h amount) (sym at.before) ∙ ap (f (held_of nodes charges c)) more

  -- after a level the refusal is that of the levels passed
  pub refused_after : (refusal : Option Full) → IsRefusalSoFar nodes charges request (Some e.number) refusal
      → IsRefusalSoFar nodes charges request e.parent (refusal_at request.at e (g e.number.0) amount refusal)
  refused_after (Some full) refused =
      let later : e.number.0 < refused.0.number.0 = refused.3 in
      (refused.0, refused.1, refused.2, behind_parent at.node e.parent refl refused.0.number.0 (omega (arith, later)))
  refused_after None refused =
      let c = e.number.0 in
      let f : Full = record { node = e.number; held = g c; amount = amount; limit = e.limit; local = eqb c request.at.0 } in
      let ordered = at.node.tree.ordered in
      cond_both (ltb e.limit (g c + amount)) (Some f) None (IsRefusalSoFar nodes charges request e.parent)
      (λ past. (
        e,
        refusing_level-is nodes charges request e ordered at.node.place (is_past true past) refused,
        refusal_is,
        behind_parent at.node e.parent refl c (omega arith),
      ))
      (λ within x among behind. elim (cases_order x.number.0 c) [
        | inl same ↦ ap (refuses nodes charges request) (same_node nodes x e ordered among at.node.place same) ∙ is_past false within
        | inr (inl less) ↦ not_refusing nodes charges request x (at.between x.number.0 less behind)
        | inr (inr more) ↦ refused x among more
      ])

  -- the peak of a level sees what it holds, unless something was refused up to there
  peak_here : (peaks q : ℕ → ℕ) (refusal : Option Full) → q e.number.0 ≡ peaks e.number.0
      → IsRefusalSoFar nodes charges request (Some e.number) refusal
      → peak_at (q e.number.0) (g e.number.0 + amount) (refusal_at request.at e (g e.number.0) amount refusal)
      ≡ peak_with nodes charges request (refusal_at request.at e (g e.number.0) amount refusal) peaks e.number.0
  peak_here peaks q (Some full) same refused =
      let c = e.number.0 in
      let later : c < refused.0.number.0 = refused.3 in
      let number : full.node.0 ≡ refused.0.number.0 = ap (λ (f : Full). f.node.0) refused.2 in
      rw (le-ltb full.node.0 c (omega (arith, later, number)), and_no (is_listed nodes charges request c)) same
  peak_here peaks q None same refused =
      let c = e.number.0 in
      elim (cases_Bool (ltb e.limit (g c + amount))) [
        | inl past ↦ rw (past, its_listed, le-ltb c c (omega arith)) same
        | inr within ↦ rw (within, its_listed) (rw (same, at.with_request) refl)
      ]

  -- as the charge heeds its refusal
  pub peak_here_by : (is_forced : Bool) (peaks q : ℕ → ℕ) (refusal : Option Full) → q e.number.0 ≡ peaks e.number.0
      → IsRefusalSoFar nodes charges request (Some e.number) refusal
      → peak_at (q e.number.0) (g e.number.0 + amount) (peak_refusal is_forced (refusal_at request.at e (g e.number.0) amount refusal))
      ≡ peak_with nodes charges request (peak_refusal is_forced (refusal_at request.at e (g e.number.0) amount refusal)) peaks e.number.0
  peak_here_by is_forced peaks q refusal same refused =
      let c = e.number.0 in
      let after = refusal_at request.at e (g c) amount refusal in
      let P : Option Full → Type 0 = λ r. peak_at (q c) (g c + amount) r ≡ peak_with nodes charges request r peaks c in
      elim is_forced as (λ b. P (peak_refusal b after)) [
        | true ↦ subst P (sym (heeds_none after)) (rw its_listed (rw (same, at.with_request) refl))
        | false ↦ subst P (sym (heeds_refusal after)) (peak_here peaks q refusal same refused)
      ]
