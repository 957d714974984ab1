-- The lowest of some levels, and which level refuses a request.
use Rattle.std.proofs.Common.{◌≡◌, ℕ, zero, suc, ◌+◌, ◌-◌, ◌<◌, List, [], ◌∷◌, ◌++◌, length, get_or, take, drop, filter, map, Bool, true, false, ◌&&◌, eqb, ltb, Some, None, Option, All, refl, sym, ap, subst, ◌∙◌, arith, inl, inr, eq-eqb}
use Rattle.std.proofs.lemmas.Bool.{cases_Bool}
use Rattle.std.proofs.lemmas.Bool.Decides.{nat_tests}
use Rattle.std.proofs.lemmas.List.{get_or_default}
use Rattle.std.proofs.lemmas.List.{append-nil, length-append, get_or-drop, length-drop, take-append-drop}
use Rattle.std.proofs.lemmas.List.Elements.{filter_more, filter-append, All-head, All-tail}
use Rattle.std.proofs.lemmas.Option.{slice_get-get_or}
use Rattle.std.proofs.Math.Seq.{get_or-append_seam}
use Rattle.std.specs.List.{slice_get, list_any, Contains}
use Rattle.mem_model.specs.declared.charge.Charge.{Charge}
use Rattle.mem_model.specs.declared.tree_node.TreeNode.{TreeNode}
use Rattle.mem_model.specs.Held.{held_of}
use Rattle.mem_model.specs.PeakSample.{is_counted, counted_levels, request_sample}
use Rattle.mem_model.specs.Request.{lowest, levels_of, is_level, is_past_limit, refusing_level}
use Rattle.mem_model.proofs.HeldLemmas.{Rises}

pub lowest_push : (levels : List TreeNode) (level : TreeNode) → lowest (levels ++ level ∷ []) ≡ Some level
lowest_push levels level =
    let size : length (levels ++ level ∷ []) - 1 ≡ length levels = omega (arith, length-append levels (level ∷ [])) in
    ap (slice_get (levels ++ level ∷ [])) size
    ∙ slice_get-get_or (levels ++ level ∷ []) (length levels) level (omega (arith, length-append levels (level ∷ [])))
    ∙ ap Some (get_or-append_seam levels level [] level)

-- one node more that passes is the lowest
pub lowest_takes : (p : TreeNode → Bool) (nodes : List TreeNode) (i : ℕ) (d : TreeNode) → i < length nodes → p (get_or nodes i d) ≡ true
    → Some (get_or nodes i d) ≡ lowest (filter p (take (i + 1) nodes))
lowest_takes p nodes i d within passes =
    sym (ap lowest (filter_more p nodes i d within) ∙ rw passes (lowest_push (filter p (take i nodes)) (get_or nodes i d)))

-- one that doesn't pass changes nothing
pub lowest_keeps : (p : TreeNode → Bool) (nodes : List TreeNode) (i : ℕ) (d : TreeNode) → i < length nodes → p (get_or nodes i d) ≡ false
    → lowest (filter p (take i nodes)) ≡ lowest (filter p (take (i + 1) nodes))
lowest_keeps p nodes i d within fails =
    sym (ap lowest (filter_more p nodes i d within) ∙ rw fails (ap lowest (append-nil (filter p (take i nodes)))))

-- no element passes
pub filter_none : {X : Type 0} (p : X → Bool) (xs : List X) → All (λ x. p x ≡ false) xs → filter p xs ≡ []
filter_none p [] none = refl
filter_none p (x ∷ xs) none = rw (All-head (λ y. p y ≡ false) x xs none) (filter_none p xs (All-tail (λ y. p y ≡ false) x xs none))

eqb_same : (a b : ℕ) → eqb a b ≡ true → a ≡ b
eqb_same a b h = grind (arith, nat_tests)

pub and_no : (b : Bool) → (b && false) ≡ false
and_no true = refl
and_no false = refl

-- one test after another is both
pub filter-filter : {X : Type 0} (p q : X → Bool) (xs : List X) → filter p (filter q xs) ≡ filter (λ x. q x && p x) xs
filter-filter p q [] = refl
filter-filter p q (x ∷ xs) = elim (cases_Bool (q x)) [
  | inl yes' ↦ rw yes' (elim (cases_Bool (p x)) [ inl also ↦ rw also (ap (λ ys. x ∷ ys) (filter-filter p q xs)) | inr no' ↦ rw no' (filter-filter p q xs) ])
  | inr no' ↦ rw no' (filter-filter p q xs)
]

-- the last node that passes is the lowest
lowest_is : (p : TreeNode → Bool) (nodes : List TreeNode) (e : TreeNode) → Rises nodes → Contains nodes e → p e ≡ true
    → ((x : TreeNode) → Contains nodes x → e.number.0 < x.number.0 → p x ≡ false) → lowest (filter p nodes) ≡ Some e
lowest_is p nodes e rises place passes later =
    let i = place.0 in
    let here : p (get_or nodes i e) ≡ true = ap p place.2 ∙ passes in
    let behind : All (λ x. p x ≡ false) (drop (i + 1) nodes) =
    λ k d within. (
    let inside : i + 1 + k < length nodes = omega (arith, within, length-drop (i + 1) nodes, place.1) in
    let same : get_or (drop (i + 1) nodes) k d ≡ get_or nodes (i + 1 + k) d = get_or-drop (i + 1) nodes k d in
    let x = get_or nodes (i + 1 + k) e in
    let newer : (get_or nodes i e).number.0 < x.number.0 = rises i (i + 1 + k) e (omega arith) inside in
    let newer' : e.number.0 < x.number.0 = subst (λ (y : TreeNode). y.number.0 < x.number.0) place.2 newer in
    let fails : p x ≡ false = later x (i + 1 + k, inside, get_or_default nodes (i + 1 + k) x e inside) newer' in
    ap p (same ∙ get_or_default nodes (i + 1 + k) d e inside) ∙ fails) in
    let split : filter p nodes ≡ filter p (take (i + 1) nodes) =
    ap (filter p) (sym (take-append-drop (i + 1) nodes)) ∙ filter-append p (take (i + 1) nodes) (drop (i + 1) nodes) ∙ ap (λ ys. filter p (take (i + 1) nodes) ++ ys) (filter_none p (drop (i + 1) nodes) behind)
    ∙ append-nil (filter p (take (i + 1) nodes)) in
    ap lowest split ∙ sym (lowest_takes p nodes i e place.1 here) ∙ ap Some place.2

-- whether a request takes a node past its limit
abbrev pub refuses : List TreeNode → List Charge → Charge → TreeNode → Bool
refuses nodes charges request node = is_level nodes charges request node && is_past_limit nodes (request ∷ charges) node

-- the level that refuses is the lowest one that is taken past its limit
pub refusing_level-is : (nodes : List TreeNode) (charges : List Charge) (request : Charge) (e : TreeNode) → Rises nodes → Contains nodes e → refuses nodes charges request e ≡ true
    → ((x : TreeNode) → Contains nodes x → e.number.0 < x.number.0 → refuses nodes charges request x ≡ false) → refusing_level nodes charges request ≡ Some e
refusing_level-is nodes charges request e rises place passes later =
    ap lowest (filter-filter (is_past_limit nodes (request ∷ charges)) (is_level nodes charges request) nodes) ∙ lowest_is (refuses nodes charges request) nodes e rises place passes later

-- where none is taken past its limit, none refuses
pub refusing_level-none : (nodes : List TreeNode) (charges : List Charge) (request : Charge) → ((x : TreeNode) → Contains nodes x → refuses nodes charges request x ≡ false) → refusing_level nodes charges request ≡ None
refusing_level-none nodes charges request none =
    let all_fail : All (λ x. refuses nodes charges request x ≡ false) nodes =
    λ k d within. none (get_or nodes k d) (k, within, get_or_default nodes k (get_or nodes k d) d within) in
    ap lowest (filter-filter (is_past_limit nodes (request ∷ charges)) (is_level nodes charges request) nodes ∙ filter_none (refuses nodes charges request) nodes all_fail)

-- whether the allocator n is a level of a request
abbrev pub is_listed : List TreeNode → List Charge → Charge → ℕ → Bool
is_listed nodes charges request n = list_any (λ node. eqb node.number.0 n) (levels_of nodes charges request)

-- the levels that count, by number
abbrev pub is_below_refusing : Option TreeNode → ℕ → Bool
is_below_refusing None n = true
is_below_refusing (Some level) n = ltb level.number.0 n

listed_below : (levels : List TreeNode) (low n : ℕ)
    → list_any (λ id. eqb id.0 n) (map (λ level. level.number) (filter (λ level. ltb low level.number.0) levels)) ≡ (list_any (λ node. eqb node.number.0 n) levels && ltb low n)
listed_below [] low n = refl
listed_below (level ∷ levels) low n =
    let rest = listed_below levels low n in
    elim (cases_Bool (eqb level.number.0 n)) [
      | inl same ↦ (let at : level.number.0 ≡ n = eqb_same level.number.0 n same in
          elim (cases_Bool (ltb low n)) [
            | inl below ↦ (let here : ltb low level.number.0 ≡ true = ap (ltb low) at ∙ below in rw (here, same, below) refl)
            | inr above ↦ (let here : ltb low level.number.0 ≡ false = ap (ltb low) at ∙ above in rw (here, same) (rest ∙ rw above (and_no (list_any (λ node. eqb node.number.0 n) levels))))
          ])
      | inr other ↦ elim (cases_Bool (ltb low level.number.0)) [ inl below ↦ rw (below, other) rest | inr above ↦ rw (above, other) rest ]
    ]

pub listed_all : (levels : List TreeNode) (n : ℕ) → list_any (λ id. eqb id.0 n) (map (λ level. level.number) levels) ≡ (list_any (λ node. eqb node.number.0 n) levels && true)
listed_all [] n = refl
listed_all (level ∷ levels) n = elim (cases_Bool (eqb level.number.0 n)) [ inl same ↦ rw same refl | inr other ↦ rw other (listed_all levels n) ]

-- a request's sample counts for its levels, as far as they are below the one that refuses it
pub is_counted-request : (nodes : List TreeNode) (charges : List Charge) (request : Charge) (refusing : Option TreeNode) (n : ℕ) → refusing_level nodes charges request ≡ refusing
    → is_counted n (request_sample nodes charges request) ≡ (is_listed nodes charges request n && is_below_refusing refusing n)
is_counted-request nodes charges request None n is =
    ap (λ r. list_any (λ id. eqb id.0 n) (map (λ level. level.number) (counted_levels (levels_of nodes charges request) r))) is ∙ listed_all (levels_of nodes charges request) n
is_counted-request nodes charges request (Some level) n is =
    ap (λ r. list_any (λ id. eqb id.0 n) (map (λ level. level.number) (counted_levels (levels_of nodes charges request) r))) is ∙ listed_below (levels_of nodes charges request) level.number.0 n

unlisted_in : (nodes : List TreeNode) (charges : List Charge) (request : Charge) (n : ℕ) → held_of nodes (request ∷ charges) n ≡ held_of nodes charges n
    → (xs : List TreeNode) → list_any (λ node. eqb node.number.0 n) (filter (is_level nodes charges request) xs) ≡ false
unlisted_in nodes charges request n same [] = refl
unlisted_in nodes charges request n same (x ∷ xs) =
    let rest = unlisted_in nodes charges request n same xs in
    elim (cases_Bool (eqb x.number.0 n)) [
      | inl at ↦ (let number : x.number.0 ≡ n = eqb_same x.number.0 n at in
          let held : held_of nodes (request ∷ charges) x.number.0 ≡ held_of nodes charges x.number.0 = ap (held_of nodes (request ∷ charges)) number ∙ same ∙ ap (held_of nodes charges) (sym number) in
          let out : is_level nodes charges request x ≡ false = rw (eq-eqb _ _ held) refl in
          rw out rest)
      | inr other ↦ elim (cases_Bool (is_level nodes charges request x)) [ inl level ↦ rw (level, other) rest | inr out ↦ rw out rest ]
    ]

-- an allocator that holds what it held is no level
pub unlisted : (nodes : List TreeNode) (charges : List Charge) (request : Charge) (n : ℕ) → held_of nodes (request ∷ charges) n ≡ held_of nodes charges n → is_listed nodes charges request n ≡ false
unlisted nodes charges request n same = unlisted_in nodes charges request n same nodes

listed_in : (test : TreeNode → Bool) (e : TreeNode) → test e ≡ true → (xs : List TreeNode) (k : ℕ) → k < length xs → get_or xs k e ≡ e → list_any (λ node. eqb node.number.0 e.number.0) (filter test xs) ≡ true
listed_in test e passes [] k within is = absurd (omega arith)
listed_in test e passes (x ∷ xs) zero within is =
    let at : test x ≡ true = ap test is ∙ passes in
    let same : eqb x.number.0 e.number.0 ≡ true = eq-eqb _ _ (ap (λ (y : TreeNode). y.number.0) is) in
    rw (at, same) refl
listed_in test e passes (x ∷ xs) (suc k) within is =
    let rest = listed_in test e passes xs k (omega arith) is in
    elim (cases_Bool (test x)) [
      | inl at ↦ rw at (elim (cases_Bool (eqb x.number.0 e.number.0)) [ inl same ↦ rw same refl | inr other ↦ rw other rest ])
      | inr out ↦ rw out rest
    ]

-- a node that holds more than it held is one
pub listed : (nodes : List TreeNode) (charges : List Charge) (request : Charge) (e : TreeNode) → Contains nodes e → is_level nodes charges request e ≡ true → is_listed nodes charges request e.number.0 ≡ true
listed nodes charges request e place level = listed_in (is_level nodes charges request) e level nodes place.0 place.1 place.2
