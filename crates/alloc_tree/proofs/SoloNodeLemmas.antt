-- What a token shows of allocators that are made and closed.
use Rattle.std.proofs.Common.{if◌then◌else◌, inl, inr, ◌≡◌, ◌≢◌, ℕ, ◌+◌, ◌<◌, Bool, true, false, ◌||◌, ◌==◌, List, [], ◌∷◌, ◌++◌}
use Rattle.std.proofs.Common.{refl, sym, ◌∙◌, ap, subst, arith, Option, Some, None}
use Rattle.std.proofs.lemmas.Bool.{cond_both, cond-true, cond-false, eqb-true, eqb-false, eq-eqb, ne_eqb, cases_Bool}
use Rattle.std.proofs.lemmas.List.Folds.{list_any-append, find-append}
use Rattle.std.proofs.lemmas.List.Elements.{All-head, All-tail}
use Rattle.std.specs.Prelude.{All}
use Rattle.std.specs.List.{list_any, find}
use Rattle.std.specs.Option.{option_map, option_or}
use Rattle.mem_num.specs.declared.alloc_id.AllocId.{AllocId}
use Rattle.mem_model.specs.declared.tree_node.TreeNode.{TreeNode}
use Rattle.mem_model.specs.Close.{closed_where, with_closed}
use Rattle.mem_model.specs.LawfulState.{IsLawfulState}
use Rattle.mem_model.specs.TreeState.{TreeState}
use Rattle.mem_model.proofs.OpenLemmas.{is_open_at}
use Rattle.mem_buf.specs.Changes.{LosesPins, only_at}
use Rattle.alloc_tree.specs.SoloView.{limit_at}

-- whether a node has the number n
abbrev has_number : ℕ → TreeNode → Bool
has_number n node = node.number.0 == n

-- a pin of an allocator that is open
abbrev pub pin_if : Bool → ℕ
pin_if is_open = if is_open then 1 else 0

-- no allocator is open at a number that wasn't given
none_open : (nodes : List TreeNode) (n : ℕ) → All (λ node. node.number.0 < n) nodes → list_any (is_open_at n) nodes ≡ false
none_open [] n all = refl
none_open (x ∷ xs) n all =
    let less : x.number.0 < n = All-head (λ (node : TreeNode). node.number.0 < n) x xs all in
    let other : (x.number.0 == n) ≡ false = ne_eqb x.number.0 n (λ e. omega (arith, less, e)) in
    rw (other, none_open xs n (All-tail (λ (node : TreeNode). node.number.0 < n) x xs all)) refl

-- and none has it
none_numbered : (nodes : List TreeNode) (n : ℕ) → All (λ node. node.number.0 < n) nodes → find (has_number n) nodes ≡ None
none_numbered [] n all = refl
none_numbered (x ∷ xs) n all =
    let less : x.number.0 < n = All-head (λ (node : TreeNode). node.number.0 < n) x xs all in
    cond-false (x.number.0 == n) (Some x) (find (has_number n) xs) (ne_eqb x.number.0 n (λ e. omega (arith, less, e)))
    ∙ none_numbered xs n (All-tail (λ (node : TreeNode). node.number.0 < n) x xs all)

-- no pin is gained by nothing
pin_or : (b : Bool) → pin_if (b || false) ≡ pin_if b + 0
pin_or true = refl
pin_or false = refl

-- what is found stays found in a longer list
kept_or : {X : Type 0} (f : X → ℕ) (found more : Option X) (known : ℕ) → option_map f found ≡ Some known
    → option_map f (option_or found more) ≡ Some known
kept_or f None more known is = absurd cc
kept_or f (Some x) more known is = is

-- an open allocator more, at the number that stands next
module _ (state : TreeState) (child : TreeNode) (lawful : IsLawfulState state) (number : child.number.0 ≡ state.next)
    (is_open : child.closed ≡ false) where
  younger : All (λ node. node.number.0 < state.next) state.nodes
  younger = λ k d within. (lawful.nodes k d within).given

  -- is one pin more
  pub pins-child : (n : ℕ) → pin_if (list_any (is_open_at n) (state.nodes ++ child ∷ []))
      ≡ pin_if (list_any (is_open_at n) state.nodes) + only_at (record { 0 = state.next }) 1 n
  pins-child n =
      let more : list_any (is_open_at n) (state.nodes ++ child ∷ [])
      ≡ (list_any (is_open_at n) state.nodes || list_any (is_open_at n) (child ∷ [])) =
      list_any-append (is_open_at n) state.nodes (child ∷ []) in
      elim (cases_Bool (n == state.next)) [
        | inl same ↦ let here : n ≡ state.next = eqb-true n state.next same in
            let none : list_any (is_open_at n) state.nodes ≡ false =
            none_open state.nodes n (subst (λ m. All (λ node. node.number.0 < m) state.nodes) (sym here) younger) in
            let turned : (child.number.0 == n) ≡ true = eq-eqb child.number.0 n (number ∙ sym here) in
            ap pin_if more ∙ rw (none, same, turned, is_open) refl
        | inr other ↦ let turned : (child.number.0 == n) ≡ false =
            ne_eqb child.number.0 n (λ e. omega (arith, eqb-false n state.next other, e, number)) in
            ap pin_if more ∙ rw (other, turned) (pin_or (list_any (is_open_at n) state.nodes))
      ]

  -- and the limits of the others are known as before
  pub limits-child : (n known : ℕ) → limit_at state.nodes n ≡ Some known → limit_at (state.nodes ++ child ∷ []) n ≡ Some known
  limits-child n known is =
      ap (option_map (λ (node : TreeNode). node.limit)) (find-append (has_number n) state.nodes (child ∷ []))
      ∙ kept_or (λ (node : TreeNode). node.limit) (find (has_number n) state.nodes) (find (has_number n) (child ∷ [])) known is

  -- and its own too
  pub limit-child : limit_at (state.nodes ++ child ∷ []) state.next ≡ Some child.limit
  limit-child =
      let alone : find (has_number state.next) (child ∷ []) ≡ Some child =
      cond-true (child.number.0 == state.next) (Some child) None (eq-eqb child.number.0 state.next number) in
      ap (option_map (λ (node : TreeNode). node.limit)) (find-append (has_number state.next) state.nodes (child ∷ [])
      ∙ ap (λ first. option_or first (find (has_number state.next) (child ∷ []))) (none_numbered state.nodes state.next younger) ∙ alone)

-- closing the allocator m changes no other one
open_elsewhere : (m n : ℕ) (x : TreeNode) → n ≢ m → is_open_at n (closed_where m x) ≡ is_open_at n x
open_elsewhere m n x other =
    cond_both (x.number.0 == m) (record x { closed = true }) x (λ node. is_open_at n node ≡ is_open_at n x)
    (λ same. let apart : (x.number.0 == n) ≡ false = ne_eqb x.number.0 n (λ e. other (sym e ∙ eqb-true x.number.0 m same)) in rw apart refl)
    (λ _. refl)

-- which isn't open then
closed_there : (m : ℕ) (x : TreeNode) → is_open_at m (closed_where m x) ≡ false
closed_there m x =
    cond_both (x.number.0 == m) (record x { closed = true }) x (λ node. is_open_at m node ≡ false) (λ same. rw same refl)
    (λ other. rw other refl)

any_elsewhere : (m n : ℕ) (nodes : List TreeNode) → n ≢ m → list_any (is_open_at n) (with_closed m nodes) ≡ list_any (is_open_at n) nodes
any_elsewhere m n [] other = refl
any_elsewhere m n (x ∷ xs) other = rw (open_elsewhere m n x other, any_elsewhere m n xs other) refl

any_there : (m : ℕ) (nodes : List TreeNode) → list_any (is_open_at m) (with_closed m nodes) ≡ false
any_there m [] = refl
any_there m (x ∷ xs) = rw (closed_there m x, any_there m xs) refl

-- limits stay
pub limits-closed : (m n : ℕ) (nodes : List TreeNode) → limit_at (with_closed m nodes) n ≡ limit_at nodes n
limits-closed m n [] = refl
limits-closed m n (x ∷ xs) =
    let rest = limits-closed m n xs in
    let number : (closed_where m x).number.0 ≡ x.number.0 =
    cond_both (x.number.0 == m) (record x { closed = true }) x (λ node. node.number.0 ≡ x.number.0) (λ _. refl) (λ _. refl) in
    let limit : (closed_where m x).limit ≡ x.limit =
    cond_both (x.number.0 == m) (record x { closed = true }) x (λ node. node.limit ≡ x.limit) (λ _. refl) (λ _. refl) in
    elim (cases_Bool (x.number.0 == n)) [
      | inl same ↦ let there : ((closed_where m x).number.0 == n) ≡ true = ap (λ k. k == n) number ∙ same in rw (same, there)
          (ap Some limit)
      | inr other ↦ let there : ((closed_where m x).number.0 == n) ≡ false = ap (λ k. k == n) number ∙ other in rw (other, there) rest
    ]

-- and its own pin is lost alone
pub loses-closed : (at : AllocId) (nodes : List TreeNode)
    → LosesPins (only_at at (pin_if (list_any (is_open_at at.0) nodes))) (λ n. pin_if (list_any (is_open_at n) nodes))
    (λ n. pin_if (list_any (is_open_at n) (with_closed at.0 nodes)))
loses-closed at nodes n = elim (cases_Bool (n == at.0)) [
  | inl same ↦ let number : n ≡ at.0 = eqb-true n at.0 same in
      let gone : list_any (is_open_at n) (with_closed at.0 nodes) ≡ false =
      subst (λ m. list_any (is_open_at m) (with_closed at.0 nodes) ≡ false) (sym number) (any_there at.0 nodes) in
      let kept : pin_if (list_any (is_open_at n) nodes) ≡ pin_if (list_any (is_open_at at.0) nodes) =
      ap (λ m. pin_if (list_any (is_open_at m) nodes)) number in
      let none : pin_if (list_any (is_open_at n) (with_closed at.0 nodes)) ≡ 0 = ap pin_if gone in
      let lost : only_at at (pin_if (list_any (is_open_at at.0) nodes)) n ≡ pin_if (list_any (is_open_at at.0) nodes) =
      cond-true (n == at.0) _ 0 same in
      (omega arith, omega arith)
  | inr other ↦ let kept : pin_if (list_any (is_open_at n) (with_closed at.0 nodes)) ≡ pin_if (list_any (is_open_at n) nodes) =
      ap pin_if (any_elsewhere at.0 n nodes (eqb-false n at.0 other)) in
      (omega arith, omega arith)
]
