-- Lists whose numbers rise, as far as a walk has come.
use Rattle.std.proofs.Common.{◌≡◌, ℕ, ◌+◌, ◌<◌, ◌≤◌, List, [], ◌∷◌, ◌++◌, length, get_or, take, arith, All, AllPairs, ap, sym, subst, ◌∙◌}
use Rattle.std.proofs.lemmas.List.{take_more, get_or-take, length-take}
use Rattle.std.proofs.lemmas.List.Elements.{All-push}
use Rattle.mem_model.proofs.TreeLemmas.{AllPairs-more, AllPairs-at}

-- the numbers of what was seen rise, and the next may be this one or greater, and no smaller
pub record Rises {X : Type 0} (number : X → ℕ) (seen : List X) (least : ℕ) : Type 0 where
  pub in_order : AllPairs (λ before after. number before < number after) seen
  pub below : All (λ x. number x < least) seen
  pub tight : (m : ℕ) → All (λ x. number x < m) seen → least ≤ m

-- where nothing was seen, any may come
pub rises-none : {X : Type 0} (number : X → ℕ) → Rises number [] 0
rises-none number = record {
  in_order = λ i j d lt within. absurd (omega arith);
  below = λ k d within. absurd (omega arith);
  tight = λ m all. omega arith;
}

module _ {X : Type 0} (number : X → ℕ) (xs : List X) (i least : ℕ) (x : X) (within : i < length xs) (here : x ≡ get_or xs i x)
    (rises : Rises number (take i xs) least) where
  -- all that was seen has a smaller number than one that may come next
  smaller : least ≤ number x → All (λ y. number y < number x) (take i xs)
  smaller next k d inside = omega (arith, next, rises.below k d inside)

  -- one more, which may come next
  pub rises-more : least ≤ number x → Rises number (take (i + 1) xs) (number x + 1)
  rises-more next =
      let more : take (i + 1) xs ≡ take i xs ++ x ∷ [] = take_more xs i x within ∙ ap (λ y. take i xs ++ y ∷ []) (sym here) in
      let earlier : All (λ y. number y < number x + 1) (take i xs) = λ k d inside. omega (arith, smaller next k d inside) in
      record {
        in_order = AllPairs-more (λ before after. number before < number after) xs i x within rises.in_order
            (subst (λ y. All (λ z. number z < number y) (take i xs)) here (smaller next));
        below = subst (All (λ y. number y < number x + 1)) (sym more)
            (All-push (λ y. number y < number x + 1) (take i xs) x earlier (omega arith));
        tight = λ m all.
            let last : number x < m = subst (λ y. number y < m) (get_or-take (i + 1) xs i x (omega arith) ∙ sym here)
            (all i x (omega (arith, length-take (i + 1) xs, within))) in
            omega (arith, last);
      }

  -- one that may not come breaks the order
  pub rises-broken : number x < least → AllPairs (λ before after. number before < number after) xs → ⊥
  rises-broken past pairs =
      let before = AllPairs-at (λ before after. number before < number after) xs i x within pairs in
      let all : All (λ z. number z < number x) (take i xs) = subst (λ y. All (λ z. number z < number y) (take i xs)) (sym here) before in
      omega (arith, past, rises.tight (number x) all)
