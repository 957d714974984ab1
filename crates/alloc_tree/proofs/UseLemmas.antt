-- Uses, one more and one less.
use Rattle.std.proofs.Common.{◌≡◌, ℕ, ◌+◌, ◌-◌, List, cond, eqb, Option, sym, ap, ◌∙◌, arith, inl, inr, eq-eqb}
use Rattle.std.proofs.Common.{ne_eqb}
use Rattle.std.proofs.lemmas.Bool.{cases_eq}
use Rattle.mem_model.specs.Balance.{raised, lowered}
use Rattle.alloc_tree.specs.declared.row.Row.{Row}
use Rattle.alloc_tree.specs.Rows.{uses_in, ChangesUses}

-- an equation of numbers can be read from either side
pub same_test : (n c : ℕ) → eqb n c ≡ eqb c n
same_test n c = elim (cases_eq n c) [
  | inl same ↦ eq-eqb n c same ∙ sym (eq-eqb c n (sym same))
  | inr other ↦ ne_eqb n c other ∙ sym (ne_eqb c n (λ same. other (sym same)))
]

module _ (old new : List (Option Row)) (c : ℕ) (before after : ℕ → ℕ) where
  -- where one allocator has a use more, each has as many as the tree counts
  pub uses_more : ChangesUses old new (raised (uses_in old) c 1) → ((n : ℕ) → uses_in old n ≡ before n)
      → ((n : ℕ) → after n ≡ before n + cond (eqb c n) 1 0)
      → (n : ℕ) → uses_in new n ≡ after n
  uses_more uses kept counts n =
      ap (λ (f : ℕ → ℕ). f n) uses.uses ∙ ap (λ b. uses_in old n + cond b 1 0) (same_test n c)
      ∙ ap (λ (m : ℕ). m + cond (eqb c n) 1 0) (kept n) ∙ sym (counts n)

  -- and where it has one less
  pub uses_less : ChangesUses old new (lowered (uses_in old) c 1) → ((n : ℕ) → uses_in old n ≡ before n)
      → ((n : ℕ) → before n ≡ after n + cond (eqb c n) 1 0)
      → (n : ℕ) → uses_in new n ≡ after n
  uses_less uses kept counts n =
      ap (λ (f : ℕ → ℕ). f n) uses.uses ∙ ap (λ b. uses_in old n - cond b 1 0) (same_test n c) ∙ omega (arith, kept n, counts n)
