-- Which levels stand on the way from a node to the root.
use Rattle.std.proofs.Common.{zero, suc, ◌≡◌, ℕ, ◌<◌, ◌≤◌, List, [], ◌∷◌, length, ap, ◌≢◌, Bool, true, false, cond, Option, Some, None, arith, refl, sym, subst, eq-eqb, eqb-true, ne_eqb, ⊎_elim, ◌==◌}
use Rattle.std.proofs.lemmas.Bool.{cases_eq}
use Rattle.acct_core.specs.declared.shape.Shape.{Shape}
use Rattle.acct_core.specs.declared.row.Row.{Row}
use Rattle.acct_core.specs.Rows.{row, is_at}
use Rattle.acct_core.specs.NodeTree.{IsNodeTree, IsOpen, Reaches}
use Rattle.acct_core.specs.NodeTree.Reaches.{here, above}

-- a number that was made is one of a row
pub made_in : (rows : List Row) (n : ℕ) → (row rows n).shape.made ≡ true → n < length rows
made_in [] n h = absurd cc
made_in (r ∷ rows) zero h = omega arith
made_in (r ∷ rows) (suc n) h = let a = made_in rows n h in omega arith

-- a number that is there is the one
pub at_some : (o : Option ℕ) (n : ℕ) → is_at o n ≡ true → o ≡ Some n
at_some None n h = absurd cc
at_some (Some m) n h = ap Some (eqb-true m n h)

-- whether there is a number, and this holds of it
abbrev pub and_some : Option ℕ → (ℕ → Bool) → Bool
and_some None p = false
and_some (Some k) p = p k

-- n is k or an ancestor of it, at most f levels up
abbrev pub on_line : (ℕ → Shape) → ℕ → ℕ → ℕ → Bool
on_line shape zero k n = k == n
on_line shape (suc f) k n = cond (k == n) true (and_some (shape k).parent (λ p. on_line shape f p n))

-- who is above an open node is open
pub reaches_open : {shape : ℕ → Shape} {k n : ℕ} → IsNodeTree shape → Reaches shape k n → IsOpen shape k → IsOpen shape n
reaches_open t here o = o
reaches_open t (above {level = m} {parent = p} r e) o = t.open_parent m p (reaches_open t r o) e

module _ (shape : ℕ → Shape) (t : IsNodeTree shape) where
  -- each number is on its own way
  pub on_self : (f k : ℕ) → on_line shape f k k ≡ true
  on_self zero k = eq-eqb k k refl
  on_self (suc f) k = rw (eq-eqb k k refl) refl

  -- the first step of a line
  pub on_first : (f k q n : ℕ) → (shape k).parent ≡ Some q → on_line shape f q n ≡ true → on_line shape (suc f) k n ≡ true
  on_first f k q n e h = rw (e, h) (elim (k == n) as (λ b. cond b true true ≡ true) [ true ↦ refl | false ↦ refl ])

  -- a line with a second number: its first step
  pub line_step : (f k n : ℕ) → k ≢ n → on_line shape (suc f) k n ≡ true → (q : ℕ) × ((shape k).parent ≡ Some q)
      × (on_line shape f q n ≡ true)
  line_step f k n ne h = go (shape k).parent refl (rw (ne_eqb k n ne) at h)
    where
      go : (o : Option ℕ) → (shape k).parent ≡ o → and_some o (λ p. on_line shape f p n) ≡ true → (q : ℕ) × ((shape k).parent ≡ Some q)
          × (on_line shape f q n ≡ true)
      go None e g = absurd (cc)
      go (Some q) e g = (q, e, g)

  -- a line goes on to the parent of its last number
  pub on_above : (f k m p : ℕ) → k ≤ f → on_line shape f k m ≡ true → (shape m).parent ≡ Some p → on_line shape f k p ≡ true
  on_above zero k m p le h e = let q = eqb-true k m h in let s = t.smaller m p e in absurd (omega arith)
  on_above (suc f) k m p le h e = ⊎_elim
      (λ same. on_first f k p p (subst (λ (x : ℕ). (shape x).parent ≡ Some p) (sym same) e) (on_self f p))
      (λ ne. let s = line_step f k m ne h in
      let less = t.smaller k s.0 s.1 in
      on_first f k s.0 p s.1 (on_above f s.0 m p (omega arith) s.2 e))
      (cases_eq k m)

  -- who is above a node is on its way
  pub on_reaches : (f k n : ℕ) → k ≤ f → Reaches shape k n → on_line shape f k n ≡ true
  on_reaches f k n le here = on_self f k
  on_reaches f k n le (above {level = m} {parent = p} r e) = on_above f k m p le (on_reaches f k m le r) e

  -- a line that ends above its first number comes by a child of its end
  pub by_child : (f k n : ℕ) → k ≢ n → on_line shape f k n ≡ true → (c : ℕ) × ((shape c).parent ≡ Some n) × (on_line shape f k c ≡ true)
  by_child zero k n ne h = absurd (ne (eqb-true k n h))
  by_child (suc f) k n ne h =
      let s = line_step f k n ne h in
      ⊎_elim
      (λ same. (k, subst (λ (x : ℕ). (shape k).parent ≡ Some x) same s.1, on_self (suc f) k))
      (λ other. let c = by_child f s.0 n other s.2 in (c.0, c.1, on_first f k s.0 c.0 s.1 c.2))
      (cases_eq s.0 n)

  -- who is on the way of an open node is open
  pub line_open : (f k n : ℕ) → on_line shape f k n ≡ true → IsOpen shape k → IsOpen shape n
  line_open zero k n h o = subst (IsOpen shape) (eqb-true k n h) o
  line_open (suc f) k n h o = ⊎_elim
      (λ same. subst (IsOpen shape) same o)
      (λ ne. let s = line_step f k n ne h in line_open f s.0 n s.2 (t.open_parent k s.0 o s.1))
      (cases_eq k n)
