-- What a write to one word makes of the rows.
use Rattle.std.proofs.Common.{zero, suc, ◌≡◌, ℕ, ◌+◌, ◌<◌, ◌≢◌, List, [], ◌∷◌, length, set, slice_index, refl, sym, ap, arith, get_or-set_same}
use Rattle.std.proofs.Common.{get_or-set_other}
use Rattle.acct_core.specs.Rows.{row}
use Rattle.acct_words.specs.declared.fixed.Fixed.{Fixed}
use Rattle.acct_words.specs.Places.{held_word, limit_word, peak_word, reservation_word, parent_word}
use Rattle.acct_words.specs.Rows.{node, row_of, rows_of, fixed_in}

-- there are as many rows as allocators
pub rows_of-length : (tree : List Fixed) (n : ℕ) (words : List ℕ) → length (rows_of tree n words) ≡ length tree
rows_of-length [] n words = refl
rows_of-length (f ∷ tree) n words = ap suc (rows_of-length tree (n + 1) words)

-- the row of a number
pub rows_of-at : (tree : List Fixed) (n k i : ℕ) (words : List ℕ) → k < length tree → i ≡ n + k →
    row (rows_of tree n words) k ≡ row_of i (node tree k) (slice_index words (held_word i)) (slice_index words (limit_word i))
rows_of-at [] n k i words h e = absurd (omega arith)
rows_of-at (f ∷ tree) n zero i words h e = let p : n ≡ i = omega arith in rw p refl
rows_of-at (f ∷ tree) n (suc k) i words h e = rows_of-at tree (n + 1) k i words (omega arith) (omega arith)

-- the rows from n on don't read the words before
pub rows_of-before : (tree : List Fixed) (n i x : ℕ) (words : List ℕ) → i < held_word n →
    rows_of tree n (set words i x) ≡ rows_of tree n words
rows_of-before [] n i x words h = refl
rows_of-before (f ∷ tree) n i x words h =
    rw (
      get_or-set_other words i (held_word n) x 0 (λ e. omega arith),
      get_or-set_other words i (limit_word n) x 0 (λ e. omega arith),
      rows_of-before tree (n + 1) i x words (omega arith),
    ) refl

-- a write to a held word sets one row
pub rows_of-set : (tree : List Fixed) (n m k x : ℕ) (words : List ℕ) → k ≡ n + m → m < length tree → held_word k < length words →
    rows_of tree n (set words (held_word k) x) ≡ set (rows_of tree n words) m (row_of k (node tree m) x (slice_index words (limit_word k)))
rows_of-set [] n m k x words e h w = absurd (omega arith)
rows_of-set (f ∷ tree) n zero k x words e h w =
    let p : n ≡ k = omega arith in
    rw (
      p,
      get_or-set_same words (held_word k) x 0 w,
      get_or-set_other words (held_word k) (limit_word k) x 0 (λ q. omega arith),
      rows_of-before tree (k + 1) (held_word k) x words (omega arith),
    ) refl
rows_of-set (f ∷ tree) n (suc m) k x words e h w =
    rw (
      get_or-set_other words (held_word k) (held_word n) x 0 (λ q. omega arith),
      get_or-set_other words (held_word k) (limit_word n) x 0
          (λ q. omega arith),
      rows_of-set tree (n + 1) m k x words (omega arith) (omega arith) w,
    ) refl

-- what is fixed of an allocator stays where another word is written
pub fixed_in-other : (n w x : ℕ) (words : List ℕ) → w ≢ limit_word n → w ≢ reservation_word n → w ≢ parent_word n →
    fixed_in n (set words w x) ≡ fixed_in n words
fixed_in-other n w x words l r p = rw (
  get_or-set_other words w (parent_word n) x 0 (λ q. p (sym q)),
  get_or-set_other words w (reservation_word n) x 0 (λ q. r (sym q)),
  get_or-set_other words w (limit_word n) x 0 (λ q. l (sym q)),
) refl

-- as where a held word is
pub fixed_in-held : (n m x : ℕ) (words : List ℕ) → fixed_in n (set words (held_word m) x) ≡ fixed_in n words
fixed_in-held n m x words = fixed_in-other n (held_word m) x words (λ q. omega arith) (λ q. omega arith) (λ q. omega arith)

-- the limits that the words say are those of the tree
pub limits_of : (tree : List Fixed) (words : List ℕ) → ((n : ℕ) → n < length tree → fixed_in n words ≡ node tree n) →
    (n : ℕ) → n < length tree → slice_index words (limit_word n) ≡ (node tree n).limit
limits_of tree words fixed n there = ap (λ (f : Fixed). f.limit) (fixed n there)

-- the rows don't read a peak
pub rows_of-peak : (tree : List Fixed) (n m x : ℕ) (words : List ℕ) → rows_of tree n (set words (peak_word m) x) ≡ rows_of tree n words
rows_of-peak [] n m x words = refl
rows_of-peak (f ∷ tree) n m x words = rw (
  get_or-set_other words (peak_word m) (held_word n) x 0 (λ e. omega arith),
  get_or-set_other words (peak_word m) (limit_word n) x 0 (λ e. omega arith),
  rows_of-peak tree (n + 1) m x words,
) refl
