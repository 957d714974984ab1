-- The words of the opening, filled from the last allocator to the first.
use Rattle.std.proofs.Common.{zero, suc, ◌≡◌, ℕ, ◌+◌, ◌*◌, ◌^◌, ◌<◌, ◌≤◌, ◌≢◌, Bool, true, false, cond, Option, None, List, ◌∷◌, length}
use Rattle.std.proofs.Common.{set, slice_index, drop, take, Some, sum, sum_by, refl, sym, ap, ◌∙◌, subst, arith, ⊎_elim, max, length-set}
use Rattle.std.proofs.Common.{get_or-set_same, get_or-set_other, replicate, eq-eqb, ne_eqb, mul-le-mul_right}
use Rattle.std.proofs.Math.Seq.{drop-cons, drop-length}
use Rattle.std.proofs.lemmas.Bool.{cases_eq, cases_lt}
use Rattle.std.proofs.lemmas.List.{take-append-drop, get_or-replicate, get_or_past, length-replicate}
use Rattle.std.proofs.lemmas.List.Sums.{sum-map, sum_by-append, sum_by-cons, sum_by-le}
use Rattle.std.proofs.lemmas.List.Elements.{All-weaker}
use Rattle.mem_model.specs.Reservation.{counted_at_parent}
use Rattle.acct_core.specs.declared.row.Row.{Row}
use Rattle.acct_core.specs.Balance.{child_count}
use Rattle.acct_core.specs.Rows.{is_at}
use Rattle.acct_words.specs.declared.fixed.Fixed.{Fixed}
use Rattle.acct_words.specs.Places.{number_word, held_word, limit_word, peak_word, reservation_word, parent_word}
use Rattle.acct_words.specs.Rows.{no_node, node, parent_of, row_of, rows_of, fixed_in, HasParentsBefore}
use Rattle.acct_words.specs.Rule.{reservations}
use Rattle.acct_words.specs.Openings.{ReservesWithinLimit, ComeAfterParents, IsFixedTree, AreOpeningWords, held_below, AreFilledFrom}
use Rattle.acct_words.proofs.RowLemmas.{rows_of-before, fixed_in-held}

-- the number that there is, or 0
abbrev or_zero : Option ℕ → ℕ
or_zero None = 0
or_zero (Some n) = n

-- a parent comes before, also where there is no allocator
pub parents_before : (tree : List Fixed) → ComeAfterParents tree → HasParentsBefore tree
parents_before tree after zero p e = absurd cc
parents_before tree after (suc n) p e = ⊎_elim
    (λ (there : suc n < length tree). (let b = after (suc n) (omega arith) there in let q = some_is e in omega arith))
    (λ (past : length tree ≤ suc n). (
    let z : node tree (suc n) ≡ no_node = get_or_past tree (suc n) no_node past in
    let b : (node tree (suc n)).parent.0 ≡ 0 = ap (λ (f : Fixed). f.parent.0) z in let q = some_is e in omega arith))
    (cases_lt (suc n) (length tree))
  where
    some_is : Some (node tree (suc n)).parent.0 ≡ Some p → (node tree (suc n)).parent.0 ≡ p
    some_is e = ap (λ (o : Option ℕ). or_zero o) e

-- a write to another word than a held one leaves what is held
below-other : (words : List ℕ) (i x n : ℕ) → ((m : ℕ) → m < n → held_word m ≢ i) → held_below (set words i x) n ≡ held_below words n
below-other words i x zero h = refl
below-other words i x (suc n) h =
    let a = below-other words i x n (λ m l. h m (omega arith)) in
    let b = get_or-set_other words i (held_word n) x 0 (h n (omega arith)) in omega arith

-- what is added at one allocator is held there
below-add : (words : List ℕ) (p x n : ℕ) → p < n → held_word p < length words →
    held_below (set words (held_word p) (slice_index words (held_word p) + x)) n ≡ held_below words n + x
below-add words p x zero h there = absurd (omega arith)
below-add words p x (suc n) h there = ⊎_elim
    (λ (l : p < n). (
    let a = below-add words p x n l there in
    let b = get_or-set_other words (held_word p) (held_word n) (slice_index words (held_word p) + x) 0 (λ e. omega arith) in omega arith))
    (λ (l : n ≤ p). (
    let e : p ≡ n = omega arith in
    let a = below-other words (held_word p) (slice_index words (held_word p) + x) n (λ m q r. omega arith) in
    let b = get_or-set_same words (held_word p) (slice_index words (held_word p) + x) 0 there in
    let c = ap (λ (k : ℕ). slice_index words (held_word k)) e in
    let d = ap (λ (k : ℕ). slice_index (set words (held_word p) (slice_index words (held_word p) + x)) (held_word k)) e in omega arith))
    (cases_lt p n)

-- one allocator holds no more than all
below-at : (words : List ℕ) (p n : ℕ) → p < n → slice_index words (held_word p) ≤ held_below words n
below-at words p zero h = absurd (omega arith)
below-at words p (suc n) h = ⊎_elim
    (λ (l : p < n). let a = below-at words p n l in omega arith)
    (λ (l : n ≤ p). let e : p ≡ n = omega arith in let c = ap (λ (k : ℕ). slice_index words (held_word k)) e in omega arith)
    (cases_lt p n)

-- the reservations of the last allocators
abbrev reserved_from : List Fixed → ℕ → ℕ
reserved_from tree n = sum (reservations (drop n tree))

-- with one more
reserved-cons : (tree : List Fixed) (n : ℕ) → n < length tree → reserved_from tree n ≡ (node tree n).reservation
    + reserved_from tree (suc n)
reserved-cons tree n h = ap (λ (l : List Fixed). sum (reservations l)) (drop-cons tree n no_node h) ∙ (
    let a = sum-map (λ (f : Fixed). f.reservation) (node tree n ∷ drop (suc n) tree) in
    let b = sum-map (λ (f : Fixed). f.reservation) (drop (suc n) tree) in
    let c = sum_by-cons (λ (f : Fixed). f.reservation) (node tree n) (drop (suc n) tree) in omega arith)

-- they are at most all
reserved-le : (tree : List Fixed) (n : ℕ) → reserved_from tree n ≤ sum (reservations tree)
reserved-le tree n =
    let a = sum-map (λ (f : Fixed). f.reservation) (drop n tree) in
    let b = sum-map (λ (f : Fixed). f.reservation) tree in
    let c = sum_by-append (λ (f : Fixed). f.reservation) (take n tree) (drop n tree) in
    let d = ap (λ (l : List Fixed). sum_by (λ (f : Fixed). f.reservation) l) (take-append-drop n tree) in omega arith

-- all reservations are small
pub reservations_small : (tree : List Fixed) → IsFixedTree tree → sum (reservations tree) ≤ 2 ^ 46
reservations_small tree t =
    let a = sum-map (λ (f : Fixed). f.reservation) tree in
    let b = sum_by-le (λ (f : Fixed). f.reservation) (2 ^ 40) tree
    (All-weaker ReservesWithinLimit (λ (f : Fixed). f.reservation ≤ 2 ^ 40) (λ f w. w.1) tree t.within) in
    let c = mul-le-mul_right (2 ^ 40) t.few in omega arith

-- what a row counts for at the parent of a number, and elsewhere
count_is : (tree : List Fixed) (n held limit m : ℕ) →
    child_count m (row_of n (node tree n) held limit) ≡ cond (is_at (parent_of n (node tree n)) m)
    (counted_at_parent (node tree n).reservation held) 0
count_is tree n held limit m = refl

module _ (tree : List Fixed) (t : IsFixedTree tree) (n : ℕ) (there : n < length tree) (words : List ℕ)
    (filled : AreFilledFrom tree (n + 1) words) where
  -- the words with what is fixed of n written
  abbrev limited : List ℕ
  limited = set (set (set words (limit_word n) (node tree n).limit) (reservation_word n) (node tree n).reservation) (parent_word n)
      (node tree n).parent.0

  -- a word that is none of these is as before
  limited-other : (i : ℕ) → i ≢ limit_word n → i ≢ reservation_word n → i ≢ parent_word n → slice_index limited i ≡ slice_index words i
  limited-other i l r p =
      get_or-set_other (set (set words (limit_word n) (node tree n).limit) (reservation_word n) (node tree n).reservation) (parent_word n) i
      (node tree n).parent.0 0 p
      ∙ get_or-set_other (set words (limit_word n) (node tree n).limit) (reservation_word n) i (node tree n).reservation 0 r
      ∙ get_or-set_other words (limit_word n) i (node tree n).limit 0 l

  -- there are as many
  limited-length : length limited ≡ length words
  limited-length = length-set (set (set words (limit_word n) (node tree n).limit) (reservation_word n) (node tree n).reservation)
      (parent_word n) (node tree n).parent.0
      ∙ length-set (set words (limit_word n) (node tree n).limit) (reservation_word n) (node tree n).reservation
      ∙ length-set words (limit_word n) (node tree n).limit

  -- the number after n
  next_is : suc n ≡ n + 1
  next_is = omega arith

  -- the places of what is written are there
  pub limit_there : limit_word n < length words
  limit_there = let w = filled.wide in omega arith

  pub reservation_there : reservation_word n < length (set words (limit_word n) (node tree n).limit)
  reservation_there = let w = filled.wide in let e = length-set words (limit_word n) (node tree n).limit in omega arith

  pub parent_word_there : parent_word n
      < length (set (set words (limit_word n) (node tree n).limit) (reservation_word n) (node tree n).reservation)
  parent_word_there = let w = filled.wide in let e = length-set words (limit_word n) (node tree n).limit in
      let f = length-set (set words (limit_word n) (node tree n).limit) (reservation_word n) (node tree n).reservation in omega arith

  -- held words are as before
  held_limited : (m : ℕ) → slice_index limited (held_word m) ≡ slice_index words (held_word m)
  held_limited m = limited-other (held_word m) (λ e. omega arith) (λ e. omega arith) (λ e. omega arith)

  -- and what is held below
  below_limited : (k : ℕ) → held_below limited k ≡ held_below words k
  below_limited k =
      let one = set words (limit_word n) (node tree n).limit in
      let two = set one (reservation_word n) (node tree n).reservation in
      below-other two (parent_word n) (node tree n).parent.0 k (λ m l e. omega arith)
      ∙ below-other one (reservation_word n) (node tree n).reservation k (λ m l e. omega arith)
      ∙ below-other words (limit_word n) (node tree n).limit k (λ m l e. omega arith)

  -- what is fixed of n is there
  fixed_here : fixed_in n limited ≡ node tree n
  fixed_here =
      let one = set words (limit_word n) (node tree n).limit in
      let two = set one (reservation_word n) (node tree n).reservation in
      λ j. record {
        parent = record { 0 = get_or-set_same two (parent_word n) (node tree n).parent.0 0 parent_word_there j };
        reservation = (get_or-set_other two (parent_word n) (reservation_word n) (node tree n).parent.0 0 (λ e. omega arith)
            ∙ get_or-set_same one (reservation_word n) (node tree n).reservation 0 reservation_there) j;
        limit = (get_or-set_other two (parent_word n) (limit_word n) (node tree n).parent.0 0 (λ e. omega arith)
            ∙ get_or-set_other one (reservation_word n) (limit_word n) (node tree n).reservation 0 (λ e. omega arith)
            ∙ get_or-set_same words (limit_word n) (node tree n).limit 0 limit_there) j;
      }

  -- and of all from n on
  fixed_limited : (m : ℕ) → n ≤ m → m < length tree → fixed_in m limited ≡ node tree m
  fixed_limited m h l = ⊎_elim
      (λ (s : n < m). (λ j. record {
        parent = record { 0 = limited-other (parent_word m) (λ e. omega arith) (λ e. omega arith) (λ e. omega arith) j };
        reservation = limited-other (reservation_word m) (λ e. omega arith) (λ e. omega arith) (λ e. omega arith) j;
        limit = limited-other (limit_word m) (λ e. omega arith) (λ e. omega arith) (λ e. omega arith) j;
      }) ∙ filled.fixed m (omega arith) l)
      (λ (s : m ≤ n). (let e : n ≡ m = omega arith in subst (λ (k : ℕ). fixed_in k limited ≡ node tree k) e fixed_here))
      (cases_lt n m)

  -- the rows from n on, after writes to words before those of the next
  rows_more : (after : List ℕ) → rows_of (drop (suc n) tree) (n + 1) after ≡ rows_of (drop (n + 1) tree) (n + 1) words
      → rows_of (drop n tree) n after ≡ row_of n (node tree n) (slice_index after (held_word n)) (slice_index after (limit_word n)) ∷
      rows_of (drop (n + 1) tree) (n + 1) words
  rows_more after e = ap (λ (l : List Fixed). rows_of l n after) (drop-cons tree n no_node there)
      ∙ ap (λ (l : List Row). row_of n (node tree n) (slice_index after (held_word n)) (slice_index after (limit_word n)) ∷ l) e

  -- what the children from n on count for
  counts_more : (after : List ℕ) (m : ℕ) → rows_of (drop (suc n) tree) (n + 1) after ≡ rows_of (drop (n + 1) tree) (n + 1) words
      → sum_by (child_count m) (rows_of (drop n tree) n after)
      ≡ cond (is_at (parent_of n (node tree n)) m) (counted_at_parent (node tree n).reservation (slice_index after (held_word n))) 0
      + sum_by (child_count m) (rows_of (drop (n + 1) tree) (n + 1) words)
  counts_more after m e = ap (sum_by (child_count m)) (rows_more after e)
      ∙ sum_by-cons (child_count m) (row_of n (node tree n) (slice_index after (held_word n)) (slice_index after (limit_word n)))
      (rows_of (drop (n + 1) tree) (n + 1) words)

  -- the later rows don't read the limit
  later_limited : rows_of (drop (suc n) tree) (n + 1) limited ≡ rows_of (drop (n + 1) tree) (n + 1) words
  later_limited =
      let one = set words (limit_word n) (node tree n).limit in
      let two = set one (reservation_word n) (node tree n).reservation in
      ap (λ (k : ℕ). rows_of (drop k tree) (n + 1) limited) next_is
      ∙ rows_of-before (drop (n + 1) tree) (n + 1) (parent_word n) (node tree n).parent.0 two (omega arith)
      ∙ rows_of-before (drop (n + 1) tree) (n + 1) (reservation_word n) (node tree n).reservation one (omega arith)
      ∙ rows_of-before (drop (n + 1) tree) (n + 1) (limit_word n) (node tree n).limit words (omega arith)

  -- the root has no parent at which it counts
  pub filled_root : n ≡ 0 → AreFilledFrom tree n limited
  filled_root zero_is = record {
    wide = limited-length ∙ filled.wide;
    number = limited-other number_word (λ e. omega arith) (λ e. omega arith) (λ e. omega arith) ∙ filled.number;
    held = λ m l. (
        let a = held_limited m in let b = filled.held m l in let c = counts_more limited m later_limited in
        let d : cond (is_at (parent_of n (node tree n)) m) (counted_at_parent (node tree n).reservation
        (slice_index limited (held_word n))) 0 ≡ 0 = rw zero_is refl in omega arith);
    fixed = fixed_limited;
    peaks = λ m. limited-other (peak_word m) (λ e. omega arith) (λ e. omega arith) (λ e. omega arith) ∙ filled.peaks m;
    reserved = rw zero_is (omega arith);
  }

  module _ (later : 1 ≤ n) where
    abbrev p : ℕ
    p = (node tree n).parent.0

    abbrev counted : ℕ
    counted = max (slice_index words (held_word n)) (node tree n).reservation

    -- it has a parent
    parent_is : parent_of n (node tree n) ≡ Some p
    parent_is = by n later
      where
        by : (k : ℕ) → 1 ≤ k → parent_of k (node tree n) ≡ Some p
        by zero h = absurd (omega arith)
        by (suc k) h = refl

    pub parent_before : p < n
    parent_before = t.parents n later there

    -- the parent's sum doesn't wrap
    pub counted_small : slice_index words (held_word p) + counted ≤ 2 ^ 46
    counted_small =
        let h = parent_before in
        let a = below-at words p n h in
        let b : held_below words (suc n) ≤ reserved_from tree (suc n) = subst (λ (k : ℕ). held_below words k ≤ reserved_from tree k)
        (sym next_is) filled.reserved in
        let c = reserved-cons tree n there in let d = reserved-le tree n in let e = reservations_small tree t in omega arith

    abbrev added : List ℕ
    added = set limited (held_word p) (slice_index words (held_word p) + counted)

    pub parent_there : held_word p < length limited
    parent_there = let h = parent_before in let w = filled.wide in let e = limited-length in omega arith

    added_is : added ≡ set limited (held_word p) (slice_index limited (held_word p) + counted)
    added_is = ap (λ (x : ℕ). set limited (held_word p) (x + counted)) (sym (held_limited p))

    -- other held words are as before
    held_else : (m : ℕ) → m ≢ p → slice_index added (held_word m) ≡ slice_index words (held_word m)
    held_else m ne = get_or-set_other limited (held_word p) (held_word m) (slice_index words (held_word p) + counted) 0
        (λ e. ne (omega arith)) ∙ held_limited m

    later_added : rows_of (drop (suc n) tree) (n + 1) added ≡ rows_of (drop (n + 1) tree) (n + 1) words
    later_added = ap (λ (k : ℕ). rows_of (drop k tree) (n + 1) added) next_is
        ∙ rows_of-before (drop (n + 1) tree) (n + 1) (held_word p) (slice_index words (held_word p) + counted) limited (let h =
        parent_before in omega arith)
        ∙ ap (λ (k : ℕ). rows_of (drop k tree) (n + 1) limited) (sym next_is) ∙ later_limited

    -- what n counts for
    at_parent : (m : ℕ) → (b : Bool) → is_at (Some p) m ≡ b
        → cond (is_at (parent_of n (node tree n)) m) (counted_at_parent (node tree n).reservation (slice_index added (held_word n))) 0
        ≡ cond b counted 0
    at_parent m b e = rw (parent_is, e, held_else n (λ q. (let h = parent_before in omega arith))) (same b)
      where
        same : (c : Bool) → cond c (counted_at_parent (node tree n).reservation (slice_index words (held_word n))) 0 ≡ cond c counted 0
        same true = omega arith
        same false = refl

    -- an allocator is counted at its parent
    pub filled_more : AreFilledFrom tree n added
    filled_more = record {
      wide = length-set limited (held_word p) (slice_index words (held_word p) + counted) ∙ limited-length ∙ filled.wide;
      number = get_or-set_other limited (held_word p) number_word (slice_index words (held_word p) + counted) 0 (λ e. omega arith)
          ∙ limited-other number_word (λ e. omega arith) (λ e. omega arith) (λ e. omega arith) ∙ filled.number;
      held = λ m l. ⊎_elim (at_m m l) (off_m m l) (cases_eq m p);
      fixed = λ m h l. fixed_in-held m p (slice_index words (held_word p) + counted) limited ∙ fixed_limited m h l;
      peaks = λ m. get_or-set_other limited (held_word p) (peak_word m) (slice_index words (held_word p) + counted) 0 (λ e. omega arith)
          ∙ limited-other (peak_word m) (λ e. omega arith) (λ e. omega arith) (λ e. omega arith) ∙ filled.peaks m;
      reserved = (
          let h = parent_before in
          let a = below-add limited p counted n h parent_there in
          let b = ap (λ (w : List ℕ). held_below w n) added_is in
          let c = below_limited n in
          let d : held_below words (suc n) ≤ reserved_from tree (suc n) = subst (λ (k : ℕ). held_below words k ≤ reserved_from tree k)
          (sym next_is) filled.reserved in
          let e = reserved-cons tree n there in omega arith);
    }
      where
        at_m : (m : ℕ) → m < length tree → m ≡ p → slice_index added (held_word m) ≡ sum_by (child_count m) (rows_of (drop n tree) n added)
        at_m m l e =
            let a = get_or-set_same limited (held_word p) (slice_index words (held_word p) + counted) 0 parent_there in
            let b = ap (λ (k : ℕ). slice_index added (held_word k)) e in
            let c = ap (λ (k : ℕ). slice_index words (held_word k)) e in
            let d = filled.held m l in
            let f = counts_more added m later_added in
            let g = at_parent m true (rw e (eq-eqb p p refl)) in omega arith

        off_m : (m : ℕ) → m < length tree → m ≢ p → slice_index added (held_word m) ≡ sum_by (child_count m) (rows_of (drop n tree) n added)
        off_m m l ne =
            let a = held_else m ne in
            let d = filled.held m l in
            let f = counts_more added m later_added in
            let g = at_parent m false (ne_eqb p m (λ e. ne (sym e))) in omega arith

    -- the same, with what the code reads once the limit is written
    module _ (x : ℕ) (is : x ≡ max (slice_index limited (held_word n)) (node tree n).reservation) where
      counted_is : x ≡ counted
      counted_is = is ∙ ap (λ (h : ℕ). max h (node tree n).reservation) (held_limited n)

      pub sum_small : slice_index limited (held_word p) + x < 2 ^ 64
      sum_small = let a = counted_small in let b = counted_is in let c = held_limited p in omega arith

      pub filled_then : AreFilledFrom tree n (set limited (held_word p) (slice_index limited (held_word p) + x))
      filled_then = subst (λ (w : List ℕ). AreFilledFrom tree n w)
          (λ j. set limited (held_word p) (sym (held_limited p) j + sym counted_is j)) filled_more

-- words of zeros hold nothing
zeros_at : (n i : ℕ) → slice_index (replicate n 0) i ≡ 0
zeros_at n i = ⊎_elim (λ (h : i < n). get_or-replicate n i 0 0 h)
    (λ (h : n ≤ i). get_or_past (replicate n 0) i 0 (subst (λ (k : ℕ). k ≤ i) (sym (length-replicate n 0)) h)) (cases_lt i n)

-- words without anything but the first number
pub filled_none : (tree : List Fixed) (words : List ℕ) → words ≡ replicate (16 * length tree + 32) 0 →
    AreFilledFrom tree (length tree) (set words 16 1)
filled_none tree words e = record {
  wide = length-set words 16 1 ∙ wide_zeros;
  number = get_or-set_same words 16 1 0 (let w = wide_zeros in omega arith);
  held = λ n l. zeros n ∙ sym (ap (λ (t : List Fixed). sum_by (child_count n) (rows_of t (length tree) (set words 16 1)))
      (drop-length tree));
  fixed = λ n h l. absurd (omega arith);
  peaks = λ n. get_or-set_other words 16 (peak_word n) 1 0 (λ q. omega arith) ∙ ap (λ (w : List ℕ). slice_index w (peak_word n)) e
      ∙ zeros_at (16 * length tree + 32) (peak_word n);
  reserved = (let z = none (length tree) in omega arith);
}
  where
    wide_zeros : length words ≡ 16 * length tree + 32
    wide_zeros = ap length e ∙ length-replicate (16 * length tree + 32) 0

    zeros : (n : ℕ) → slice_index (set words 16 1) (held_word n) ≡ 0
    zeros n = get_or-set_other words 16 (held_word n) 1 0 (λ q. omega arith) ∙ ap (λ (w : List ℕ). slice_index w (held_word n)) e
        ∙ zeros_at (16 * length tree + 32) (held_word n)

    none : (n : ℕ) → held_below (set words 16 1) n ≡ 0
    none zero = refl
    none (suc n) = let a = none n in let b = zeros n in omega arith

-- words that are filled from the first allocator on are those of the opening
pub filled_all : (tree : List Fixed) (words : List ℕ) → AreFilledFrom tree 0 words → AreOpeningWords tree words
filled_all tree words f = record {
  wide = f.wide;
  number = f.number;
  held = f.held;
  fixed = λ n l. f.fixed n (omega arith) l;
  peaks = f.peaks;
}
