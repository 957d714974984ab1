-- Columns from the bytes of their buffers.
use Rattle.std.proofs.Common.{◌≡◌, ℕ, ℤ, ◌+◌, ◌-◌, ◌/◌, ◌<◌, ◌≤◌, ◌==◌, zero, suc, Bool, List, [], ◌∷◌, ◌++◌, length, take, drop, map}
use Rattle.std.proofs.Common.{get_or, All, refl, sym, ◌∙◌, ap, subst, arith, append_assoc, if◌then◌else◌}
use Rattle.std.specs.Int.{w32}
use Rattle.std.specs.List.{flat_map, range_with_len}
use Rattle.std.proofs.Math.Numerals.{add-one}
use Rattle.std.proofs.Math.Seq.{take-append_seam, drop-append_seam}
use Rattle.std.proofs.lemmas.List.{ext_get_or, length-append}
use Rattle.std.proofs.lemmas.List.Elements.{All-head, All-tail}
use Rattle.std.proofs.lemmas.List.FromFn.{get_or-map-range_with_len, length-map-range_with_len}
use Rattle.std.proofs.lemmas.List.Sums.{sum_by-cons}
use Rattle.std.specs.Prelude.{IsUtf8}
use Rattle.csv.specs.Records.{AllText, Rising, cut_from, last_end}
use Rattle.query_model.specs.Buffers.{column_lengths, text_length, texts_length, validity_length}
use Rattle.query_model.specs.Bytes.{bit_at, cells_in, number_at, offset_bytes, text_bytes}
use Rattle.query_model.specs.Cells.{IsOfKind}
use Rattle.query_model.specs.declared.cell.Cell.{Cell}
use Rattle.query_model.specs.declared.cell.Cell.TheVariants.{Null, Int, Sum, Text}
use Rattle.query_model.specs.declared.kind.Kind.{Kind}
use Rattle.query_model.specs.declared.kind.Kind.TheVariants as kind
use Rattle.query_model.proofs.BytesLemmas.{lengths_of, offset_at, read_back}
use Rattle.row_text.specs.Stored.{AreTexts, numbers, texts}
use Rattle.batch_vec.specs.Columns.{IsColumn}
use Rattle.batch_vec.specs.Marks.{is_set}
use Rattle.batch_vec.specs.Numbers.{int_at, int_from, sum_at, sum_from}
use Rattle.batch_vec.specs.Offsets.{end_at}

module _ (kind : Kind) (count : ℕ) (first second : List ℕ) (cells : List Cell) (column : IsColumn kind count first second cells) where
  -- how long the two buffers are
  lengths_both : length first ∷ length second ∷ [] ≡ column_lengths kind cells
  lengths_both = ap (map length) column.bytes ∙ lengths_of kind cells

  -- the cells are what the bytes say
  cells_back : cells_in kind count (first ∷ second ∷ []) ≡ cells
  cells_back = (λ k. cells_in kind (sym column.counted k) (column.bytes k)) ∙ read_back kind cells column.typed column.short

-- a bit is set where it isn't 0
bit_either : {X : Type 0} (bit : ℕ) (x y : X) → bit < 2 → (if bit == 1 then x else y) ≡ (if bit == 0 then y else x)
bit_either zero x y small = refl
bit_either (suc zero) x y small = refl
bit_either (suc (suc bit)) x y small = absurd (omega arith)

-- numbers beside marks, place by place
numbers_ranged : {N : Type 0} (cell : N → Cell) (f : ℕ → N) (g : ℕ → Bool) (a n : ℕ)
    → numbers cell (map f (range_with_len a n)) (map g (range_with_len a n))
    ≡ map (λ i. if g i then cell (f i) else Null) (range_with_len a n)
unfolding numbers
numbers_ranged cell f g a zero = refl
numbers_ranged cell f g a (suc n) = ap (λ rest. (if g a then cell (f a) else Null) ∷ rest) (numbers_ranged cell f g (a + 1) n)

module _ (count : ℕ) (first second : List ℕ) (cells : List Cell) (values : List ℤ) (known : List Bool)
    (marks : known ≡ map (is_set first) (range_with_len 0 count)) where
  -- numbers of 64 bits are read back
  pub ints_counted : IsColumn kind.Int count first second cells → values ≡ map (int_at second) (range_with_len 0 (length second / 8))
      → values ≡ map (int_at second) (range_with_len 0 count)
  ints_counted column are =
      let long = ap (λ list. get_or list 1 0) (lengths_both kind.Int count first second cells column) in
      let counted = column.counted in
      let size : length second / 8 ≡ count = omega (arith, long, counted) in
      are ∙ ap (λ n. map (int_at second) (range_with_len 0 n)) size

  pub ints_marked : IsColumn kind.Int count first second cells → values ≡ map (int_at second) (range_with_len 0 (length second / 8))
      → length values ≡ length known
  ints_marked column are =
      ap length (ints_counted column are) ∙ length-map-range_with_len (int_at second) 0 count
      ∙ sym (ap length marks ∙ length-map-range_with_len (is_set first) 0 count)

  pub ints_back : IsColumn kind.Int count first second cells → values ≡ map (int_at second) (range_with_len 0 (length second / 8))
      → numbers Int values known ≡ cells
  unfolding int_from
  ints_back column are =
      (λ k. numbers Int (ints_counted column are k) (marks k)) ∙ numbers_ranged Int (int_at second) (is_set first) 0 count
      ∙ (λ k. map (λ i. bit_either (bit_at first i) (Int (int_at second i)) Null (omega arith) k) (range_with_len 0 count))
      ∙ cells_back kind.Int count first second cells column

  -- numbers of 128 bits are read back
  pub sums_counted : IsColumn kind.Sum count first second cells → values ≡ map (sum_at second) (range_with_len 0 (length second / 16))
      → values ≡ map (sum_at second) (range_with_len 0 count)
  sums_counted column are =
      let long = ap (λ list. get_or list 1 0) (lengths_both kind.Sum count first second cells column) in
      let counted = column.counted in
      let size : length second / 16 ≡ count = omega (arith, long, counted) in
      are ∙ ap (λ n. map (sum_at second) (range_with_len 0 n)) size

  pub sums_marked : IsColumn kind.Sum count first second cells → values ≡ map (sum_at second) (range_with_len 0 (length second / 16))
      → length values ≡ length known
  sums_marked column are =
      ap length (sums_counted column are) ∙ length-map-range_with_len (sum_at second) 0 count
      ∙ sym (ap length marks ∙ length-map-range_with_len (is_set first) 0 count)

  pub sums_back : IsColumn kind.Sum count first second cells → values ≡ map (sum_at second) (range_with_len 0 (length second / 16))
      → numbers Sum values known ≡ cells
  unfolding sum_from
  sums_back column are =
      (λ k. numbers Sum (sums_counted column are k) (marks k)) ∙ numbers_ranged Sum (sum_at second) (is_set first) 0 count
      ∙ (λ k. map (λ i. bit_either (bit_at first i) (Sum (sum_at second i)) Null (omega arith) k) (range_with_len 0 count))
      ∙ cells_back kind.Sum count first second cells column

-- the validity of numbers has a bit for each
pub ints_enough : (count : ℕ) (first second : List ℕ) (cells : List Cell) → IsColumn kind.Int count first second cells
    → validity_length count ≤ length first
ints_enough count first second cells column =
    let long = ap (λ list. get_or list 0 0) (lengths_both kind.Int count first second cells column) in
    let counted = column.counted in
    omega (arith, long, counted)

pub sums_enough : (count : ℕ) (first second : List ℕ) (cells : List Cell) → IsColumn kind.Sum count first second cells
    → validity_length count ≤ length first
sums_enough count first second cells column =
    let long = ap (λ list. get_or list 0 0) (lengths_both kind.Sum count first second cells column) in
    let counted = column.counted in
    omega (arith, long, counted)

-- where texts end, when the first begins at a place
abbrev ends_from : ℕ → List Cell → List ℕ
ends_from place [] = []
ends_from place (cell ∷ cells) = (place + text_length cell) ∷ ends_from (place + text_length cell) cells

ends_long : (place : ℕ) (cells : List Cell) → length (ends_from place cells) ≡ length cells
ends_long place [] = refl
ends_long place (cell ∷ cells) = ap suc (ends_long (place + text_length cell) cells)

ends_there : (place : ℕ) (cells : List Cell) (i d : ℕ) → i < length cells
    → place + texts_length (take (suc i) cells) ≡ get_or (ends_from place cells) i d
ends_there place [] i d within = absurd (omega arith)
ends_there place (cell ∷ cells) zero d within =
    ap (λ n. place + n) (sum_by-cons text_length cell []) ∙ omega arith
ends_there place (cell ∷ cells) (suc i) d within =
    ap (λ n. place + n) (sum_by-cons text_length cell (take (suc i) cells)) ∙ omega arith
    ∙ ends_there (place + text_length cell) cells i d (omega arith)

ends_rising : (place : ℕ) (cells : List Cell) → Rising place (ends_from place cells) (place + texts_length cells)
unfolding Rising
ends_rising place [] = omega arith
ends_rising place (cell ∷ cells) =
    let size : place + text_length cell + texts_length cells ≡ place + texts_length (cell ∷ cells) =
    (let all = sum_by-cons text_length cell cells in omega (arith, all)) in (
      omega arith,
      subst (Rising (place + text_length cell) (ends_from (place + text_length cell) cells)) size
          (ends_rising (place + text_length cell) cells),
    )

ends_last : (place : ℕ) (cells : List Cell) → last_end place (ends_from place cells) ≡ place + texts_length cells
unfolding last_end
ends_last place [] = omega arith
ends_last place (cell ∷ cells) =
    let all = sum_by-cons text_length cell cells in
    ends_last (place + text_length cell) cells ∙ omega (arith, all)

text_long : (cell : Cell) → length (text_bytes cell) ≡ text_length cell
text_long Null = refl
text_long (Int n) = refl
text_long (Sum n) = refl
text_long (Text bytes) = refl

-- texts that lie one after another are cut where they end
cuts_back : (before : List ℕ) (cells : List Cell)
    → cut_from (length before) (ends_from (length before) cells) (before ++ flat_map text_bytes cells) ≡ map text_bytes cells
unfolding cut_from
cuts_back before [] = refl
cuts_back before (cell ∷ cells) =
    let rest = flat_map text_bytes cells in
    let whole = before ++ (text_bytes cell ++ rest) in
    let next : length before + text_length cell ≡ length (before ++ text_bytes cell) =
    sym (length-append before (text_bytes cell) ∙ ap (λ n. length before + n) (text_long cell)) in
    let size : length before + text_length cell - length before ≡ length (text_bytes cell) = omega arith ∙ sym (text_long cell) in
    let first : take (length before + text_length cell - length before) (drop (length before) whole) ≡ text_bytes cell =
    ap (take (length before + text_length cell - length before)) (drop-append_seam before (text_bytes cell ++ rest))
    ∙ ap (λ n. take n (text_bytes cell ++ rest)) size ∙ take-append_seam (text_bytes cell) rest in
    let others : cut_from (length before + text_length cell) (ends_from (length before + text_length cell) cells) whole
    ≡ map text_bytes cells =
    (λ k. cut_from (next k) (ends_from (next k) cells) (sym (append_assoc before (text_bytes cell) rest) k))
    ∙ cuts_back (before ++ text_bytes cell) cells in
    λ k. first k ∷ others k

all_text : (cells : List Cell) → All (IsOfKind kind.Text) cells → AllText (map text_bytes cells)
unfolding AllText
all_text [] typed = tt
all_text (cell ∷ cells) typed =
    (one cell (All-head (IsOfKind kind.Text) cell cells typed), all_text cells (All-tail (IsOfKind kind.Text) cell cells typed)) where
      one : (cell : Cell) → IsOfKind kind.Text cell → IsUtf8 (text_bytes cell)
      one (Text bytes) is = is
      one Null is = absurd is
      one (Int n) is = absurd is
      one (Sum n) is = absurd is

texts_again : (cells : List Cell) → All (IsOfKind kind.Text) cells → map Text (map text_bytes cells) ≡ cells
texts_again [] typed = refl
texts_again (cell ∷ cells) typed =
    let first = one cell (All-head (IsOfKind kind.Text) cell cells typed) in
    let rest = texts_again cells (All-tail (IsOfKind kind.Text) cell cells typed) in
    (λ k. first k ∷ rest k) where
      one : (cell : Cell) → IsOfKind kind.Text cell → Text (text_bytes cell) ≡ cell
      one (Text bytes) is = refl
      one Null is = absurd is
      one (Int n) is = absurd is
      one (Sum n) is = absurd is

module _ (count : ℕ) (first second : List ℕ) (cells : List Cell) (ends : List ℕ) (column : IsColumn kind.Text count first second cells)
    (are : ends ≡ map (end_at first) (range_with_len 0 (length first / 4 - 1))) where
  ends_back : ends ≡ ends_from 0 cells
  ends_back =
      let long = ap (λ list. get_or list 0 0) (lengths_both kind.Text count first second cells column) in
      let offsets : first ≡ offset_bytes cells = ap (λ list. get_or list 0 []) column.bytes in
      let size : length first / 4 - 1 ≡ length cells = omega (arith, long) in
      let all = length-map-range_with_len (end_at first) 0 (length cells) in
      are ∙ ap (λ n. map (end_at first) (range_with_len 0 n)) size
      ∙ ext_get_or 0 (map (end_at first) (range_with_len 0 (length cells))) (ends_from 0 cells) (all ∙ sym (ends_long 0 cells)) (λ i within.
      let inside : i < length cells = omega (arith, within, all) in
      get_or-map-range_with_len (end_at first) 0 (length cells) i i 0 inside (omega arith)
      ∙ ap (λ list. number_at w32 list (i + 1)) offsets ∙ offset_at cells column.short (i + 1) (omega arith)
      ∙ ap (λ n. texts_length (take n cells)) (add-one i) ∙ omega arith ∙ ends_there 0 cells i 0 inside)

  texts_bytes : second ≡ flat_map text_bytes cells
  texts_bytes = ap (λ list. get_or list 1 []) column.bytes

  -- texts are read back
  pub texts_back : texts second ends ≡ cells
  texts_back =
      (λ k. map Text (cut_from 0 (ends_back k) (texts_bytes k))) ∙ ap (map Text) (cuts_back [] cells) ∙ texts_again cells column.typed

  pub texts_are : AreTexts second ends
  texts_are =
      let long = ap (λ list. get_or list 1 0) (lengths_both kind.Text count first second cells column) in
      let none : 0 + texts_length cells ≡ length second = omega (arith, long) in
      record {
        rising = subst (λ list. Rising 0 list (length second)) (sym ends_back)
            (subst (Rising 0 (ends_from 0 cells)) none (ends_rising 0 cells));
        whole = ap (last_end 0) ends_back ∙ ends_last 0 cells ∙ none;
        text = subst AllText (sym ((λ k. cut_from 0 (ends_back k) (texts_bytes k)) ∙ cuts_back [] cells)) (all_text cells column.typed);
      }
