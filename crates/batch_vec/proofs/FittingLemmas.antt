-- Whether buffers fit.
use Rattle.std.proofs.Common.{◌≡◌, ℕ, ℤ, ◌+◌, ◌-◌, ◌*◌, ◌≤◌, Bool, List, [], ◌∷◌, ◌++◌, length, drop, map, get_or, All, sym, ◌∙◌, ap}
use Rattle.std.proofs.Common.{subst, arith}
use Rattle.std.proofs.Math.Numerals.{add-one}
use Rattle.std.proofs.Math.Seq.{drop-cons}
use Rattle.std.proofs.lemmas.List.{drop_all, length-drop, length-map, length-take}
use Rattle.std.proofs.lemmas.List.Elements.{All-append, All-cons, All-head, All-nil, All-tail}
use Rattle.csv.specs.Records.{Rising, cut_from, last_end}
use Rattle.mem_num.specs.declared.bounds.TheConstants.{LARGEST}
use Rattle.query_model.specs.Buffers.{buffer_lengths, column_lengths, lengths_from, texts_length}
use Rattle.query_model.specs.declared.cell.Cell.TheVariants.{Int, Sum, Text}
use Rattle.query_model.specs.declared.kind.Kind.TheVariants as kind
use Rattle.query_model.proofs.BytesLemmas.{lengths_of}
use Rattle.row_text.specs.declared.column_slice.ColumnSlice.{ColumnSlice}
use Rattle.row_text.specs.Rows.{Table}
use Rattle.row_text.specs.Slices.{IsColumnOf, cells_of_slice, kind_of}
use Rattle.row_text.specs.Stored.{numbers}
use Rattle.row_text.proofs.SliceLemmas.{cuts-length, numbers-length}
use Rattle.batch_vec.proofs.EncodingLemmas.{end_within, texts_cut}
use Rattle.batch_vec.proofs.StoredLemmas.{get-there}

-- no buffer has more bytes than it may have
abbrev pub Fit : List ℕ → Type 0
Fit lengths = All (λ length. length ≤ LARGEST) lengths

both_fit : (a b : ℕ) → a ≤ LARGEST → b ≤ LARGEST → Fit (a ∷ b ∷ [])
both_fit a b first second =
    All-cons (λ n. n ≤ LARGEST) a (b ∷ []) first (All-cons (λ n. n ≤ LARGEST) b [] second (All-nil _))

second_fits : (a b : ℕ) → Fit (a ∷ b ∷ []) → b ≤ LARGEST
second_fits a b fit = All-head (λ n. n ≤ LARGEST) b [] (All-tail (λ n. n ≤ LARGEST) a (b ∷ []) fit)

first_fits : (a b : ℕ) → Fit (a ∷ b ∷ []) → a ≤ LARGEST
first_fits a b fit = All-head (λ n. n ≤ LARGEST) a (b ∷ []) fit

-- numbers fit where their data does
module _ (values : List ℤ) (known : List Bool) (same : length values ≡ length known) where
  pub ints_fit : 8 * length values ≤ LARGEST → Fit (column_lengths kind.Int (numbers Int values known))
  ints_fit small =
      let long = numbers-length Int values known same in
      both_fit _ _ (omega (arith, small, long)) (omega (arith, small, long))

  pub ints_did : Fit (column_lengths kind.Int (numbers Int values known)) → 8 * length values ≤ LARGEST
  ints_did fit = let long = numbers-length Int values known same in let data_fits = second_fits _ _ fit in omega (arith, data_fits, long)

  pub sums_fit : 16 * length values ≤ LARGEST → Fit (column_lengths kind.Sum (numbers Sum values known))
  sums_fit small =
      let long = numbers-length Sum values known same in
      both_fit _ _ (omega (arith, small, long)) (omega (arith, small, long))

  pub sums_did : Fit (column_lengths kind.Sum (numbers Sum values known)) → 16 * length values ≤ LARGEST
  sums_did fit = let long = numbers-length Sum values known same in let data_fits = second_fits _ _ fit in omega (arith, data_fits, long)

-- texts fit where their places and their bytes do
module _ (start : ℕ) (ends bytes : List ℕ) (rising : Rising start ends (length bytes)) where
  texts_many : length (map Text (cut_from start ends bytes)) ≡ length ends
  texts_many = length-map (cut_from start ends bytes) Text ∙ cuts-length start ends bytes

  texts_size : texts_length (map Text (cut_from start ends bytes)) ≡ last_end start ends - start
  texts_size =
      let cells = map Text (cut_from start ends bytes) in
      let long = ap (λ list. get_or list 1 0) (lengths_of kind.Text cells) in
      let cut = ap length (texts_cut start ends bytes rising) in
      let within = end_within start ends (length bytes) rising in
      let taken = length-take (last_end start ends - start) (drop start bytes) in
      let dropped = length-drop start bytes in
      sym long ∙ sym cut ∙ taken ∙ omega (arith, dropped, within)

  pub texts_fit : 4 * (length ends + 1) ≤ LARGEST → last_end start ends - start ≤ LARGEST
      → Fit (column_lengths kind.Text (map Text (cut_from start ends bytes)))
  texts_fit places small =
      both_fit _ _ (omega (arith, places, texts_many)) (omega (arith, small, texts_size))

  pub texts_did : Fit (column_lengths kind.Text (map Text (cut_from start ends bytes)))
      → (4 * (length ends + 1) ≤ LARGEST) × (last_end start ends - start ≤ LARGEST)
  texts_did fit =
      let first = first_fits _ _ fit in
      let second = second_fits _ _ fit in
      (omega (arith, first, texts_many), omega (arith, second, texts_size))

-- the buffers of all columns fit where those of the columns from a place on do
pub record LeftFit (table : Table) (place : ℕ) : Type 0 where
  pub fit : Fit (lengths_from place (drop place table.kinds) table.rows) → Fit (buffer_lengths table.kinds table.rows)
  pub did : Fit (buffer_lengths table.kinds table.rows) → Fit (lengths_from place (drop place table.kinds) table.rows)

pub LeftFit-none : (table : Table) → LeftFit table 0
LeftFit-none table = record { fit = λ all. all; did = λ all. all }

-- two parts that fit
all_left : (xs ys : List ℕ) → Fit (xs ++ ys) → Fit xs
all_left [] ys all = All-nil _
all_left (x ∷ xs) ys all = All-cons (λ n. n ≤ LARGEST) x xs (All-head (λ n. n ≤ LARGEST) x (xs ++ ys) all)
    (all_left xs ys (All-tail (λ n. n ≤ LARGEST) x (xs ++ ys) all))

all_right : (xs ys : List ℕ) → Fit (xs ++ ys) → Fit ys
all_right [] ys all = all
all_right (x ∷ xs) ys all = all_right xs ys (All-tail (λ n. n ≤ LARGEST) x (xs ++ ys) all)

module _ (table : Table) (place : ℕ) (slice : ColumnSlice) (column : IsColumnOf table place slice) where
  -- the next column and the others
  left_split : lengths_from place (drop place table.kinds) table.rows
      ≡ column_lengths (kind_of slice) (cells_of_slice slice) ++ lengths_from (place + 1) (drop (place + 1) table.kinds) table.rows
  left_split =
      let there = get-there table.kinds place (kind_of slice) (kind_of slice) column.kind in
      let next : drop place table.kinds ≡ kind_of slice ∷ drop (place + 1) table.kinds =
      drop-cons table.kinds place (kind_of slice) column.within ∙ (λ k. there k ∷ drop (sym (add-one place) k) table.kinds) in
      ap (λ kinds. lengths_from place kinds table.rows) next
      ∙ (λ k. column_lengths (kind_of slice) (sym column.cells k) ++ lengths_from (place + 1) (drop (place + 1) table.kinds) table.rows)

  pub LeftFit-one : LeftFit table place → Fit (column_lengths (kind_of slice) (cells_of_slice slice)) → LeftFit table (place + 1)
  LeftFit-one left first = record {
    fit = λ rest. left.fit (subst Fit (sym left_split) (All-append (λ n. n ≤ LARGEST) _ _ first rest));
    did = λ all. all_right _ _ (subst Fit left_split (left.did all));
  }

  pub LeftFit-not : {P : Type 0} → LeftFit table place → (Fit (column_lengths (kind_of slice) (cells_of_slice slice)) → P)
      → Fit (buffer_lengths table.kinds table.rows) → P
  LeftFit-not left not all = not (all_left _ _ (subst Fit left_split (left.did all)))

pub LeftFit-all : (table : Table) (place : ℕ) → LeftFit table place → length table.kinds ≤ place
    → Fit (buffer_lengths table.kinds table.rows)
LeftFit-all table place left past =
    left.fit (subst (λ kinds. Fit (lengths_from place kinds table.rows)) (sym (drop_all place table.kinds past)) (All-nil _))
