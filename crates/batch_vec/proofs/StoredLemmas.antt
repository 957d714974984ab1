-- Rows that buffers hold, and how long these are.
use Rattle.std.proofs.Common.{◌≡◌, ℕ, ◌+◌, ◌*◌, ◌≤◌, zero, suc, List, [], ◌∷◌, ◌++◌, length, take, drop, map, get_or, All, refl, sym, ◌∙◌}
use Rattle.std.proofs.Common.{ap, subst, arith, append_assoc}
use Rattle.std.proofs.Math.Numerals.{add-one}
use Rattle.std.proofs.Math.Seq.{drop-cons}
use Rattle.std.proofs.lemmas.List.{map-append, take_more, append-nil, length-append, take_all, drop_all, length-map}
use Rattle.std.proofs.lemmas.List.Elements.{All-cons, All-head, All-nil, All-tail}
use Rattle.std.proofs.lemmas.List.Sums.{sum_by-cons}
use Rattle.std.specs.Prelude.{Some, Vec, slice_get}
use Rattle.std.specs.declared.alloc.Global.{Global}
use Rattle.query_model.specs.Buffers.{column_lengths, lengths_from, text_length, texts_length}
use Rattle.query_model.specs.Bytes.{cells_in, column_bytes}
use Rattle.query_model.specs.Cells.{IsOfKind, column_of}
use Rattle.query_model.specs.declared.bounds.TheConstants.{MOST_TEXT_BYTES}
use Rattle.query_model.specs.declared.cell.Cell.{Cell}
use Rattle.query_model.specs.declared.cell.Cell.TheVariants.{Null, Int, Sum, Text}
use Rattle.query_model.specs.declared.kind.Kind.{Kind}
use Rattle.query_model.specs.declared.kind.Kind.TheVariants as kind
use Rattle.query_model.proofs.BytesLemmas.{lengths_of, read_back}
use Rattle.row_text.specs.declared.column_slice.ColumnSlice.{ColumnSlice}
use Rattle.row_text.specs.Rows.{Table, rows_from}
use Rattle.row_text.specs.Slices.{IsColumnOf, cells_of_slice, kind_of}
use Rattle.batch_vec.specs.Columns.{IsStored, buffer_bytes, bytes_from, columns_in, rows_in}
use Rattle.batch_vec.proofs.RowLemmas.{IsRowFrom, columns_from, each_first, each_rest, rows_of_columns}

-- the buffers of rows are as long as was said
pub lengths_there : (column : ℕ) (kinds : List Kind) (rows : List (List Cell))
    → map length (bytes_from column kinds rows) ≡ lengths_from column kinds rows
lengths_there column [] rows = refl
lengths_there column (kind ∷ kinds) rows =
    map-append length (column_bytes kind (column_of column rows)) (bytes_from (column + 1) kinds rows)
    ∙ (λ k. lengths_of kind (column_of column rows) k ++ lengths_there (column + 1) kinds rows k)

-- numbers have no text
pub no_texts : (kind : Kind) (cells : List Cell) → All (IsOfKind kind) cells
    → All (λ length. length ≤ MOST_TEXT_BYTES) (column_lengths kind cells)
    → texts_length cells ≤ MOST_TEXT_BYTES
no_texts kind.Text cells typed short = All-head (λ length. length ≤ MOST_TEXT_BYTES) (texts_length cells) []
    (All-tail (λ length. length ≤ MOST_TEXT_BYTES) (4 * (length cells + 1)) (texts_length cells ∷ []) short)
no_texts kind.Int cells typed short = let none = ints cells typed in omega (arith, none) where
  ints : (cells : List Cell) → All (IsOfKind kind.Int) cells → texts_length cells ≡ 0
  ints [] typed = refl
  ints (Null ∷ cells) typed = sum_by-cons text_length Null cells
      ∙ ap (λ n. 0 + n) (ints cells (All-tail (IsOfKind kind.Int) Null cells typed))
  ints (Int n ∷ cells) typed = sum_by-cons text_length (Int n) cells
      ∙ ap (λ n. 0 + n) (ints cells (All-tail (IsOfKind kind.Int) (Int n) cells typed))
  ints (Sum n ∷ cells) typed = absurd (All-head (IsOfKind kind.Int) (Sum n) cells typed)
  ints (Text bytes ∷ cells) typed = absurd (All-head (IsOfKind kind.Int) (Text bytes) cells typed)
no_texts kind.Sum cells typed short = let none = sums cells typed in omega (arith, none) where
  sums : (cells : List Cell) → All (IsOfKind kind.Sum) cells → texts_length cells ≡ 0
  sums [] typed = refl
  sums (Null ∷ cells) typed = sum_by-cons text_length Null cells
      ∙ ap (λ n. 0 + n) (sums cells (All-tail (IsOfKind kind.Sum) Null cells typed))
  sums (Sum n ∷ cells) typed = sum_by-cons text_length (Sum n) cells
      ∙ ap (λ n. 0 + n) (sums cells (All-tail (IsOfKind kind.Sum) (Sum n) cells typed))
  sums (Int n ∷ cells) typed = absurd (All-head (IsOfKind kind.Sum) (Int n) cells typed)
  sums (Text bytes ∷ cells) typed = absurd (All-head (IsOfKind kind.Sum) (Text bytes) cells typed)

-- a list of two stands before others
front_two : (kind : Kind) (cells : List Cell) (rest : List (List ℕ))
    → (take 2 (column_bytes kind cells ++ rest) ≡ column_bytes kind cells) × (drop 2 (column_bytes kind cells ++ rest) ≡ rest)
front_two kind.Int cells rest = (refl, refl)
front_two kind.Sum cells rest = (refl, refl)
front_two kind.Text cells rest = (refl, refl)

two : (a b : ℕ) (rest : List ℕ) → All (λ length. length ≤ MOST_TEXT_BYTES) (a ∷ b ∷ rest)
    → All (λ length. length ≤ MOST_TEXT_BYTES) (a ∷ b ∷ []) × All (λ length. length ≤ MOST_TEXT_BYTES) rest
two a b rest all =
    let P : ℕ → Type 0 = λ length. length ≤ MOST_TEXT_BYTES in
    let others = All-tail P a (b ∷ rest) all in
    (All-cons P a (b ∷ []) (All-head P a (b ∷ rest) all) (All-cons P b [] (All-head P b rest others) (All-nil P)), All-tail P b rest others)

pub all_front : (kind : Kind) (cells : List Cell) (rest : List ℕ)
    → All (λ length. length ≤ MOST_TEXT_BYTES) (column_lengths kind cells ++ rest)
    → All (λ length. length ≤ MOST_TEXT_BYTES) (column_lengths kind cells) × All (λ length. length ≤ MOST_TEXT_BYTES) rest
all_front kind.Int cells rest all = two _ _ rest all
all_front kind.Sum cells rest all = two _ _ rest all
all_front kind.Text cells rest all = two _ _ rest all

-- the columns that buffers hold are those of the rows
columns_back : (column count : ℕ) (kinds : List Kind) (rows : List (List Cell)) → length rows ≡ count → All (IsRowFrom column kinds) rows
    → All (λ length. length ≤ MOST_TEXT_BYTES) (lengths_from column kinds rows)
    → columns_in count kinds (bytes_from column kinds rows) ≡ columns_from column kinds rows
unfolding columns_in
columns_back column count [] rows size are short = refl
columns_back column count (kind ∷ kinds) rows size are short =
    let cells = column_of column rows in
    let rest = bytes_from (column + 1) kinds rows in
    let two = front_two kind cells rest in
    let typed = each_first column kind kinds rows are in
    let parts = all_front kind cells (lengths_from (column + 1) kinds rows) short in
    let long : length cells ≡ count = length-map rows _ ∙ size in
    let back : cells_in kind count (column_bytes kind cells) ≡ cells =
    ap (λ n. cells_in kind n (column_bytes kind cells)) (sym long) ∙ read_back kind cells typed (no_texts kind cells typed parts.0) in
    let first = ap (cells_in kind count) two.0 ∙ back in
    let others = ap (columns_in count kinds) two.1 ∙ columns_back (column + 1) count kinds rows size
    (each_rest column kind kinds rows are) parts.1 in
    λ k. first k ∷ others k

-- the rows that buffers hold are those that were stored there
pub rows_back : (count : ℕ) (kinds : List Kind) (buffers : List (List ℕ)) (rows : List (List Cell)) → IsStored count kinds buffers rows
    → rows_in count kinds buffers ≡ rows
rows_back count kinds buffers rows stored =
    ap (λ list. rows_from count (columns_in count kinds list)) stored.bytes
    ∙ ap (rows_from count) (columns_back 0 count kinds rows stored.counted stored.typed stored.short)
    ∙ ap (λ n. rows_from n (columns_from 0 kinds rows)) (sym stored.counted) ∙ rows_of_columns kinds rows stored.typed

pub stored_back : (count : ℕ) (kinds : List Kind) (buffers : List (List ℕ)) (rows : List (List Cell)) → IsStored count kinds buffers rows
    → IsStored count kinds buffers (rows_in count kinds buffers)
stored_back count kinds buffers rows stored = subst (IsStored count kinds buffers) (sym (rows_back count kinds buffers rows stored)) stored

-- what stands at a place
pub get-there : {X : Type 0} (xs : List X) (n : ℕ) (x d : X) → slice_get xs n ≡ Some x → get_or xs n d ≡ x
get-there [] n x d is = cc is
get-there (y ∷ xs) zero x d is = cc is
get-there (y ∷ xs) (suc n) x d is = get-there xs n x d is

-- the first columns of a table were encoded
pub record HasEncoded (table : Table) (kinds : List Kind) (buffers : List (List ℕ)) : Type 0 where
  pub some : kinds ≡ take (length kinds) table.kinds
  pub bytes : buffers ++ bytes_from (length kinds) (drop (length kinds) table.kinds) table.rows ≡ buffer_bytes table.kinds table.rows

pub HasEncoded-none : (table : Table) → HasEncoded table [] []
HasEncoded-none table = record { some = refl; bytes = refl }

-- and one more
pub HasEncoded-one : (table : Table) (kinds : List Kind) (buffers : List (List ℕ)) (slice : ColumnSlice) (kind : Kind)
    (first second : List ℕ)
    → HasEncoded table kinds buffers → IsColumnOf table (length kinds) slice → kind ≡ kind_of slice
    → first ∷ second ∷ [] ≡ column_bytes (kind_of slice) (cells_of_slice slice)
    → HasEncoded table (kinds ++ kind ∷ []) ((buffers ++ first ∷ []) ++ second ∷ [])
HasEncoded-one table kinds buffers slice kind first second has column is bytes =
    let n = length kinds in
    let more : length (kinds ++ kind ∷ []) ≡ n + 1 = length-append kinds (kind ∷ []) in
    let there : get_or table.kinds n kind ≡ kind = get-there table.kinds n (kind_of slice) kind column.kind ∙ sym is in
    let next : drop n table.kinds ≡ kind ∷ drop (n + 1) table.kinds =
    drop-cons table.kinds n kind column.within ∙ (λ k. there k ∷ drop (sym (add-one n) k) table.kinds) in
    let both : first ∷ second ∷ [] ≡ column_bytes kind (column_of n table.rows) = bytes ∙ (λ k. column_bytes (sym is k) (column.cells k)) in
    record {
      some = ap (λ list. list ++ kind ∷ []) has.some
          ∙ (λ k. take n table.kinds ++ sym there k ∷ []) ∙ sym (take_more table.kinds n kind column.within)
          ∙ ap (λ m. take m table.kinds) (sym more);
      bytes = ap (λ m. ((buffers ++ first ∷ []) ++ second ∷ []) ++ bytes_from m (drop m table.kinds) table.rows) more
          ∙ ap (λ list. list ++ bytes_from (n + 1) (drop (n + 1) table.kinds) table.rows) (append_assoc buffers (first ∷ []) (second ∷ []))
          ∙ append_assoc buffers (first ∷ second ∷ []) (bytes_from (n + 1) (drop (n + 1) table.kinds) table.rows)
          ∙ ap (λ list. buffers ++ (list ++ bytes_from (n + 1) (drop (n + 1) table.kinds) table.rows)) both
          ∙ ap (λ list. buffers ++ bytes_from n list table.rows) (sym next) ∙ has.bytes;
    }

-- the same of vectors
pub HasEncoded-pushed : (table : Table) (kinds kinds2 : List Kind) (bufs bufs1 bufs2 : List (Vec ℕ Global)) (slice : ColumnSlice)
    (kind : Kind)
    (first second : Vec ℕ Global) (n : ℕ) → HasEncoded table kinds (map (λ buffer. buffer.items) bufs) → n ≡ length kinds
    → IsColumnOf table n slice → kind ≡ kind_of slice → first.items ∷ second.items ∷ []
    ≡ column_bytes (kind_of slice) (cells_of_slice slice)
    → kinds2 ≡ kinds ++ kind ∷ [] → bufs1 ≡ bufs ++ first ∷ [] → bufs2 ≡ bufs1 ++ second ∷ []
    → HasEncoded table kinds2 (map (λ buffer. buffer.items) bufs2)
HasEncoded-pushed table kinds kinds2 bufs bufs1 bufs2 slice kind first second n has size column is bytes more one two =
    let both : map (λ buffer. buffer.items) bufs2 ≡ (map (λ buffer. buffer.items) bufs ++ first.items ∷ []) ++ second.items ∷ [] =
    ap (map (λ buffer. buffer.items)) two ∙ map-append (λ buffer. buffer.items) bufs1 (second ∷ [])
    ∙ ap (λ list. map (λ buffer. buffer.items) list ++ second.items ∷ []) one
    ∙ ap (λ list. list ++ second.items ∷ []) (map-append (λ buffer. buffer.items) bufs (first ∷ [])) in
    subst (λ list. HasEncoded table kinds2 list) (sym both)
    (subst (λ list. HasEncoded table list ((map (λ buffer. buffer.items) bufs ++ first.items ∷ []) ++ second.items ∷ [])) (sym more)
    (HasEncoded-one table kinds (map (λ buffer. buffer.items) bufs) slice kind first.items second.items has
    (subst (λ m. IsColumnOf table m slice) size column) is bytes))

-- all columns were
pub HasEncoded-kinds : (table : Table) (kinds : List Kind) (buffers : List (List ℕ)) → HasEncoded table kinds buffers
    → length table.kinds ≤ length kinds → kinds ≡ table.kinds
HasEncoded-kinds table kinds buffers has all = has.some ∙ take_all (length kinds) table.kinds all

pub HasEncoded-bytes : (table : Table) (kinds : List Kind) (buffers : List (List ℕ)) → HasEncoded table kinds buffers
    → length table.kinds ≤ length kinds → buffers ≡ buffer_bytes table.kinds table.rows
HasEncoded-bytes table kinds buffers has all =
    sym (append-nil buffers) ∙ ap (λ list. buffers ++ bytes_from (length kinds) list table.rows) (sym (drop_all
    (length kinds) table.kinds all)) ∙ has.bytes
