-- Columns and rows that are read back from buffers.
use Rattle.std.proofs.Common.{◌≡◌, ℕ, ◌+◌, ◌*◌, ◌<◌, ◌≤◌, zero, suc, List, [], ◌∷◌, ◌++◌, length, take, get_or, All, refl, sym, ◌∙◌, ap}
use Rattle.std.proofs.Common.{subst, arith}
use Rattle.std.proofs.lemmas.List.{get_or-map, length-append, length-map, take_more}
use Rattle.std.proofs.lemmas.List.Elements.{All-cons, All-nil}
use Rattle.mem_buf.specs.declared.arrow_buf.ArrowBuf.{ArrowBuf}
use Rattle.mem_buf.specs.View.{bytes_in}
use Rattle.query_model.specs.Buffers.{lengths_from, texts_length}
use Rattle.query_model.specs.Bytes.{column_bytes}
use Rattle.query_model.specs.Cells.{IsOfKind, column_of}
use Rattle.query_model.specs.declared.bounds.TheConstants.{MOST_TEXT_BYTES}
use Rattle.query_model.specs.declared.cell.Cell.{Cell}
use Rattle.query_model.specs.declared.kind.Kind.{Kind}
use Rattle.query_model.specs.declared.kind.Kind.TheVariants as kind
use Rattle.row_text.specs.Rows.{AreLong, AreRows, cells_in, kinds_in, rows_from}
use Rattle.row_text.specs.Stored.{ColumnCells}
use Rattle.batch_vec.specs.Batches.{bytes_of}
use Rattle.batch_vec.specs.Columns.{IsColumn, IsStored, bytes_from, cells_from}
use Rattle.batch_vec.proofs.RowLemmas.{IsRowFrom, columns_from, each_first, each_rest, rows_of_columns}
use Rattle.batch_vec.proofs.StoredLemmas.{all_front, no_texts}

-- the bytes of a buffer
pub buffer_there : {H : Type 0} (buffers : List (ArrowBuf H)) (i : ℕ) (buffer : ArrowBuf H) (bytes : List ℕ) → i < length buffers
    → bytes ≡ bytes_in (get_or buffers i buffer).view → bytes ≡ get_or (bytes_of buffers) i []
buffer_there buffers i buffer bytes within is = is ∙ sym (get_or-map (λ b. bytes_in b.view) buffers i buffer [] within)

-- a column has two
two_buffers : (kind : Kind) (cells : List Cell) → length (column_bytes kind cells) ≡ 2
two_buffers kind.Int cells = refl
two_buffers kind.Sum cells = refl
two_buffers kind.Text cells = refl

pub buffers_of_columns : (column : ℕ) (kinds : List Kind) (rows : List (List Cell)) → length (bytes_from column kinds rows) ≡ 2 * length kinds
buffers_of_columns column [] rows = omega arith
buffers_of_columns column (kind ∷ kinds) rows =
    let both = length-append (column_bytes kind (column_of column rows)) (bytes_from (column + 1) kinds rows) in
    let first = two_buffers kind (column_of column rows) in
    let rest = buffers_of_columns (column + 1) kinds rows in
    omega (arith, both, first, rest)

-- so there are two for each kind
pub buffers_many : {H : Type 0} (count : ℕ) (kinds : List Kind) (buffers : List (ArrowBuf H)) (rows : List (List Cell))
    → IsStored count kinds (bytes_of buffers) rows → length buffers ≡ 2 * length kinds
buffers_many count kinds buffers rows stored =
    sym (length-map buffers (λ b. bytes_in b.view)) ∙ ap length stored.bytes ∙ buffers_of_columns 0 kinds rows

first_two : (kind : Kind) (cells : List Cell) (rest : List (List ℕ))
    → get_or (column_bytes kind cells ++ rest) 0 [] ∷ get_or (column_bytes kind cells ++ rest) 1 [] ∷ [] ≡ column_bytes kind cells
first_two kind.Int cells rest = refl
first_two kind.Sum cells rest = refl
first_two kind.Text cells rest = refl

past_two : (kind : Kind) (cells : List Cell) (rest : List (List ℕ)) (n : ℕ)
    → get_or (column_bytes kind cells ++ rest) (suc (suc n)) [] ≡ get_or rest n []
past_two kind.Int cells rest n = refl
past_two kind.Sum cells rest n = refl
past_two kind.Text cells rest n = refl

-- the two of a column
pub bytes_there : (column : ℕ) (kinds : List Kind) (rows : List (List Cell)) (i : ℕ) (k : Kind) → i < length kinds
    → get_or (bytes_from column kinds rows) (2 * i) [] ∷ get_or (bytes_from column kinds rows) (2 * i + 1) [] ∷ []
    ≡ column_bytes (get_or kinds i k) (column_of (column + i) rows)
bytes_there column [] rows i k within = absurd (omega arith)
bytes_there column (kind ∷ kinds) rows zero k within =
    let one : 2 * 0 ≡ 0 = omega arith in
    let two : 2 * 0 + 1 ≡ 1 = omega arith in
    let same : column ≡ column + 0 = omega arith in
    (λ n. get_or (bytes_from column (kind ∷ kinds) rows) (one n) [] ∷ get_or (bytes_from column (kind ∷ kinds) rows) (two n) [] ∷ [])
    ∙ first_two kind (column_of column rows) (bytes_from (column + 1) kinds rows) ∙ ap (λ n. column_bytes kind (column_of n rows)) same
bytes_there column (kind ∷ kinds) rows (suc i) k within =
    let one : 2 * suc i ≡ suc (suc (2 * i)) = omega arith in
    let two : 2 * suc i + 1 ≡ suc (suc (2 * i + 1)) = omega arith in
    let next : column + 1 + i ≡ column + suc i = omega arith in
    let cells = column_of column rows in
    let rest = bytes_from (column + 1) kinds rows in
    let a = ap (λ n. get_or (column_bytes kind cells ++ rest) n []) one ∙ past_two kind cells rest (2 * i) in
    let b = ap (λ n. get_or (column_bytes kind cells ++ rest) n []) two ∙ past_two kind cells rest (2 * i + 1) in
    (λ n. a n ∷ b n ∷ []) ∙ bytes_there (column + 1) kinds rows i k (omega arith)
    ∙ ap (λ n. column_bytes (get_or kinds i k) (column_of n rows)) next

-- its cells are of its kind, and its texts are short
facts_there : (column : ℕ) (kinds : List Kind) (rows : List (List Cell)) (i : ℕ) (k : Kind) → i < length kinds
    → All (IsRowFrom column kinds) rows
    → All (λ length. length ≤ MOST_TEXT_BYTES) (lengths_from column kinds rows)
    → All (IsOfKind (get_or kinds i k)) (column_of (column + i) rows) × (texts_length (column_of (column + i) rows) ≤ MOST_TEXT_BYTES)
facts_there column [] rows i k within are short = absurd (omega arith)
facts_there column (kind ∷ kinds) rows zero k within are short =
    let same : column ≡ column + 0 = omega arith in
    let typed = each_first column kind kinds rows are in
    let parts = all_front kind (column_of column rows) (lengths_from (column + 1) kinds rows) short in
    subst (λ n. All (IsOfKind kind) (column_of n rows) × (texts_length (column_of n rows) ≤ MOST_TEXT_BYTES)) same
    (typed, no_texts kind (column_of column rows) typed parts.0)
facts_there column (kind ∷ kinds) rows (suc i) k within are short =
    let next : column + 1 + i ≡ column + suc i = omega arith in
    let parts = all_front kind (column_of column rows) (lengths_from (column + 1) kinds rows) short in
    subst (λ n. All (IsOfKind (get_or kinds i k)) (column_of n rows) × (texts_length (column_of n rows) ≤ MOST_TEXT_BYTES)) next
    (facts_there (column + 1) kinds rows i k (omega arith) (each_rest column kind kinds rows are) parts.1)

-- two buffers of those that hold rows hold a column of them
pub column_there : (count : ℕ) (kinds : List Kind) (buffers : List (List ℕ)) (rows : List (List Cell)) → IsStored count kinds buffers rows
    → (i : ℕ) (k : Kind) (first second : List ℕ) → i < length kinds → first ≡ get_or buffers (2 * i) []
    → second ≡ get_or buffers (2 * i + 1) []
    → IsColumn (get_or kinds i k) count first second (column_of i rows)
column_there count kinds buffers rows stored i k first second within one two =
    let same : 0 + i ≡ i = omega arith in
    let facts = subst (λ n. All (IsOfKind (get_or kinds i k)) (column_of n rows) × (texts_length (column_of n rows) ≤ MOST_TEXT_BYTES)) same
    (facts_there 0 kinds rows i k within stored.typed stored.short) in
    record {
      counted = length-map rows _ ∙ stored.counted;
      typed = facts.0;
      short = facts.1;
      bytes = (λ n. one n ∷ two n ∷ []) ∙ (λ n. get_or (stored.bytes n) (2 * i) [] ∷ get_or (stored.bytes n) (2 * i + 1) [] ∷ [])
          ∙ bytes_there 0 kinds rows i k within ∙ ap (λ n. column_bytes (get_or kinds i k) (column_of n rows)) same;
    }

-- the columns of rows, each with its kind
cells_there : (column : ℕ) (kinds : List Kind) (rows : List (List Cell)) (i : ℕ) (k : Kind) (d : ColumnCells) → i < length kinds
    → get_or (cells_from column kinds rows) i d ≡ record { kind = get_or kinds i k; cells = column_of (column + i) rows }
cells_there column [] rows i k d within = absurd (omega arith)
cells_there column (kind ∷ kinds) rows zero k d within =
    let same : column ≡ column + 0 = omega arith in (λ n. record { kind = kind; cells = column_of (same n) rows })
cells_there column (kind ∷ kinds) rows (suc i) k d within =
    let next : column + 1 + i ≡ column + suc i = omega arith in
    cells_there (column + 1) kinds rows i k d (omega arith) ∙ (λ n. record { kind = get_or kinds i k; cells = column_of (next n) rows })

pub cells_long : (column : ℕ) (kinds : List Kind) (rows : List (List Cell)) → length (cells_from column kinds rows) ≡ length kinds
cells_long column [] rows = refl
cells_long column (kind ∷ kinds) rows = ap suc (cells_long (column + 1) kinds rows)

-- one more of them
pub column_pushed : (kinds : List Kind) (rows : List (List Cell)) (i : ℕ) (k : Kind) (old new : List ColumnCells) (column : ColumnCells)
    → i < length kinds → new ≡ old ++ column ∷ [] → old ≡ take i (cells_from 0 kinds rows)
    → column ≡ record { kind = get_or kinds i k; cells = column_of i rows } → new ≡ take (i + 1) (cells_from 0 kinds rows)
column_pushed kinds rows i k old new column within pushed before is =
    let same : 0 + i ≡ i = omega arith in
    let long = cells_long 0 kinds rows in
    let there : column ≡ get_or (cells_from 0 kinds rows) i column =
    is ∙ sym (cells_there 0 kinds rows i k column within ∙ (λ n. record { kind = get_or kinds i k; cells = column_of (same n) rows })) in
    pushed ∙ (λ n. before n ++ there n ∷ []) ∙ sym (take_more (cells_from 0 kinds rows) i column (omega (arith, within, long)))

-- what is seen of them
kinds_back : (column : ℕ) (kinds : List Kind) (rows : List (List Cell)) → kinds_in (cells_from column kinds rows) ≡ kinds
kinds_back column [] rows = refl
kinds_back column (kind ∷ kinds) rows = ap (λ rest. kind ∷ rest) (kinds_back (column + 1) kinds rows)

columns_seen : (column : ℕ) (kinds : List Kind) (rows : List (List Cell))
    → cells_in (cells_from column kinds rows) ≡ columns_from column kinds rows
columns_seen column [] rows = refl
columns_seen column (kind ∷ kinds) rows = ap (λ rest. column_of column rows ∷ rest) (columns_seen (column + 1) kinds rows)

columns_long : (column count : ℕ) (kinds : List Kind) (rows : List (List Cell)) → length rows ≡ count
    → AreLong count (cells_in (cells_from column kinds rows))
columns_long column count [] rows size = All-nil _
columns_long column count (kind ∷ kinds) rows size =
    All-cons (λ cells. length cells ≡ count) (column_of column rows) (cells_in (cells_from (column + 1) kinds rows))
    (length-map rows _ ∙ size) (columns_long (column + 1) count kinds rows size)

module _ (count : ℕ) (kinds : List Kind) (buffers : List (List ℕ)) (rows : List (List Cell)) (columns : List ColumnCells)
    (stored : IsStored count kinds buffers rows) (are : columns ≡ cells_from 0 kinds rows) where
  -- the rows of these columns are the rows
  pub table_rows : rows_from count (cells_in columns) ≡ rows
  table_rows =
      ap (λ list. rows_from count (cells_in list)) are ∙ ap (rows_from count) (columns_seen 0 kinds rows)
      ∙ ap (λ n. rows_from n (columns_from 0 kinds rows)) (sym stored.counted) ∙ rows_of_columns kinds rows stored.typed

  pub table_kinds : kinds_in columns ≡ kinds
  table_kinds = ap kinds_in are ∙ kinds_back 0 kinds rows

  pub table_long : AreLong count (cells_in columns)
  table_long = subst (λ list. AreLong count (cells_in list)) (sym are) (columns_long 0 count kinds rows stored.counted)

  pub table_typed : AreRows (kinds_in columns) (rows_from count (cells_in columns))
  table_typed = subst (λ list. AreRows list (rows_from count (cells_in columns))) (sym table_kinds)
      (subst (AreRows kinds) (sym table_rows) stored.typed)
