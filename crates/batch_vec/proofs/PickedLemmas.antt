-- Picked columns of rows stand in the buffers of these columns.
use Rattle.std.proofs.Common.{◌≡◌, ℕ, zero, suc, ◌+◌, ◌*◌, ◌<◌, ◌≤◌, List, [], ◌∷◌, ◌++◌, length, take, drop, map, get_or, refl, sym, ◌∙◌, ap}
use Rattle.std.proofs.Common.{arith, append_assoc, subst, All}
use Rattle.std.proofs.Math.Seq.{get_or-append_seam}
use Rattle.std.proofs.lemmas.List.{drop-map, get_or-map, length-append, length-map, map-append, take-map}
use Rattle.std.proofs.lemmas.List.Elements.{All-append, All-cons, All-drop, All-head, All-map, All-nil, All-tail, All-take}
use Rattle.std.proofs.lemmas.Option.{slice_get-get_or}
use Rattle.std.proofs.lemmas.Simd.{map-map}
use Rattle.std.specs.Prelude.{Some, None, slice_get}
use Rattle.std.specs.Option.{option_map_or}
use Rattle.mem_buf.specs.declared.arrow_buf.ArrowBuf.{ArrowBuf}
use Rattle.mem_buf.specs.View.{bytes_in}
use Rattle.query_model.specs.Answer.{picked}
use Rattle.query_model.specs.Buffers.{buffer_lengths}
use Rattle.query_model.specs.Bytes.{column_bytes}
use Rattle.query_model.specs.Cells.{IsOfKind, IsRow, cell_at, column_of}
use Rattle.query_model.specs.Requests.{picked_kinds}
use Rattle.query_model.specs.declared.bounds.TheConstants.{MOST_TEXT_BYTES}
use Rattle.query_model.specs.declared.cell.Cell.{Cell}
use Rattle.query_model.specs.declared.cell.Cell.TheVariants.{Null}
use Rattle.query_model.specs.declared.kind.Kind.{Kind}
use Rattle.query_model.specs.declared.kind.Kind.TheVariants as kind
use Rattle.row_text.specs.Rows.{AreRows}
use Rattle.batch_vec.specs.Batches.{bytes_of}
use Rattle.batch_vec.specs.Columns.{IsStored, buffer_bytes, bytes_from, rows_in}
use Rattle.batch_vec.specs.Moving.{of_columns, two_of}
use Rattle.batch_vec.proofs.BackLemmas.{buffers_of_columns, bytes_there}
use Rattle.batch_vec.proofs.PickingLemmas.{two_are}
use Rattle.batch_vec.proofs.StoredLemmas.{lengths_there}

-- what is told of things is told of those of columns
two_of-map : {X Y : Type 0} (f : X → Y) (all : List X) (c : ℕ) → two_of (map f all) c ≡ map f (two_of all c)
two_of-map f all c = ap (take 2) (drop-map f (2 * c) all) ∙ take-map f 2 (drop (2 * c) all)

pub of_columns-map : {X Y : Type 0} (f : X → Y) (all : List X) (cs : List ℕ) → of_columns (map f all) cs ≡ map f (of_columns all cs)
of_columns-map f all [] = refl
of_columns-map f all (c ∷ cs) =
    (λ k. two_of-map f all c k ++ of_columns-map f all cs k) ∙ sym (map-append f (two_of all c) (of_columns all cs))

-- what holds of all holds of those of some columns
of_columns-all : {X : Type 0} (P : X → Type 0) (all : List X) (cs : List ℕ) → All P all → All P (of_columns all cs)
of_columns-all P all [] holds = All-nil P
of_columns-all P all (c ∷ cs) holds =
    All-append P (two_of all c) (of_columns all cs) (All-take P 2 (drop (2 * c) all) (All-drop P (2 * c) all holds))
    (of_columns-all P all cs holds)

-- the kind of a column
abbrev kind_at : List Kind → ℕ → Kind
kind_at kinds pick = option_map_or (λ kind. kind) (slice_get kinds pick) kind.Int

kind_there : (kinds : List Kind) (p : ℕ) (k : Kind) → p < length kinds → kind_at kinds p ≡ get_or kinds p k
kind_there kinds p k within = ap (λ found. option_map_or (λ kind. kind) found kind.Int) (slice_get-get_or kinds p k within)

-- a row has a cell of its kind in each column
cell_typed : (kinds : List Kind) (row : List Cell) (p : ℕ) (k : Kind) → p < length kinds → IsRow kinds row
    → IsOfKind (get_or kinds p k) (cell_at p row)
unfolding IsRow
cell_typed [] row p k within is = absurd (omega arith)
cell_typed (kind ∷ kinds) [] p k within is = absurd is
cell_typed (kind ∷ kinds) (cell ∷ row) zero k within is = is.0
cell_typed (kind ∷ kinds) (cell ∷ row) (suc p) k within is = cell_typed kinds row p k (omega (arith, within)) is.1

module _ (kinds : List Kind) where
  -- so have the picked ones
  row_typed : (picks : List ℕ) (row : List Cell) → All (λ p. p < length kinds) picks → IsRow kinds row
      → IsRow (picked_kinds kinds picks) (picked picks row)
  unfolding IsRow
  row_typed [] row within is = tt
  row_typed (p ∷ picks) row within is =
      let below = All-head (λ n. n < length kinds) p picks within in (
        subst (λ k. IsOfKind k (cell_at p row)) (sym (kind_there kinds p kind.Int below)) (cell_typed kinds row p kind.Int below is),
        row_typed picks row (All-tail (λ n. n < length kinds) p picks within) is,
      )

  rows_typed : (picks : List ℕ) (rows : List (List Cell)) → All (λ p. p < length kinds) picks → AreRows kinds rows
      → AreRows (picked_kinds kinds picks) (map (picked picks) rows)
  rows_typed picks rows within are =
      All-map (IsRow (picked_kinds kinds picks)) (picked picks) rows (λ i d below. row_typed picks (get_or rows i d) within (are i d below))

  -- a picked column of rows is the column
  column_picked : (before after : List ℕ) (p : ℕ) (rows : List (List Cell))
      → column_of (length before) (map (picked (before ++ p ∷ after)) rows) ≡ column_of p rows
  column_picked before after p [] = refl
  column_picked before after p (row ∷ rows) =
      let within : length before < length (before ++ p ∷ after) = omega (arith, length-append before (p ∷ after)) in
      let cell : cell_at (length before) (picked (before ++ p ∷ after) row) ≡ cell_at p row =
      get_or-map (λ c. cell_at c row) (before ++ p ∷ after) (length before) 0 Null within
      ∙ ap (λ c. cell_at c row) (get_or-append_seam before p after 0) in
      λ k. cell k ∷ column_picked before after p rows k

  -- so its bytes are those of the column
  bytes_picked : (before after : List ℕ) (rows : List (List Cell)) → All (λ p. p < length kinds) after
      → bytes_from (length before) (picked_kinds kinds after) (map (picked (before ++ after)) rows) ≡ of_columns (buffer_bytes kinds rows) after
  bytes_picked before [] rows within = refl
  bytes_picked before (p ∷ after) rows within =
      let below = All-head (λ n. n < length kinds) p after within in
      let same : 0 + p ≡ p = omega arith in
      let next : length (before ++ p ∷ []) ≡ length before + 1 = length-append before (p ∷ []) in
      let two : two_of (buffer_bytes kinds rows) p ≡ column_bytes (get_or kinds p kind.Int) (column_of p rows) =
      two_are (buffer_bytes kinds rows) (length kinds) (buffers_of_columns 0 kinds rows) p [] below
      ∙ bytes_there 0 kinds rows p kind.Int below ∙ ap (λ c. column_bytes (get_or kinds p kind.Int) (column_of c rows)) same in
      let rest = bytes_picked (before ++ p ∷ []) after rows (All-tail (λ n. n < length kinds) p after within) in
      (λ k. column_bytes (kind_there kinds p kind.Int below k) (column_picked before after p rows k)
      ++ bytes_from (sym next k) (picked_kinds kinds after) (map (picked (sym (append_assoc before (p ∷ []) after) k)) rows))
      ∙ (λ k. sym two k ++ rest k)

-- the picked columns of rows that buffers hold are held by the buffers of these columns
pub picked_stored : (count : ℕ) (kinds made : List Kind) (picks : List ℕ) (buffers taken : List (List ℕ)) (rows : List (List Cell))
    → made ≡ picked_kinds kinds picks → All (λ p. p < length kinds) picks → taken ≡ of_columns buffers picks
    → IsStored count kinds buffers rows → IsStored count made taken (map (picked picks) rows)
picked_stored count kinds made picks buffers taken rows same within are stored =
    let bytes = bytes_picked kinds [] picks rows within in
    subst (λ list. IsStored count list taken (map (picked picks) rows)) (sym same)
    (record {
      counted = length-map rows (picked picks) ∙ stored.counted;
      typed = rows_typed kinds picks rows within stored.typed;
      short = subst (All (λ length. length ≤ MOST_TEXT_BYTES))
          (of_columns-map length (buffer_bytes kinds rows) picks ∙ ap (map length) (sym bytes)
          ∙ lengths_there 0 (picked_kinds kinds picks) (map (picked picks) rows))
          (of_columns-all (λ length. length ≤ MOST_TEXT_BYTES) (map length (buffer_bytes kinds rows)) picks
          (subst (All (λ length. length ≤ MOST_TEXT_BYTES)) (sym (lengths_there 0 kinds rows)) stored.short));
      bytes = are ∙ ap (λ list. of_columns list picks) stored.bytes ∙ sym bytes;
    })

-- one more kind was picked
pub kinds_pushed : (kinds : List Kind) (picks : List ℕ) (i p : ℕ) (old new : List Kind) (kind d : Kind) → p < length kinds
    → take (i + 1) picks ≡ take i picks ++ p ∷ [] → kind ≡ get_or kinds p d → new ≡ old ++ kind ∷ []
    → old ≡ picked_kinds kinds (take i picks) → new ≡ picked_kinds kinds (take (i + 1) picks)
kinds_pushed kinds picks i p old new kind d within more there pushed before =
    pushed ∙ (λ k. before k ++ (there ∙ sym (kind_there kinds p d within)) k ∷ [])
    ∙ sym (map-append (kind_at kinds) (take i picks) (p ∷ [])) ∙ ap (picked_kinds kinds) (sym more)

-- the picked columns of a batch
pub picked_batch : {H : Type 0} (count : ℕ) (kinds shown made : List Kind) (picks : List ℕ) (buffers taken : List (ArrowBuf H))
    → kinds ≡ shown → made ≡ picked_kinds shown picks → All (λ p. p < length shown) picks → taken ≡ of_columns buffers picks
    → IsStored count kinds (bytes_of buffers) (rows_in count kinds (bytes_of buffers))
    → IsStored count made (bytes_of taken) (map (picked picks) (rows_in count kinds (bytes_of buffers)))
picked_batch count kinds shown made picks buffers taken same is within are stored =
    picked_stored count kinds made picks (bytes_of buffers) (bytes_of taken) _ (is ∙ ap (λ list. picked_kinds list picks) (sym same))
    (subst (λ (list : List Kind). All (λ p. p < length list) picks) (sym same) within)
    (ap bytes_of are ∙ sym (of_columns-map (λ buffer. bytes_in buffer.view) buffers picks)) stored
