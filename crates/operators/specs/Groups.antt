-- Groups of rows by a key, as rows are added, and as they are stored.
use Rattle.std.specs.Prelude.{◌≡◌, ℕ, Bool, if◌then◌else◌, List, [], ◌∷◌, ◌++◌, map, fold, get_or, nat_eq, All}
use Rattle.std.specs.Cmp.Lexicographic.{pointwise}
use Rattle.std.specs.List.{flat_map}
use Rattle.indexmap.specs.IndexSet.{insert_key}
use Rattle.query_model.specs.Answer.{key_of, rows_with_key, sum_of}
use Rattle.query_model.specs.Cells.{IsOfKind}
use Rattle.query_model.specs.declared.cell.Cell.{Cell}
use Rattle.query_model.specs.declared.cell.Cell.TheVariants.{Null, Text}
use Rattle.query_model.specs.declared.kind.Kind.{Kind}
use Rattle.query_model.specs.declared.kind.Kind.TheVariants as kind
use Rattle.row_text.specs.Stored.{ColumnCells}
use Rattle.batch_vec.specs.Batches.{BatchView}

-- keys, and each of some more that isn't there yet, in order
abbrev pub keys_seen : List (List ℕ) → List (List ℕ) → List (List ℕ)
keys_seen keys more = fold (insert_key (pointwise nat_eq)) keys more

-- the texts of numbers, each beside a mark that says whether it is known: an unknown one has no bytes
unfoldable pub marked_texts : {N : Type 0} → (N → List ℕ) → List N → List Bool → List (List ℕ)
marked_texts text [] known = []
marked_texts text (value ∷ values) [] = []
marked_texts text (value ∷ values) (mark ∷ known) = (if mark then text value else []) ∷ marked_texts text values known

-- the keys of groups, and for each of some columns a sum for each key
pub record GroupsView : Type 0 where
  pub keys : List (List ℕ)
  pub sums : List (List Cell)

-- the groups of rows by a column, with the sums of others: a key goes where its first row does
pub record AreGroups (key : ℕ) (columns : List ℕ) (rows : List (List Cell)) (groups : GroupsView) : Type 0 where
  pub keys : groups.keys ≡ keys_seen [] (map (key_of key) rows)
  pub sums : groups.sums ≡ map (λ column. map (λ one. sum_of (rows_with_key key one rows) column) groups.keys) columns

-- however many of the rows are added, each sum is a number of 128 bits
abbrev pub HaveRoom : ℕ → List ℕ → List (List Cell) → Type 0
HaveRoom key columns rows = All (λ column. (one : List ℕ) → (before after : List (List Cell)) → rows ≡ before ++ after
    → IsOfKind kind.Sum (sum_of (rows_with_key key one before) column)) columns

-- the columns of groups at some places: their keys, and their sums
abbrev pub group_columns : List (List ℕ) → List (List Cell) → List ℕ → List ColumnCells
group_columns keys sums places =
    record { kind = kind.Text; cells = map (λ place. Text (get_or keys place [])) places }
    ∷ map (λ sum. record { kind = kind.Sum; cells = map (λ place. get_or sum place Null) places }) sums

-- the rows of batches, one batch after the other
abbrev pub rows_in_all : {H : Type 0} → List (BatchView H) → List (List Cell)
rows_in_all batches = flat_map (λ batch. batch.rows) batches
