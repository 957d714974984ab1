-- The text of a table in parts: its header, and its rows batch after batch.
use Rattle.std.proofs.Common.{◌≡◌, ◌<◌, ◌+◌, ℕ, List, [], ◌∷◌, ◌++◌, length, take, get_or, sym, ap, ◌∙◌, map}
use Rattle.std.specs.Prelude.{flat_map}
use Rattle.std.proofs.lemmas.Grind.{flat_map-append}
use Rattle.std.proofs.lemmas.List.{append-nil, map-append, take_more}
use Rattle.csv.specs.Writing.{default_writer, row_text}
use Rattle.query_model.specs.declared.cell.Cell.{Cell}
use Rattle.row_text.specs.Answer.{fields_of_row, rows_text, table_text}

-- a table's text is its header's, and then its rows'
pub table-rows : (header : List (List ℕ)) (rows : List (List Cell)) → table_text header rows ≡ table_text header [] ++ rows_text rows
table-rows header rows = ap (λ (t : List ℕ). t ++ rows_text rows) (sym (append-nil (row_text default_writer header)))

-- rows that follow others
pub rows-append : (a b : List (List Cell)) → rows_text (a ++ b) ≡ rows_text a ++ rows_text b
rows-append a b = ap (flat_map (row_text default_writer)) (map-append fields_of_row a b)
    ∙ flat_map-append (row_text default_writer) (map fields_of_row a) (map fields_of_row b)

-- a row more was written
pub rows-more : (rows : List (List Cell)) (n : ℕ) → n < length rows
    → rows_text (take n rows) ++ row_text default_writer (fields_of_row (get_or rows n [])) ≡ rows_text (take (n + 1) rows)
rows-more rows n within =
    ap (λ (t : List ℕ). rows_text (take n rows) ++ t) (sym (append-nil (row_text default_writer (fields_of_row (get_or rows n [])))))
    ∙ sym (rows-append (take n rows) (get_or rows n [] ∷ []))
    ∙ ap rows_text (sym (take_more rows n [] within))
