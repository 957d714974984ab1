-- Cells as they are printed, and the records of rows.
use Rattle.std.proofs.Common.{◌≡◌, ◌≤◌, ◌<◌, ◌+◌, ◌-◌, ℕ, zero, suc, List, [], ◌∷◌, ◌++◌, length, take, drop, map, get_or, Bool, true}
use Rattle.std.proofs.Common.{false, Option, Some, None, refl, sym, ap, ◌∙◌, arith}
use Rattle.std.specs.Prelude.{if◌then◌else◌}
use Rattle.std.specs.Io.KnownBytes.{Appends}
use Rattle.std.proofs.lemmas.List.{get_or-drop, get_or-map, get_or-take, length-map, length-take, map-append, take_all}
use Rattle.std.proofs.lemmas.List.{take_more}
use Rattle.csv.specs.Records.{Rising, cut_from, last_end}
use Rattle.query_model.specs.Cells.{printed}
use Rattle.query_model.specs.declared.cell.Cell.{Cell}
use Rattle.query_model.specs.declared.cell.Cell.TheVariants.{Null, Text}
use Rattle.row_text.specs.Answer.{fields_of_row}
use Rattle.row_text.specs.Rows.{AreLong, IsRange, IsStoredTable, Table, beside, cells_in, part_of, rows_from, table_of}
use Rattle.row_text.specs.Stored.{AreTexts, ColumnCells, numbers, texts}
use Rattle.row_text.proofs.TableLemmas.{long-head, long-tail, rows-length}
use Rattle.row_text.proofs.SliceLemmas.{cuts-length, rising-within, stored-length}

-- the number of a place, as it is printed
pub number-printed : {N : Type 0} (cell : N → Cell) (values : List N) (known : List Bool) (place : ℕ) (d : N) → length values ≡ length known
    → place < length values
    → printed (get_or (numbers cell values known) place Null) ≡ (if get_or known place false then printed (cell (get_or values place d))
    else [])
unfolding numbers
number-printed cell [] known place d same within = absurd (omega arith)
number-printed cell (v ∷ vs) [] place d same within = absurd (omega arith)
number-printed cell (v ∷ vs) (true ∷ ms) zero d same within = refl
number-printed cell (v ∷ vs) (false ∷ ms) zero d same within = refl
number-printed cell (v ∷ vs) (m ∷ ms) (suc place) d same within = number-printed cell vs ms place d (omega arith) (omega arith)

-- the text of a place: it begins where the one before it ends
cut-at : (place start : ℕ) (ends bytes : List ℕ) → place < length ends
    → get_or (cut_from start ends bytes) place [] ≡ take (get_or ends place 0 - last_end start (take place ends))
    (drop (last_end start (take place ends)) bytes)
unfolding cut_from last_end
cut-at place start [] bytes within = absurd (omega arith)
cut-at zero start (e ∷ es) bytes within = refl
cut-at (suc place) start (e ∷ es) bytes within = cut-at place e es bytes (omega arith)

rising-at : (place start : ℕ) (ends : List ℕ) (size : ℕ) → Rising start ends size → place < length ends
    → (last_end start (take place ends) ≤ get_or ends place 0) × (get_or ends place 0 ≤ size)
unfolding Rising last_end
rising-at place start [] size h within = absurd (omega arith)
rising-at zero start (e ∷ es) size h within = (h.0, rising-within e es size h.1)
rising-at (suc place) start (e ∷ es) size h within = rising-at place e es size h.1 (omega arith)

pub text-bounds : (bytes ends : List ℕ) (place start : ℕ) → AreTexts bytes ends → place < length ends → start ≡ last_end 0 (take place ends)
    → (start ≤ get_or ends place 0) × (get_or ends place 0 ≤ length bytes)
text-bounds bytes ends place start h within e = rw e (rising-at place 0 ends (length bytes) h.rising within)

pub text-cut : (bytes ends : List ℕ) (place start : ℕ) → place < length ends → start ≡ last_end 0 (take place ends)
    → take (get_or ends place 0 - start) (drop start bytes) ≡ get_or (cut_from 0 ends bytes) place []
text-cut bytes ends place start within e = rw e (sym (cut-at place 0 ends bytes within))

pub text-printed : (bytes ends : List ℕ) (place : ℕ) → place < length ends
    → printed (get_or (texts bytes ends) place Null) ≡ get_or (cut_from 0 ends bytes) place []
text-printed bytes ends place within =
    let inside : place < length (cut_from 0 ends bytes) = rw (cuts-length 0 ends bytes) within in
    ap printed (get_or-map Text (cut_from 0 ends bytes) place [] Null inside)

-- the row of a place, from columns
beside-at : (place : ℕ) (column : List Cell) (rows : List (List Cell)) → length column ≡ length rows → place < length column
    → get_or (beside column rows) place [] ≡ get_or column place Null ∷ get_or rows place []
unfolding beside
beside-at place [] rows same within = absurd (omega arith)
beside-at place (c ∷ cs) [] same within = absurd (omega arith)
beside-at zero (c ∷ cs) (r ∷ rs) same within = refl
beside-at (suc place) (c ∷ cs) (r ∷ rs) same within = beside-at place cs rs (omega arith) (omega arith)

replicate-at : (count place : ℕ) → get_or (rows_from count []) place [] ≡ []
unfolding rows_from
replicate-at zero place = refl
replicate-at (suc count) zero = refl
replicate-at (suc count) (suc place) = replicate-at count place

row-there : (count place : ℕ) (columns : List ColumnCells) → AreLong count (cells_in columns) → place < count
    → get_or (rows_from count (cells_in columns)) place [] ≡ map (λ (column : ColumnCells). get_or column.cells place Null) columns
unfolding rows_from
row-there count place [] long within = replicate-at count place
row-there count place (c ∷ cs) long within =
    let size : length c.cells ≡ count = long-head count c.cells (cells_in cs) long in
    let tail = long-tail count c.cells (cells_in cs) long in
    let rest : length (rows_from count (cells_in cs)) ≡ count = rows-length count (cells_in cs) tail in
    beside-at place c.cells (rows_from count (cells_in cs)) (size ∙ sym rest) (omega (arith, size, within))
    ∙ ap (λ (t : List Cell). get_or c.cells place Null ∷ t) (row-there count place cs tail within)

-- the fields of these columns at a place
abbrev pub fields_at : ℕ → List ColumnCells → List (List ℕ)
fields_at place columns = map (λ column. printed (get_or column.cells place Null)) columns

fields-there : (place : ℕ) (columns : List ColumnCells)
    → fields_of_row (map (λ (column : ColumnCells). get_or column.cells place Null) columns) ≡ fields_at place columns
fields-there place [] = refl
fields-there place (c ∷ cs) = ap (λ (t : List (List ℕ)). printed (get_or c.cells place Null) ∷ t) (fields-there place cs)

pub fields-more : (place : ℕ) (columns : List ColumnCells) (n : ℕ) (column : ColumnCells) (old new : List (List ℕ)) → n < length columns
    → column ≡ get_or columns n column
    → old ≡ fields_at place (take n columns) → new ≡ old ++ printed (get_or column.cells place Null) ∷ []
    → new ≡ fields_at place (take (n + 1) columns)
fields-more place columns n column old new within is e f =
    f ∙ ap (λ (t : List (List ℕ)). t ++ printed (get_or column.cells place Null) ∷ []) e
    ∙ ap (λ (c : ColumnCells). fields_at place (take n columns) ++ printed (get_or c.cells place Null) ∷ []) is
    ∙ sym (map-append (λ (c : ColumnCells). printed (get_or c.cells place Null)) (take n columns) (get_or columns n column ∷ []))
    ∙ ap (fields_at place) (sym (take_more columns n column within))

pub part-row : (table : Table) (from len row : ℕ) → from + len ≤ length table.rows → row < length (part_of from len table).rows → row < len
part-row table from len row all within =
    let size = length-take len (drop from table.rows) in
    omega (arith, size, within)

-- a range of rows is within them
pub range-all : (from to : ℕ) (table : Table) → IsRange from to table → from + (to - from) ≤ length table.rows
range-all from to table range = omega (arith, range.order, range.within)

-- the place of a row of a part is within each column
pub place-within : (table : Table) (count from len row n : ℕ) (columns : List ColumnCells) (column : ColumnCells)
    → table ≡ table_of count columns → IsStoredTable count columns → from + len ≤ length table.rows
    → row < length (part_of from len table).rows
    → n < length columns → column ≡ get_or columns n column → from + row < length column.cells
place-within table count from len row n columns column same stored all within inside is =
    let rows : length table.rows ≡ count = stored-length table count columns same stored in
    let there : row < len = part-row table from len row all within in
    let at = stored.long n [] (rw (length-map columns (λ (c : ColumnCells). c.cells)) inside) in
    let size : length column.cells ≡ count = ap (λ (c : ColumnCells). length c.cells) is
    ∙ ap length (sym (get_or-map (λ (c : ColumnCells). c.cells) columns n column [] inside)) ∙ at in
    omega (arith, rows, there, size, all)

pub row-fields : (table : Table) (count from len row n : ℕ) (columns : List ColumnCells) (fields : List (List ℕ))
    → table ≡ table_of count columns → IsStoredTable count columns → from + len ≤ length table.rows
    → row < length (part_of from len table).rows
    → length columns ≤ n → fields ≡ fields_at (from + row) (take n columns)
    → fields ≡ fields_of_row (get_or (part_of from len table).rows row [])
row-fields table count from len row n columns fields same stored all within past e =
    let rows : length table.rows ≡ count = stored-length table count columns same stored in
    let there : row < len = part-row table from len row all within in
    let inside : from + row < count = omega (arith, rows, there, all) in
    let part : get_or (take len (drop from table.rows)) row [] ≡ get_or table.rows (from + row) [] =
    get_or-take len (drop from table.rows) row [] there ∙ get_or-drop from table.rows row [] in
    let row_is : get_or table.rows (from + row) [] ≡ map (λ (column : ColumnCells). get_or column.cells (from + row) Null) columns =
    ap (λ (t : Table). get_or t.rows (from + row) []) same ∙ row-there count (from + row) columns stored.long inside in
    e ∙ ap (fields_at (from + row)) (take_all n columns past) ∙ sym (fields-there (from + row) columns) ∙ ap fields_of_row (sym row_is)
    ∙ ap fields_of_row (sym part)

-- the number of a place, as a cell
pub number-at : {N : Type 0} (cell : N → Cell) (values : List N) (known : List Bool) (place : ℕ) (d : N) → length values ≡ length known
    → place < length values
    → get_or (numbers cell values known) place Null ≡ (if get_or known place false then cell (get_or values place d) else Null)
unfolding numbers
number-at cell [] known place d same within = absurd (omega arith)
number-at cell (v ∷ vs) [] place d same within = absurd (omega arith)
number-at cell (v ∷ vs) (m ∷ ms) zero d same within = refl
number-at cell (v ∷ vs) (m ∷ ms) (suc place) d same within = number-at cell vs ms place d (omega arith) (omega arith)

pub text-there : (bytes ends : List ℕ) (place : ℕ) → place < length ends
    → get_or (texts bytes ends) place Null ≡ Text (get_or (cut_from 0 ends bytes) place [])
text-there bytes ends place within =
    let inside : place < length (cut_from 0 ends bytes) = rw (cuts-length 0 ends bytes) within in
    get_or-map Text (cut_from 0 ends bytes) place [] Null inside

-- the cells of these columns at a place
abbrev pub cells_at : ℕ → List ColumnCells → List Cell
cells_at place columns = map (λ column. get_or column.cells place Null) columns

pub cells-more : (place : ℕ) (columns : List ColumnCells) (n : ℕ) (column : ColumnCells) (old new : List Cell) → n < length columns
    → column ≡ get_or columns n column
    → old ≡ cells_at place (take n columns) → new ≡ old ++ get_or column.cells place Null ∷ [] → new ≡ cells_at place (take (n + 1) columns)
cells-more place columns n column old new within is e f =
    f ∙ ap (λ (t : List Cell). t ++ get_or column.cells place Null ∷ []) e
    ∙ ap (λ (c : ColumnCells). cells_at place (take n columns) ++ get_or c.cells place Null ∷ []) is
    ∙ sym (map-append (λ (c : ColumnCells). get_or c.cells place Null) (take n columns) (get_or columns n column ∷ []))
    ∙ ap (cells_at place) (sym (take_more columns n column within))

pub row-cells : (table : Table) (count from len row n : ℕ) (columns : List ColumnCells) (cells : List Cell)
    → table ≡ table_of count columns → IsStoredTable count columns → from + len ≤ length table.rows
    → row < length (part_of from len table).rows
    → length columns ≤ n → cells ≡ cells_at (from + row) (take n columns) → cells ≡ get_or (part_of from len table).rows row []
row-cells table count from len row n columns cells same stored all within past e =
    let rows : length table.rows ≡ count = stored-length table count columns same stored in
    let there : row < len = part-row table from len row all within in
    let inside : from + row < count = omega (arith, rows, there, all) in
    let part : get_or (take len (drop from table.rows)) row [] ≡ get_or table.rows (from + row) [] =
    get_or-take len (drop from table.rows) row [] there ∙ get_or-drop from table.rows row [] in
    let row_is : get_or table.rows (from + row) [] ≡ cells_at (from + row) columns =
    ap (λ (t : Table). get_or t.rows (from + row) []) same ∙ row-there count (from + row) columns stored.long inside in
    e ∙ ap (cells_at (from + row)) (take_all n columns past) ∙ sym row_is ∙ sym part

-- a record more was written
pub appended : (old new : List ℕ) (o : Option (List ℕ)) → Appends (Some old) o new → o ≡ Some (old ++ new)
appended old new None h = absurd h
appended old new (Some bytes) h = ap Some h

-- names that became fields
pub names-more : (names : List (List ℕ)) (n : ℕ) (name : List ℕ) (old new : List (List ℕ)) → n < length names → name ≡ get_or names n name
    → old ≡ take n names → new ≡ old ++ name ∷ [] → new ≡ take (n + 1) names
names-more names n name old new within is e f =
    f ∙ ap (λ (t : List (List ℕ)). t ++ name ∷ []) e ∙ ap (λ (t : List ℕ). take n names ++ t ∷ []) is ∙ sym (take_more names n name within)

pub names-all : (names : List (List ℕ)) (n : ℕ) (fields : List (List ℕ)) → length names ≤ n → fields ≡ take n names → fields ≡ names
names-all names n fields past e = e ∙ take_all n names past
