-- Parts of columns, and columns of rows.
use Rattle.std.proofs.Common.{◌≡◌, ◌≤◌, ◌<◌, ◌+◌, ◌-◌, ℕ, zero, suc, List, [], ◌∷◌, length, take, drop, map, get_or, Bool, true, Some, refl}
use Rattle.std.proofs.Common.{sym, ap, ◌∙◌, arith, subst}
use Rattle.std.specs.Prelude.{if◌then◌else◌, nat_lt, slice_get}
use Rattle.std.proofs.lemmas.List.{drop-map, take-map, take_all, length-map}
use Rattle.std.proofs.lemmas.Bool.{ltb-true}
use Rattle.std.proofs.lemmas.Option.{slice_get-get_or}
use Rattle.csv.specs.Records.{Rising, cut_from, last_end}
use Rattle.query_model.specs.Cells.{cell_at, column_of}
use Rattle.query_model.specs.declared.cell.Cell.{Cell}
use Rattle.query_model.specs.declared.cell.Cell.TheVariants.{Null, Text}
use Rattle.row_text.specs.declared.column_slice.ColumnSlice.{ColumnSlice}
use Rattle.row_text.specs.Rows.{AreLong, AreRows, IsStoredTable, Table, beside, cells_in, kinds_in, part_of, rows_from, table_of}
use Rattle.row_text.specs.Slices.{IsColumnOf, IsSlice, cells_of_slice, kind_of}
use Rattle.row_text.specs.declared.cell_column.Stored.{Stored}
use Rattle.row_text.specs.Stored.{AreTexts, ColumnCells, IsStored, numbers, texts}
use Rattle.row_text.specs.Stored.{column_of as column_of_stored}
use Rattle.row_text.proofs.TableLemmas.{long-head, long-tail, rows-length}

-- numbers beside their marks, part by part
pub numbers-length : {N : Type 0} (cell : N → Cell) (values : List N) (known : List Bool) → length values ≡ length known
    → length (numbers cell values known) ≡ length values
unfolding numbers
numbers-length cell [] [] e = refl
numbers-length cell [] (m ∷ ms) e = refl
numbers-length cell (v ∷ vs) [] e = absurd (omega arith)
numbers-length cell (v ∷ vs) (m ∷ ms) e = ap suc (numbers-length cell vs ms (omega arith))

numbers-take : {N : Type 0} (cell : N → Cell) (n : ℕ) (values : List N) (known : List Bool)
    → numbers cell (take n values) (take n known) ≡ take n (numbers cell values known)
unfolding numbers
numbers-take cell zero vs ms = refl
numbers-take cell (suc n) [] ms = refl
numbers-take cell (suc n) (v ∷ vs) [] = refl
numbers-take cell (suc n) (v ∷ vs) (m ∷ ms) = ap (λ (t : List Cell). (if m then cell v else Null) ∷ t) (numbers-take cell n vs ms)

numbers-drop : {N : Type 0} (cell : N → Cell) (n : ℕ) (values : List N) (known : List Bool) → length values ≡ length known
    → numbers cell (drop n values) (drop n known) ≡ drop n (numbers cell values known)
unfolding numbers
numbers-drop cell zero vs ms e = refl
numbers-drop cell (suc n) [] [] e = refl
numbers-drop cell (suc n) [] (m ∷ ms) e = absurd (omega arith)
numbers-drop cell (suc n) (v ∷ vs) [] e = absurd (omega arith)
numbers-drop cell (suc n) (v ∷ vs) (m ∷ ms) e = numbers-drop cell n vs ms (omega arith)

pub numbers-part : {N : Type 0} (cell : N → Cell) (from len : ℕ) (values : List N) (known : List Bool) → length values ≡ length known
    → numbers cell (take len (drop from values)) (take len (drop from known)) ≡ take len (drop from (numbers cell values known))
numbers-part cell from len values known e =
    numbers-take cell len (drop from values) (drop from known) ∙ ap (take len) (numbers-drop cell from values known e)

-- texts of one run of bytes, part by part
pub cuts-length : (start : ℕ) (ends bytes : List ℕ) → length (cut_from start ends bytes) ≡ length ends
unfolding cut_from
cuts-length start [] bytes = refl
cuts-length start (e ∷ es) bytes = ap suc (cuts-length e es bytes)

pub texts-length : (bytes ends : List ℕ) → length (texts bytes ends) ≡ length ends
texts-length bytes ends = length-map (cut_from 0 ends bytes) Text ∙ cuts-length 0 ends bytes

cuts-drop : (n start : ℕ) (ends bytes : List ℕ)
    → cut_from (last_end start (take n ends)) (drop n ends) bytes ≡ drop n (cut_from start ends bytes)
unfolding cut_from last_end
cuts-drop zero start ends bytes = refl
cuts-drop (suc n) start [] bytes = refl
cuts-drop (suc n) start (e ∷ es) bytes = cuts-drop n e es bytes

cuts-take : (n start : ℕ) (ends bytes : List ℕ) → cut_from start (take n ends) bytes ≡ take n (cut_from start ends bytes)
unfolding cut_from
cuts-take zero start ends bytes = refl
cuts-take (suc n) start [] bytes = refl
cuts-take (suc n) start (e ∷ es) bytes = ap (λ (t : List (List ℕ)). take (e - start) (drop start bytes) ∷ t) (cuts-take n e es bytes)

pub texts-part : (from len : ℕ) (bytes ends : List ℕ)
    → map Text (cut_from (last_end 0 (take from ends)) (take len (drop from ends)) bytes) ≡ take len (drop from (texts bytes ends))
texts-part from len bytes ends =
    ap (map Text) (cuts-take len (last_end 0 (take from ends)) (drop from ends) bytes ∙ ap (take len) (cuts-drop from 0 ends bytes))
    ∙ sym (take-map Text len (drop from (cut_from 0 ends bytes))) ∙ ap (take len) (sym (drop-map Text from (cut_from 0 ends bytes)))

-- places that rise begin within their end
pub rising-within : (start : ℕ) (ends : List ℕ) (size : ℕ) → Rising start ends size → start ≤ size
unfolding Rising
rising-within start [] size h = h
rising-within start (e ∷ es) size h = let rest = rising-within e es size h.1 in let first : start ≤ e = h.0 in omega (arith, rest, first)

rising-drop : (n start : ℕ) (ends : List ℕ) (size : ℕ) → Rising start ends size → Rising (last_end start (take n ends)) (drop n ends) size
unfolding Rising last_end
rising-drop zero start ends size h = h
rising-drop (suc n) start [] size h = h
rising-drop (suc n) start (e ∷ es) size h = rising-drop n e es size h.1

rising-take : (n start : ℕ) (ends : List ℕ) (size : ℕ) → Rising start ends size → Rising start (take n ends) size
unfolding Rising
rising-take zero start ends size h = rising-within start ends size h
rising-take (suc n) start [] size h = h
rising-take (suc n) start (e ∷ es) size h = (h.0, rising-take n e es size h.1)

pub rising-part : (from len : ℕ) (bytes ends : List ℕ) → AreTexts bytes ends
    → Rising (last_end 0 (take from ends)) (take len (drop from ends)) (length bytes)
rising-part from len bytes ends h =
    rising-take len (last_end 0 (take from ends)) (drop from ends) (length bytes) (rising-drop from 0 ends (length bytes) h.rising)

-- the text at a place begins where the one before it ends
pub start-first : (ends : List ℕ) → 0 ≡ last_end 0 (take 0 ends)
unfolding last_end
start-first ends = refl

last-taken : (n start : ℕ) (ends : List ℕ) → n < length ends → get_or ends n 0 ≡ last_end start (take (suc n) ends)
unfolding last_end
last-taken n start [] h = absurd (omega arith)
last-taken zero start (e ∷ es) h = refl
last-taken (suc n) start (e ∷ es) h = last-taken n e es (omega arith)

pub start-later : (place : ℕ) (ends : List ℕ) → (place ≡ 0 → ⊥) → place ≤ length ends
    → get_or ends (place - 1) 0 ≡ last_end 0 (take place ends)
start-later zero ends n h = absurd (n refl)
start-later (suc place) ends n h =
    let same : suc place - 1 ≡ place = omega arith in
    ap (λ (k : ℕ). get_or ends k 0) same ∙ last-taken place 0 ends (omega arith)

-- the first column of rows, and the others
column-first : (column : List Cell) (rows : List (List Cell)) → length column ≡ length rows → column_of 0 (beside column rows) ≡ column
unfolding beside
column-first [] rows e = refl
column-first (c ∷ cs) [] e = absurd (omega arith)
column-first (c ∷ cs) (r ∷ rs) e = ap (λ (t : List Cell). c ∷ t) (column-first cs rs (omega arith))

column-next : (n : ℕ) (column : List Cell) (rows : List (List Cell)) → length column ≡ length rows
    → column_of (suc n) (beside column rows) ≡ column_of n rows
unfolding beside
column-next n [] [] e = refl
column-next n [] (r ∷ rs) e = absurd (omega arith)
column-next n (c ∷ cs) [] e = absurd (omega arith)
column-next n (c ∷ cs) (r ∷ rs) e = ap (λ (t : List Cell). cell_at n r ∷ t) (column-next n cs rs (omega arith))

-- a column of the rows that columns make
pub column-there : (count : ℕ) (columns : List ColumnCells) (n : ℕ) (column : ColumnCells) → AreLong count (cells_in columns)
    → slice_get columns n ≡ Some column
    → (length column.cells ≡ count) × (n < length (kinds_in columns)) × (slice_get (kinds_in columns) n ≡ Some column.kind)
    × (column_of n (rows_from count (cells_in columns)) ≡ column.cells)
unfolding rows_from
column-there count [] n column long e = cc e
column-there count (c ∷ cs) zero column long e =
    let same : c ≡ column = cc in
    let size : length c.cells ≡ count = long-head count c.cells (cells_in cs) long in
    let rest : length (rows_from count (cells_in cs)) ≡ count = rows-length count (cells_in cs)
    (long-tail count c.cells (cells_in cs) long) in (
      ap (λ (k : ColumnCells). length k.cells) (sym same) ∙ size,
      omega arith,
      ap (λ (k : ColumnCells). Some k.kind) same,
      column-first c.cells (rows_from count (cells_in cs)) (size ∙ sym rest) ∙ ap (λ (k : ColumnCells). k.cells) same,
    )
column-there count (c ∷ cs) (suc n) column long e =
    let size : length c.cells ≡ count = long-head count c.cells (cells_in cs) long in
    let tail = long-tail count c.cells (cells_in cs) long in
    let rest : length (rows_from count (cells_in cs)) ≡ count = rows-length count (cells_in cs) tail in
    let (same, within, kind, cells) = column-there count cs n column tail e in (
      same,
      omega arith,
      kind,
      column-next n c.cells (rows_from count (cells_in cs)) (size ∙ sym rest) ∙ cells,
    )

-- an element that a slice gave
pub found : {X : Type 0} (xs : List X) (n : ℕ) (x : X) → true ≡ nat_lt n (length xs) → x ≡ get_or xs n x → slice_get xs n ≡ Some x
found xs n x within is = slice_get-get_or xs n x (ltb-true n (length xs) (sym within)) ∙ ap Some (sym is)

-- a column of a part of a table, as slices
pub column-part : (table : Table) (count from len n : ℕ) (columns : List ColumnCells) (column : ColumnCells) (slice : ColumnSlice)
    → table ≡ table_of count columns → IsStoredTable count columns → slice_get columns n ≡ Some column
    → kind_of slice ≡ column.kind → cells_of_slice slice ≡ take len (drop from column.cells) → IsSlice slice
    → IsColumnOf (part_of from len table) n slice
column-part table count from len n columns column slice same stored e kind cells slices =
    let (size, within, there, all) = column-there count columns n column stored.long e in
    subst (λ (t : Table). IsColumnOf (part_of from len t) n slice) (sym same) (record {
      within = within;
      kind = there ∙ ap Some (sym kind);
      cells = cells ∙ ap (λ (t : List Cell). take len (drop from t)) (sym all)
          ∙ ap (take len) (drop-map (cell_at n) from (rows_from count (cells_in columns)))
          ∙ take-map (cell_at n) len (drop from (rows_from count (cells_in columns)));
      slices = slices;
    })

pub column-long : (table : Table) (count from len n : ℕ) (columns : List ColumnCells) (column : ColumnCells)
    → table ≡ table_of count columns → IsStoredTable count columns → slice_get columns n ≡ Some column → from + len ≤ length table.rows
    → from + len ≤ length column.cells
column-long table count from len n columns column same stored e within =
    let there = column-there count columns n column stored.long e in
    let size : length column.cells ≡ count = there.0 in
    let rows : length table.rows ≡ count = ap (λ (t : Table). length t.rows) same ∙ rows-length count (cells_in columns) stored.long in
    omega (arith, size, rows, within)

-- all rows of a table
pub stored-length : (table : Table) (count : ℕ) (columns : List ColumnCells) → table ≡ table_of count columns → IsStoredTable count columns
    → length table.rows ≡ count
stored-length table count columns same stored = ap (λ (t : Table). length t.rows) same ∙ rows-length count (cells_in columns) stored.long

pub stored-typed : (table : Table) (count : ℕ) (columns : List ColumnCells) → table ≡ table_of count columns → IsStoredTable count columns
    → AreRows table.kinds table.rows
stored-typed table count columns same stored = subst (λ (t : Table). AreRows t.kinds t.rows) (sym same) stored.typed

pub part-all : (table : Table) (count : ℕ) → length table.rows ≡ count → part_of 0 (count - 0) table ≡ table
part-all table count size =
    let whole : length table.rows ≤ count - 0 = omega (arith, size) in
    ap (λ (rows : List (List Cell)). record table { rows = rows }) (take_all (count - 0) table.rows whole)

-- what is seen of a column, once it is known how its cells lie
pub seen-as : (seen : ColumnCells) (stored other : Stored) → column_of_stored stored ≡ seen → IsStored stored → stored ≡ other
    → (seen.cells ≡ (column_of_stored other).cells) × IsStored other
seen-as seen stored other view kept is =
    (ap (λ (t : ColumnCells). t.cells) (sym view) ∙ ap (λ (t : Stored). (column_of_stored t).cells) is, subst IsStored is kept)

-- places within the cells are within the numbers and their marks, and within the texts
pub numbers-within : {N : Type 0} (cell : N → Cell) (values : List N) (known : List Bool) (cells : List Cell) (end : ℕ)
    → cells ≡ numbers cell values known → length values ≡ length known → end ≤ length cells → (end ≤ length values) × (end ≤ length known)
numbers-within cell values known cells end is same within =
    let size : length cells ≡ length values = ap length is ∙ numbers-length cell values known same in
    (omega (arith, size, within), omega (arith, size, within, same))

pub texts-within : (bytes ends : List ℕ) (cells : List Cell) (end : ℕ) → cells ≡ texts bytes ends → end ≤ length cells → end ≤ length ends
texts-within bytes ends cells end is within =
    let size : length cells ≡ length ends = ap length is ∙ texts-length bytes ends in
    omega (arith, size, within)
