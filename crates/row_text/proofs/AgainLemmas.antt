-- What is written of rows is read again.
use Rattle.std.proofs.Common.{◌≡◌, ◌≤◌, ◌<◌, ◌+◌, ℕ, zero, suc, List, [], ◌∷◌, ◌++◌, length, map, true, false, Option, Some, None, refl}
use Rattle.std.proofs.Common.{sym, ap, ◌∙◌, arith, subst, inl, inr, length-append}
use Rattle.std.specs.Prelude.{ℤ, flat_map, option_map, if◌then◌else◌, ◌==◌, ◌≢◌}
use Rattle.std.specs.Fmt.{signed_decimal}
use Rattle.std.specs.List.{list_any}
use Rattle.std.specs.Str.{is_utf8}
use Rattle.std.proofs.lemmas.Bool.{cases_Bool, ne_eqb}
use Rattle.std.proofs.lemmas.List.{length-map}
use Rattle.csv.proofs.RoundTrip.{read-write, rows_text}
use Rattle.csv.specs.Machine.{next_record}
use Rattle.csv.specs.Reading.{default_config, records_from, strip_bom}
use Rattle.csv.specs.Writing.{default_writer, escaped, field_text, fields_text, is_blank, needs_byte, read_back, row_body, row_text}
use Rattle.csv.specs.declared.parser.State.TheVariants as st
use Rattle.query_model.specs.Cells.{IsOfKind, IsRow, printed}
use Rattle.query_model.specs.declared.cell.Cell.{Cell}
use Rattle.query_model.specs.declared.cell.Cell.TheVariants.{Null, Int, Sum, Text}
use Rattle.query_model.specs.declared.column.Column.{Column}
use Rattle.query_model.specs.declared.kind.Kind.{Kind}
use Rattle.query_model.specs.declared.kind.Kind.TheVariants as kind
use Rattle.row_text.specs.Answer.{BeginsPlain, fields_of_row, table_text}
use Rattle.row_text.specs.Fields.{cell_of, cells_of, int_of, joined}
use Rattle.row_text.specs.Rows.{AreRows}
use Rattle.row_text.specs.Table.{EachReads, IsTable, kinds_of, names_of, records_of}
use Rattle.row_text.proofs.OneReadingLemmas.{tails}
use Rattle.row_text.proofs.IntLemmas.{int-again, int-range, signed-some}

-- the text of a record has a byte at least
row-some : (fields : List (List ℕ)) → 1 ≤ length (row_text default_writer fields)
row-some fields =
    let blank : List ℕ = if is_blank default_writer fields then 34 ∷ 34 ∷ [] else [] in
    let end : List ℕ = 10 ∷ [] in
    let whole = length-append (row_body default_writer fields) (blank ++ end) in
    let tail = length-append blank end in
    let one : length end ≡ 1 = refl in
    let all : length (row_text default_writer fields) ≡ length (row_body default_writer fields) + (length blank + 1) = whole
    ∙ ap (λ (n : ℕ). length (row_body default_writer fields) + n) tail in
    omega (arith, all)

records-fewer : (records : List (List (List ℕ))) → length records ≤ length (rows_text records)
unfolding rows_text
records-fewer [] = omega arith
records-fewer (fields ∷ more) =
    let rest = records-fewer more in
    let one = row-some fields in
    let size = length-append (row_text default_writer fields) (rows_text more) in
    omega (arith, rest, one, size)

-- records that were written are read back, if there are turns enough
records-again : (n : ℕ) (records : List (List (List ℕ))) → length records < n
    → records_from default_config n st.StartRecord (rows_text records) ≡ map read_back records
unfolding records_from rows_text next_record
records-again zero records h = absurd (omega arith)
records-again (suc n) [] h = refl
records-again (suc n) (fields ∷ more) h =
    rw (read-write fields (rows_text more)) (ap (λ (t : List (List (List ℕ))). read_back fields ∷ t) (records-again n more (omega arith)))

text-of-records : (records : List (List (List ℕ))) → flat_map (row_text default_writer) records ≡ rows_text records
unfolding rows_text
text-of-records [] = refl
text-of-records (fields ∷ more) = ap (λ (t : List ℕ). row_text default_writer fields ++ t) (text-of-records more)

-- a text that doesn't begin as a byte order mark does
abbrev Plain : List ℕ → Type 0
Plain bytes = (byte : ℕ) × (rest : List ℕ) × (bytes ≡ byte ∷ rest) × (byte ≢ 239)

strip-plain : (bytes : List ℕ) → Plain bytes → strip_bom bytes ≡ bytes
unfolding strip_bom
strip-plain [] p = refl
strip-plain (a ∷ []) p = refl
strip-plain (a ∷ b ∷ []) p = refl
strip-plain (a ∷ b ∷ c ∷ rest) (byte, more, e, other) =
    let same : a ≡ byte = cc in
    let ne : (a == 239) ≡ false = ne_eqb a 239 (λ f. other (sym same ∙ f)) in
    rw ne refl

plain-more : (xs ys : List ℕ) → Plain xs → Plain (xs ++ ys)
plain-more xs ys (byte, rest, e, other) = (byte, rest ++ ys, ap (λ (t : List ℕ). t ++ ys) e, other)

-- the header's text
name-plain : (byte : ℕ) (bytes : List ℕ) → byte ≢ 239 → Plain (field_text default_writer (byte ∷ bytes))
name-plain byte bytes other = elim (cases_Bool (list_any (needs_byte default_writer) (byte ∷ bytes))) [
  | inl needs ↦ (34, escaped default_writer (byte ∷ bytes) ++ 34 ∷ [], rw needs refl, λ e. omega (arith, e))
  | inr plain ↦ (byte, bytes, (rw plain refl), other)
]

header-plain : (names : List (List ℕ)) → BeginsPlain names → Plain (row_text default_writer names)
unfolding fields_text is_blank
header-plain [] p = absurd p
header-plain ([] ∷ []) p = (34, 34 ∷ 10 ∷ [], refl, λ e. omega (arith, e))
header-plain ([] ∷ next ∷ more) p = (44, _, refl, λ e. omega (arith, e))
header-plain ((byte ∷ bytes) ∷ more) p = plain-more _ _ (plain-more _ _ (name-plain byte bytes p))

-- the records of a table that was written
pub written-records : (names : List (List ℕ)) (rows : List (List Cell)) → BeginsPlain names
    → records_of (table_text names rows) ≡ names ∷ map read_back (map fields_of_row rows)
written-records [] rows p = absurd p
written-records (name ∷ names) rows p =
    let all = (name ∷ names) ∷ map fields_of_row rows in
    let text : table_text (name ∷ names) rows ≡ rows_text all = text-of-records all in
    let begins = plain-more _ (flat_map (row_text default_writer) (map fields_of_row rows)) (header-plain (name ∷ names) p) in
    let strip : strip_bom (table_text (name ∷ names) rows) ≡ rows_text all = strip-plain _ begins ∙ text in
    let few = records-fewer all in
    rw strip (records-again (length (rows_text all) + 1) all (omega (arith, few)))

-- a cell that was read reads the same once it was printed
option-int : (number : Option ℤ) (cell : Cell) → option_map Int number ≡ Some cell → (n : ℤ) × (number ≡ Some n) × (cell ≡ Int n)
option-int None cell e = cc e
option-int (Some n) cell e = (n, refl, (let f : Some (Int n) ≡ Some cell = e in cc))

int-cell : (field : List ℕ) (n : ℤ) → 0 < length field → int_of field ≡ Some n → cell_of kind.Int field ≡ Some (Int n)
int-cell [] n some e = absurd (omega arith)
int-cell (byte ∷ bytes) n some e = ap (option_map Int) e

text-read : (field : List ℕ) (cell : Cell) → cell_of kind.Text field ≡ Some cell → (is_utf8 field ≡ true) × (cell ≡ Text field)
text-read field cell e = elim (cases_Bool (is_utf8 field)) [
  | inl utf8 ↦ (utf8, (let f : Some (Text field) ≡ Some cell = rw utf8 at e in cc))
  | inr other ↦ (let f : None ≡ Some cell = rw other at e in cc f)
]

cell-again : (kind : Kind) (field : List ℕ) (cell : Cell) → cell_of kind field ≡ Some cell → cell_of kind (printed cell) ≡ Some cell
cell-again kind.Int [] cell e = (let same : Null ≡ cell = cc in subst (λ (c : Cell). cell_of kind.Int (printed c) ≡ Some c) same refl)
cell-again kind.Int (byte ∷ bytes) cell e =
    let (n, read, same) = option-int (int_of (byte ∷ bytes)) cell e in
    subst (λ (c : Cell). cell_of kind.Int (printed c) ≡ Some c) (sym same)
    (int-cell (signed_decimal n) n (signed-some n (int-range (byte ∷ bytes) n read)) (int-again n (int-range (byte ∷ bytes) n read)))
cell-again kind.Sum field cell e = cc e
cell-again kind.Text field cell e =
    let (utf8, same) = text-read field cell e in
    subst (λ (c : Cell). cell_of kind.Text (printed c) ≡ Some c) (sym same) (rw utf8 refl)

-- a cell of its kind is what its text reads as, if that has a reading
cell-back : (kind : Kind) (cell read : Cell) → IsOfKind kind cell → cell_of kind (printed cell) ≡ Some read → read ≡ cell
cell-back kind.Int Null read h e = cc
cell-back kind.Int (Int n) read h e =
    (let f : Some (Int n) ≡ Some read = sym (int-cell (signed_decimal n) n (signed-some n h) (int-again n h)) ∙ e in cc)
cell-back kind.Int (Sum n) read h e = absurd h
cell-back kind.Int (Text bytes) read h e = absurd h
cell-back kind.Sum cell read h e = cc e
cell-back kind.Text Null read h e = absurd h
cell-back kind.Text (Int n) read h e = absurd h
cell-back kind.Text (Sum n) read h e = absurd h
cell-back kind.Text (Text bytes) read h e = (text-read bytes read e).1

joined-parts : (cell : Option Cell) (cells : Option (List Cell)) (row : List Cell) → joined cell cells ≡ Some row
    → (c : Cell) × (cs : List Cell) × (cell ≡ Some c) × (cells ≡ Some cs) × (row ≡ c ∷ cs)
joined-parts None cells row e = cc e
joined-parts (Some c) None row e = cc e
joined-parts (Some c) (Some cs) row e = (c, cs, refl, refl, (let f : Some (c ∷ cs) ≡ Some row = e in cc))

row-again : (kinds : List Kind) (fields : List (List ℕ)) (row : List Cell) → cells_of kinds fields ≡ Some row
    → cells_of kinds (fields_of_row row) ≡ Some row
unfolding cells_of
row-again [] [] row e = (let same : [] ≡ row = (let f : Some [] ≡ Some row = e in cc) in subst
    (λ (r : List Cell). cells_of [] (fields_of_row r) ≡ Some r) same refl)
row-again [] (field ∷ fields) row e = cc e
row-again (kind ∷ kinds) [] row e = cc e
row-again (kind ∷ kinds) (field ∷ fields) row e =
    let (c, cs, one, rest, same) = joined-parts (cell_of kind field) (cells_of kinds fields) row e in
    subst (λ (r : List Cell). cells_of (kind ∷ kinds) (fields_of_row r) ≡ Some r) (sym same)
    (ap (λ (t : Option Cell). joined t (cells_of kinds (fields_of_row cs))) (cell-again kind field c one)
    ∙ ap (joined (Some c)) (row-again kinds fields cs rest))

row-back : (kinds : List Kind) (row read : List Cell) → IsRow kinds row → cells_of kinds (fields_of_row row) ≡ Some read → read ≡ row
unfolding cells_of IsRow
row-back [] [] read h e = (let f : Some [] ≡ Some read = e in cc)
row-back [] (c ∷ cs) read h e = absurd h
row-back (kind ∷ kinds) [] read h e = absurd h
row-back (kind ∷ kinds) (c ∷ cs) read h e =
    let (first, others, one, rest, same) = joined-parts (cell_of kind (printed c)) (cells_of kinds (fields_of_row cs)) read e in
    same ∙ ap (λ (t : Cell). t ∷ others) (cell-back kind c first h.0 one)
    ∙ ap (λ (t : List Cell). c ∷ t) (row-back kinds cs others h.1 rest)

-- a row of a column at least is read back field by field
back : (kinds : List Kind) (row read : List Cell) → (kinds ≡ [] → ⊥) → IsRow kinds row
    → cells_of kinds (read_back (fields_of_row row)) ≡ Some read → read ≡ row
unfolding IsRow
back [] row read some h e = absurd (some refl)
back (kind ∷ kinds) [] read some h e = absurd h
back (kind ∷ kinds) (c ∷ cs) read some h e = row-back (kind ∷ kinds) (c ∷ cs) read h e

rows-back : (kinds : List Kind) (rows read : List (List Cell)) → (kinds ≡ [] → ⊥) → AreRows kinds rows
    → EachReads kinds (map read_back (map fields_of_row rows)) read → read ≡ rows
unfolding EachReads
rows-back kinds [] [] some h each = refl
rows-back kinds [] (r ∷ rs) some h each = absurd each
rows-back kinds (row ∷ rows) [] some h each = absurd each
rows-back kinds (row ∷ rows) (r ∷ rs) some h each =
    ap (λ (t : List Cell). t ∷ rs) (back kinds row r some (h 0 row (omega arith)) each.0)
    ∙ ap (λ (t : List (List Cell)). row ∷ t) (rows-back kinds rows rs some (λ k d within. h (suc k) d (omega arith)) each.1)

names-some : (columns : List Column) → BeginsPlain (names_of columns) → kinds_of columns ≡ [] → ⊥
names-some [] p e = p
names-some (c ∷ cs) p e = cc e

-- rows that were written are the rows that are read of their text, wherever it has a reading
pub written-read : (columns : List Column) (rows read : List (List Cell)) → BeginsPlain (names_of columns) → AreRows (kinds_of columns) rows
    → IsTable columns (table_text (names_of columns) rows) read → read ≡ rows
written-read columns rows read p h table =
    let same : table.body ≡ map read_back (map fields_of_row rows) =
    tails (names_of columns) table.body _ (records_of (table_text (names_of columns) rows)) table.header
    (written-records (names_of columns) rows p) in
    rows-back (kinds_of columns) rows read (names-some columns p) h
    (subst (λ (t : List (List (List ℕ))). EachReads (kinds_of columns) t read) same table.each)

-- rows that were read have a reading once they are written
back-again : (kinds : List Kind) (fields : List (List ℕ)) (row : List Cell) → (kinds ≡ [] → ⊥) → cells_of kinds fields ≡ Some row
    → cells_of kinds (read_back (fields_of_row row)) ≡ Some row
unfolding cells_of
back-again [] fields row some e = absurd (some refl)
back-again (kind ∷ kinds) [] row some e = cc e
back-again (kind ∷ kinds) (field ∷ fields) row some e =
    let (c, cs, one, rest, same) = joined-parts (cell_of kind field) (cells_of kinds fields) row e in
    subst (λ (r : List Cell). cells_of (kind ∷ kinds) (read_back (fields_of_row r)) ≡ Some r) (sym same)
    (subst (λ (r : List Cell). cells_of (kind ∷ kinds) (fields_of_row r) ≡ Some r) same (row-again (kind ∷ kinds) (field ∷ fields) row e))

each-again : (kinds : List Kind) (records : List (List (List ℕ))) (rows : List (List Cell)) → (kinds ≡ [] → ⊥)
    → EachReads kinds records rows
    → EachReads kinds (map read_back (map fields_of_row rows)) rows × (length rows ≡ length records)
unfolding EachReads
each-again kinds [] [] some each = (tt, refl)
each-again kinds [] (r ∷ rs) some each = absurd each
each-again kinds (f ∷ fs) [] some each = absurd each
each-again kinds (f ∷ fs) (r ∷ rs) some each =
    let rest = each-again kinds fs rs some each.1 in
    ((back-again kinds f r some each.0, rest.0), ap suc rest.1)

pub read-written : (columns : List Column) (bytes : List ℕ) (rows : List (List Cell)) → BeginsPlain (names_of columns)
    → IsTable columns bytes rows → IsTable columns (table_text (names_of columns) rows) rows
read-written columns bytes rows p table =
    let again = each-again (kinds_of columns) table.body rows (names-some columns p) table.each in
    let size : length (map read_back (map fields_of_row rows)) ≡ length rows = length-map (map fields_of_row rows) read_back
    ∙ length-map rows fields_of_row in
    record {
      body = map read_back (map fields_of_row rows);
      header = written-records (names_of columns) rows p;
      few = omega (arith, size, again.1, table.few);
      each = again.0;
    }
