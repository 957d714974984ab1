-- Columns as rows.
use Rattle.std.proofs.Common.{◌≡◌, ◌≤◌, ◌<◌, ◌+◌, ℕ, zero, suc, List, [], ◌∷◌, ◌++◌, length, take, drop, get_or, true, Option, Some}
use Rattle.std.proofs.Common.{None, refl, sym, ap, ◌∙◌, arith, subst, inl, inr, append_assoc, length-append}
use Rattle.std.proofs.Math.ListN.{set}
use Rattle.std.proofs.lemmas.Grind.{replicate_next}
use Rattle.std.proofs.lemmas.Bool.{cases_eq}
use Rattle.std.proofs.lemmas.List.{append-nil, drop_all, get_or-map, get_or-set_other, get_or-set_same, length-map, length-replicate}
use Rattle.std.proofs.lemmas.List.{map-append, take_all, take_more}
use Rattle.std.proofs.lemmas.List.Elements.{All-cons, All-nil, All-push}
use Rattle.csv.specs.Records.{field_at}
use Rattle.csv.proofs.RecordFacts.{field-get}
use Rattle.query_model.specs.declared.cell.Cell.{Cell}
use Rattle.query_model.specs.declared.column.Column.{Column}
use Rattle.query_model.specs.declared.kind.Kind.{Kind}
use Rattle.query_model.specs.declared.bounds.TheConstants.{MOST_ROWS}
use Rattle.row_text.specs.Fields.{cell_of, cells_of, joined}
use Rattle.row_text.specs.Stored.{ColumnCells}
use Rattle.row_text.specs.Table.{EachReads, IsFirstBad, IsFirstBadRow, IsTable, records_of, kinds_of, names_of}
use Rattle.row_text.specs.Rows.{AreLong, TakesRecord, Took, beside, cells_in, kinds_in, rows_from, with_row}

pub long-tail : (count : ℕ) (column : List Cell) (columns : List (List Cell)) → AreLong count (column ∷ columns) → AreLong count columns
long-tail count column columns h k d within = h (suc k) d (omega arith)

pub long-head : (count : ℕ) (column : List Cell) (columns : List (List Cell)) → AreLong count (column ∷ columns) → length column ≡ count
long-head count column columns h = h 0 column (omega arith)

-- a column of as many cells as there are rows
beside-length : (column : List Cell) (rows : List (List Cell)) → length column ≡ length rows → length (beside column rows) ≡ length rows
unfolding beside
beside-length [] rows e = e
beside-length (c ∷ cs) [] e = absurd (omega arith)
beside-length (c ∷ cs) (r ∷ rs) e = ap suc (beside-length cs rs (omega arith))

beside-more : (column : List Cell) (rows : List (List Cell)) (cell : Cell) (row : List Cell) → length column ≡ length rows
    → beside (column ++ cell ∷ []) (rows ++ row ∷ []) ≡ beside column rows ++ (cell ∷ row) ∷ []
unfolding beside
beside-more [] [] cell row e = refl
beside-more [] (r ∷ rs) cell row e = absurd (omega arith)
beside-more (c ∷ cs) [] cell row e = absurd (omega arith)
beside-more (c ∷ cs) (r ∷ rs) cell row e = ap (λ (t : List (List Cell)). (c ∷ r) ∷ t) (beside-more cs rs cell row (omega arith))

pub rows-length : (count : ℕ) (columns : List (List Cell)) → AreLong count columns → length (rows_from count columns) ≡ count
unfolding rows_from
rows-length count [] h = length-replicate count []
rows-length count (column ∷ columns) h =
    let rest : length (rows_from count columns) ≡ count = rows-length count columns (long-tail count column columns h) in
    beside-length column (rows_from count columns) (long-head count column columns h ∙ sym rest) ∙ rest

-- a row more
pub rows-more : (count : ℕ) (columns : List (List Cell)) (cells : List Cell) → AreLong count columns → length cells ≡ length columns
    → rows_from (count + 1) (with_row columns cells) ≡ rows_from count columns ++ cells ∷ []
unfolding rows_from with_row
rows-more count [] [] h e = replicate_next count []
rows-more count [] (c ∷ cs) h e = absurd (omega arith)
rows-more count (column ∷ columns) [] h e = absurd (omega arith)
rows-more count (column ∷ columns) (c ∷ cs) h e =
    let rest : length (rows_from count columns) ≡ count = rows-length count columns (long-tail count column columns h) in
    ap (beside (column ++ c ∷ [])) (rows-more count columns cs (long-tail count column columns h) (omega arith))
    ∙ beside-more column (rows_from count columns) c cs (long-head count column columns h ∙ sym rest)

pub long-more : (count : ℕ) (columns : List (List Cell)) (cells : List Cell) → AreLong count columns → length cells ≡ length columns
    → AreLong (count + 1) (with_row columns cells)
unfolding with_row
long-more count [] [] h e = All-nil _
long-more count [] (c ∷ cs) h e = absurd (omega arith)
long-more count (column ∷ columns) [] h e = absurd (omega arith)
long-more count (column ∷ columns) (c ∷ cs) h e =
    All-cons (λ (t : List Cell). length t ≡ count + 1) (column ++ c ∷ []) (with_row columns cs)
    (length-append column (c ∷ []) ∙ ap (λ (n : ℕ). n + 1) (long-head count column columns h))
    (long-more count columns cs (long-tail count column columns h) (omega arith))

joined-none : (cell : Option Cell) → joined cell None ≡ None
joined-none None = refl
joined-none (Some c) = refl

-- as many cells as columns
joined-some : (cell : Option Cell) (cells : Option (List Cell)) (row : List Cell) → joined cell cells ≡ Some row
    → (c : Cell) × (cs : List Cell) × (cells ≡ Some cs) × (row ≡ c ∷ cs)
joined-some None cells row e = cc e
joined-some (Some c) None row e = cc e
joined-some (Some c) (Some cs) row e = (c, cs, refl, (let f : Some (c ∷ cs) ≡ Some row = e in cc))

pub cells-length : (kinds : List Kind) (fields : List (List ℕ)) (cells : List Cell) → cells_of kinds fields ≡ Some cells
    → length cells ≡ length kinds
unfolding cells_of
cells-length [] [] cells e = (let f : Some [] ≡ Some cells = e in let g : [] ≡ cells = cc in ap length (sym g))
cells-length [] (f ∷ fs) cells e = cc e
cells-length (k ∷ ks) [] cells e = cc e
cells-length (k ∷ ks) (f ∷ fs) cells e =
    let (c, cs, rest, whole) = joined-some _ _ cells e in
    ap length whole ∙ ap suc (cells-length ks fs cs rest)

-- too few fields, or too many
pub none-of-lengths : (columns : List ColumnCells) (fields : List (List ℕ)) → (length fields ≡ length columns → ⊥)
    → cells_of (kinds_in columns) fields ≡ None
unfolding cells_of
none-of-lengths [] [] h = absurd (h refl)
none-of-lengths [] (f ∷ fs) h = refl
none-of-lengths (k ∷ ks) [] h = refl
none-of-lengths (k ∷ ks) (f ∷ fs) h = ap (joined (cell_of k.kind f)) (none-of-lengths ks fs (λ e. h (ap suc e))) ∙ joined-none _

-- one field is no cell
pub none-at : (columns : List ColumnCells) (fields : List (List ℕ)) (i : ℕ) (d : ColumnCells) → i < length columns
    → length fields ≡ length columns
    → cell_of (get_or columns i d).kind (get_or fields i []) ≡ None → cells_of (kinds_in columns) fields ≡ None
unfolding cells_of
none-at [] fields i d within e h = absurd (omega arith)
none-at (k ∷ ks) [] i d within e h = absurd (omega arith)
none-at (k ∷ ks) (f ∷ fs) zero d within e h = ap (λ (t : Option Cell). joined t (cells_of (kinds_in ks) fs)) h
none-at (k ∷ ks) (f ∷ fs) (suc i) d within e h =
    ap (joined (cell_of k.kind f)) (none-at ks fs i d (omega arith) (omega arith) h) ∙ joined-none _

-- each column took its field
pub all-took : (old new : List ColumnCells) (fields : List (List ℕ)) → length new ≡ length old → length fields ≡ length old
    → ((k : ℕ) (d : ColumnCells) → k < length old → Took (get_or old k d) (get_or fields k []) (get_or new k d))
    → TakesRecord old new fields true
unfolding cells_of with_row
all-took [] [] [] e f h = ([], refl, refl, refl)
all-took [] [] (g ∷ gs) e f h = absurd (omega arith)
all-took [] (n ∷ ns) fields e f h = absurd (omega arith)
all-took (o ∷ os) [] fields e f h = absurd (omega arith)
all-took (o ∷ os) (n ∷ ns) [] e f h = absurd (omega arith)
all-took (o ∷ os) (n ∷ ns) (g ∷ gs) e f h =
    let took : Took o g n = h 0 o (omega arith) in
    let (cell, read, grown) = took.1 in
    let (cells, reads, rest, kinds) = all-took os ns gs (omega arith) (omega arith) (λ k d lt. h (suc k) d (omega arith)) in (
      cell ∷ cells,
      ap (λ (t : Option Cell). joined t (cells_of (kinds_in os) gs)) read ∙ ap (joined (Some cell)) reads,
      ap (λ (t : List Cell). t ∷ cells_in ns) grown ∙ ap (λ (t : List (List Cell)). (o.cells ++ cell ∷ []) ∷ t) rest,
      ap (λ (t : Kind). t ∷ kinds_in ns) took.0 ∙ ap (λ (t : List Kind). o.kind ∷ t) kinds,
    )

get-any : {X : Type 0} (xs : List X) (i : ℕ) (d e : X) → i < length xs → get_or xs i d ≡ get_or xs i e
get-any [] i d e within = absurd (omega arith)
get-any (x ∷ xs) zero d e within = refl
get-any (x ∷ xs) (suc i) d e within = get-any xs i d e (omega arith)

-- what holds of the columns before i, where i has taken its field
pub took-next : (old columns : List ColumnCells) (fields : List (List ℕ)) (i : ℕ) (new r : ColumnCells) (field : List ℕ)
    → length columns ≡ length old → i < length columns → Some field ≡ field_at fields i
    → ((k : ℕ) (d : ColumnCells) → k < i → Took (get_or old k d) (get_or fields k []) (get_or columns k d))
    → ((k : ℕ) (d : ColumnCells) → i ≤ k → get_or columns k d ≡ get_or old k d)
    → Took (get_or columns i r) field new
    → ((k : ℕ) (d : ColumnCells) → k < i + 1 → Took (get_or old k d) (get_or fields k []) (get_or (set columns i new) k d))
    × ((k : ℕ) (d : ColumnCells) → i + 1 ≤ k → get_or (set columns i new) k d ≡ get_or old k d)
took-next old columns fields i new r field same within at done left took = (
  λ k d below.
      elim (cases_eq k i) [
        | inl e ↦
            let column : get_or columns i r ≡ get_or old i d = get-any columns i r d within ∙ left i d (omega arith) in
            let cell : field ≡ get_or fields i [] = sym (field-get fields i field (sym at)) in
            let now : get_or (set columns i new) i d ≡ new = get_or-set_same columns i new d within in
            let here : Took (get_or old i d) (get_or fields i []) (get_or (set columns i new) i d) = rw (← column, ← cell, now) took in
            subst (λ (j : ℕ). Took (get_or old j d) (get_or fields j []) (get_or (set columns i new) j d)) (sym e) here
        | inr ne ↦
            let other : get_or (set columns i new) k d ≡ get_or columns k d = get_or-set_other columns i k new d ne in
            subst (Took (get_or old k d) (get_or fields k [])) (sym other) (done k d (omega arith))
      ],
  λ k d above. get_or-set_other columns i k new d (λ e. omega arith) ∙ left k d (omega arith),
)

-- fields and names
names-at : (columns : List Column) (i : ℕ) (d : Column) → i < length columns → get_or (names_of columns) i [] ≡ (get_or columns i d).name
names-at columns i d within = get_or-map (λ (column : Column). column.name) columns i d [] within

pub same-lists : (xs ys : List (List ℕ)) → length xs ≡ length ys → ((k : ℕ) → k < length xs → get_or xs k [] ≡ get_or ys k []) → xs ≡ ys
same-lists [] [] e h = refl
same-lists [] (y ∷ ys) e h = absurd (omega arith)
same-lists (x ∷ xs) [] e h = absurd (omega arith)
same-lists (x ∷ xs) (y ∷ ys) e h =
    ap (λ (t : List ℕ). t ∷ xs) (h 0 (omega arith))
    ∙ ap (λ (t : List (List ℕ)). y ∷ t) (same-lists xs ys (omega arith) (λ k within. h (suc k) (omega arith)))

pub header-same : (columns : List Column) (fields : List (List ℕ)) → length fields ≡ length columns
    → ((k : ℕ) → k < length columns → get_or fields k [] ≡ get_or (names_of columns) k []) → fields ≡ names_of columns
header-same columns fields e h =
    same-lists fields (names_of columns) (e ∙ sym (length-map columns (λ (column : Column). column.name))) (λ k within. h k (omega arith))

-- the field at i is the name there
pub name-at : (columns : List Column) (fields : List (List ℕ)) (i : ℕ) (column : Column) (field : List ℕ) → i < length columns
    → column ≡ get_or columns i column
    → Some field ≡ field_at fields i → field ≡ column.name → get_or fields i [] ≡ get_or (names_of columns) i []
name-at columns fields i column field within e at same =
    field-get fields i field (sym at) ∙ same ∙ ap (λ (c : Column). c.name) e ∙ sym (names-at columns i column within)

-- or it isn't
pub name-not : (columns : List Column) (fields : List (List ℕ)) (i : ℕ) (column : Column) (field : List ℕ) → i < length columns
    → column ≡ get_or columns i column
    → Some field ≡ field_at fields i → fields ≡ names_of columns → field ≡ column.name
name-not columns fields i column field within e at all =
    sym (field-get fields i field (sym at)) ∙ ap (λ (t : List (List ℕ)). get_or t i []) all ∙ names-at columns i column within
    ∙ ap (λ (c : Column). c.name) (sym e)

pub length-names : (columns : List Column) (fields : List (List ℕ)) → fields ≡ names_of columns → length fields ≡ length columns
length-names columns fields e = ap length e ∙ length-map columns (λ (column : Column). column.name)

-- a column without cells more
pub empty-more : (columns : List Column) (made made2 : List ColumnCells) (i : ℕ) (column : Column) (new : ColumnCells) → i < length columns
    → column ≡ get_or columns i column
    → kinds_in made ≡ kinds_of (take i columns) → AreLong 0 (cells_in made) → new ≡ record { kind = column.kind; cells = [] }
    → made2 ≡ made ++ new ∷ []
    → (kinds_in made2 ≡ kinds_of (take (i + 1) columns)) × AreLong 0 (cells_in made2)
empty-more columns made made2 i column new within e kinds long is grown =
    let k : kinds_of (take (i + 1) columns) ≡ kinds_of (take i columns) ++ column.kind ∷ [] =
    ap kinds_of (take_more columns i column within) ∙ map-append (λ (c : Column). c.kind) (take i columns) (get_or columns i column ∷ [])
    ∙ ap (λ (c : Column). kinds_of (take i columns) ++ c.kind ∷ []) (sym e) in
    let m : kinds_in made2 ≡ kinds_in made ++ column.kind ∷ [] =
    ap kinds_in grown ∙ map-append (λ (c : ColumnCells). c.kind) made (new ∷ [])
    ∙ ap (λ (c : ColumnCells). kinds_in made ++ c.kind ∷ []) is in
    let n : cells_in made2 ≡ cells_in made ++ [] ∷ [] =
    ap cells_in grown ∙ map-append (λ (c : ColumnCells). c.cells) made (new ∷ [])
    ∙ ap (λ (c : ColumnCells). cells_in made ++ c.cells ∷ []) is in (
      m ∙ ap (λ (t : List Kind). t ++ column.kind ∷ []) kinds
          ∙ sym k,
      subst (AreLong 0) (sym n) (All-push (λ (t : List Cell). length t ≡ 0) (cells_in made) [] long refl),
    )

pub empty-all : (columns : List Column) (kinds : List Kind) (i : ℕ) → length columns ≤ i → kinds ≡ kinds_of (take i columns)
    → kinds ≡ kinds_of columns
empty-all columns kinds i past e = e ∙ ap kinds_of (take_all i columns past)

length-zero : {X : Type 0} (xs : List X) → length xs ≡ 0 → xs ≡ []
length-zero [] e = refl
length-zero (x ∷ xs) e = absurd (omega arith)

-- no rows of columns without cells
pub rows-none : (columns : List (List Cell)) → AreLong 0 columns → rows_from 0 columns ≡ []
rows-none columns h = length-zero (rows_from 0 columns) (rows-length 0 columns h)

-- a record more that reads as a row
pub each-more : (kinds : List Kind) (records : List (List (List ℕ))) (rows : List (List Cell)) (fields : List (List ℕ)) (row : List Cell)
    → EachReads kinds records rows → cells_of kinds fields ≡ Some row → EachReads kinds (records ++ fields ∷ []) (rows ++ row ∷ [])
unfolding EachReads
each-more kinds [] [] fields row h e = (e, tt)
each-more kinds [] (x ∷ xs) fields row h e = absurd h
each-more kinds (r ∷ rs) [] fields row h e = absurd h
each-more kinds (r ∷ rs) (x ∷ xs) fields row h e = (h.0, each-more kinds rs xs fields row h.1 e)

pub each-none : (kinds : List Kind) → EachReads kinds [] []
unfolding EachReads
each-none kinds = tt

-- a field that is no cell of its column
pub none-field : (old columns : List ColumnCells) (fields : List (List ℕ)) (i : ℕ) (r : ColumnCells) (field : List ℕ)
    → length columns ≡ length old → i < length columns → length fields ≡ length old → Some field ≡ field_at fields i
    → ((k : ℕ) (d : ColumnCells) → i ≤ k → get_or columns k d ≡ get_or old k d)
    → cell_of (get_or columns i r).kind field ≡ None → cells_of (kinds_in old) fields ≡ None
none-field old columns fields i r field same within e at left none =
    none-at old fields i r (omega arith) e (rw (← left i r (omega arith), field-get fields i field (sym at)) none)

-- no record is left
pub bad-empty : (columns : List Column) (bytes : List ℕ) → records_of bytes ≡ [] → IsFirstBad columns bytes 0
bad-empty columns bytes e body h = (let f : [] ≡ names_of columns ∷ body = sym e ∙ h in cc f)

-- the first record isn't the names
pub bad-header : (columns : List Column) (bytes : List ℕ) (fields : List (List ℕ)) (more : List (List (List ℕ)))
    → records_of bytes ≡ fields ∷ more
    → (fields ≡ names_of columns → ⊥) → IsFirstBad columns bytes 0
bad-header columns bytes fields more e h body g =
    let f : fields ∷ more ≡ names_of columns ∷ body = sym e ∙ g in h (cc f)

-- all records were read
pub table-done : (columns : List Column) (bytes : List ℕ) (count : ℕ) (rows : List (List Cell)) (done left : List (List (List ℕ)))
    → records_of bytes ≡ names_of columns ∷ (done ++ left) → left ≡ [] → length done ≡ count → count ≤ MOST_ROWS
    → EachReads (kinds_of columns) done rows
    → IsTable columns bytes rows
table-done columns bytes count rows done left split e size few each = record {
  body = done;
  header = split ∙ ap (λ (t : List (List (List ℕ))). names_of columns ∷ (done ++ t)) e
      ∙ ap (λ (t : List (List (List ℕ))). names_of columns ∷ t) (append-nil done);
  few = omega arith;
  each = each;
}

-- the next record breaks a rule
pub bad-row : (columns : List Column) (bytes : List ℕ) (count : ℕ) (rows : List (List Cell)) (done left : List (List (List ℕ)))
    (fields : List (List ℕ)) (more : List (List (List ℕ)))
    → records_of bytes ≡ names_of columns ∷ (done ++ left) → left ≡ fields ∷ more → length done ≡ count → count ≤ MOST_ROWS
    → EachReads (kinds_of columns) done rows
    → (count < MOST_ROWS → cells_of (kinds_of columns) fields ≡ None) → IsFirstBad columns bytes (count + 1)
bad-row columns bytes count rows done left fields more split e size few each bad =
    let here : IsFirstBadRow columns bytes (suc count) = record {
      before = done;
      rows = rows;
      fields = fields;
      after = more;
      header = split ∙ ap (λ (t : List (List (List ℕ))). names_of columns ∷ (done ++ t)) e;
      place = omega arith;
      each = each;
      few = omega arith;
      bad = λ within. bad (omega arith);
    } in
    let one : suc count ≡ count + 1 = omega arith in
    subst (IsFirstBad columns bytes) one here

-- the next record is a row, and what holds of the records behind it still does
pub next-row : (columns : List Column) (bytes : List ℕ) (count : ℕ) (old new : List ColumnCells) (Holds : List (List (List ℕ)) → Type 0)
    (done left : List (List (List ℕ))) (fields : List (List ℕ)) (more : List (List (List ℕ)))
    → kinds_in old ≡ kinds_of columns → AreLong count (cells_in old) → records_of bytes ≡ names_of columns ∷ (done ++ left)
    → length done ≡ count
    → EachReads (kinds_of columns) done (rows_from count (cells_in old)) → left ≡ fields ∷ more → Holds more
    → TakesRecord old new fields true
    → (kinds_in new ≡ kinds_of columns) × AreLong (count + 1) (cells_in new)
    × ((done2 : List (List (List ℕ))) × (left2 : List (List (List ℕ))) × Holds left2
    × (records_of bytes ≡ names_of columns ∷ (done2 ++ left2))
    × (length done2 ≡ count + 1) × EachReads (kinds_of columns) done2 (rows_from (count + 1) (cells_in new)))
next-row columns bytes count old new Holds done left fields more kinds long split size each e has took =
    let (row, reads, grown, same) = took in
    let width : length row ≡ length (cells_in old) = cells-length (kinds_in old) fields row reads
    ∙ length-map old (λ (c : ColumnCells). c.kind) ∙ sym (length-map old (λ (c : ColumnCells). c.cells)) in
    let rows : rows_from (count + 1) (cells_in new) ≡ rows_from count (cells_in old) ++ row ∷ [] =
    ap (rows_from (count + 1)) grown ∙ rows-more count (cells_in old) row long width in
    let reads2 : cells_of (kinds_of columns) fields ≡ Some row = ap (λ (k : List Kind). cells_of k fields) (sym kinds) ∙ reads in
    let each2 : EachReads (kinds_of columns) (done ++ fields ∷ []) (rows_from count (cells_in old) ++ row ∷ []) = each-more
    (kinds_of columns) done (rows_from count (cells_in old)) fields row each reads2 in (
      same ∙ kinds,
      subst (AreLong (count + 1)) (sym grown) (long-more count (cells_in old) row long width),
      (
        done ++ fields ∷ [],
        more,
        has,
        split ∙ ap (λ (t : List (List (List ℕ))). names_of columns ∷ (done ++ t)) e
            ∙ ap (λ (t : List (List (List ℕ))). names_of columns ∷ t) (sym (append_assoc done (fields ∷ []) more)),
        length-append done (fields ∷ []) ∙ ap (λ (n : ℕ). n + 1) size,
        subst (EachReads (kinds_of columns) (done ++ fields ∷ [])) (sym rows) each2,
      ),
    )

-- a vector whose elements were all lent and came back
pub whole : (len : ℕ) (new old items : List ColumnCells) → old ≡ items → length old ≡ len → length new ≡ length old
    → take len (new ++ drop (length new) items) ≡ new
whole len new old items e size same =
    let past : length items ≤ length new = rw (← e) (omega arith) in
    let all : length new ≤ len = omega arith in
    ap (λ (t : List ColumnCells). take len (new ++ t)) (drop_all (length new) items past) ∙ ap (take len) (append-nil new)
    ∙ take_all len new all
