use Rattle.std.proofs.Common.{true, ◌≡◌, ◌+◌, ◌∙◌, ◌++◌, List, ℕ, [], ◌∷◌, refl, sym, ap, subst, arith, take, drop, length}
use Rattle.std.proofs.lemmas.Bool.{false≢true}
use Rattle.csv.specs.Records.{fields_of}
use Rattle.row_text.specs.Left.{HasLeft}
use Rattle.row_text.specs.Stored.{ColumnCells}
use Rattle.row_text.specs.Table.{EachReads, IsFirstBad, IsTable, kinds_of}
use Rattle.row_text.specs.Rows.{Table, AreLong, AreRows, TakesRecord, cells_in, kinds_in, rows_from}
use Rattle.row_text.proofs.TableLemmas.{bad-empty, bad-header, bad-row, each-none, next-row, rows-none, table-done, whole}
use Rattle.row_text.proofs.TypedLemmas.{each-typed}
use Rattle.query_model.specs.declared.kind.Kind.{Kind}
use Rattle.row_text.proofs.read.read_rows.Goals as goal

pub returns-then-not-branch-clause-bad : goal.returns-then-not-branch-clause-bad
returns-then-not-branch-clause-bad c = λ row e.
    let t = rw c.if-not-branch.true at (c.in_ok-take_next.ensures _ c.open-reader.ensures) in
    let same : 0 ≡ row = cc in
    subst (IsFirstBad c.args.columns.now c.args.bytes.now) same (bad-empty c.args.columns.now c.args.bytes.now t)

pub returns-then-not-is_header-clause-bad : goal.returns-then-not-is_header-clause-bad
returns-then-not-is_header-clause-bad c = λ row e.
    let t = rw c.if-not-branch.false at (c.in_ok-take_next.ensures _ c.open-reader.ensures) in
    let same : 0 ≡ row = cc in
    subst (IsFirstBad c.args.columns.now c.args.bytes.now) same
    (bad-header c.args.columns.now c.args.bytes.now _ t.0 t.1 (λ h. false≢true (sym c.if-not-is_header.true ∙ c.is_header.ensures.1 h)))

pub read_lines-requires : goal.read_lines-requires
read_lines-requires c =
    let t = rw c.if-not-branch.false at (c.in_ok-take_next.ensures _ c.open-reader.ensures) in
    let header = c.is_header.ensures.0 c.if-not-is_header.false in
    record { header = (t.0, t.1 ∙ ap (λ (f : List (List ℕ)). f ∷ t.0) header) }

pub records-init : goal.records-init
records-init c =
    let t = rw c.if-not-branch.false at (c.in_ok-take_next.ensures _ c.open-reader.ensures) in
    let header = c.is_header.ensures.0 c.if-not-is_header.false in
    record {
      few = omega arith;
      kinds = c.in_ok-cells.ensures.kinds;
      long = c.in_ok-cells.ensures.cells;
      read = (
        [],
        t.0,
        t.2,
        t.1 ∙ ap (λ (f : List (List ℕ)). f ∷ t.0) header,
        refl,
        subst (EachReads (kinds_of c.args.columns.now) [])
            (sym (rows-none (cells_in c.in_ok-cells.cells.items) c.in_ok-cells.ensures.cells)) (each-none (kinds_of c.args.columns.now)),
      );
    }

pub from_columns-requires-clause-typed : goal.from_columns-requires-clause-typed
from_columns-requires-clause-typed c =
    let (done, left, has, split, size, each) = c.records.invariant.read in
    let typed = each-typed (kinds_of c.args.columns.now) done (rows_from c.records.count (cells_in c.records.cells.items)) each in
    subst (λ (kinds : List Kind). AreRows kinds (rows_from c.records.count (cells_in c.records.cells.items)))
    (sym c.records.invariant.kinds) typed

pub returns-then-not-branch-2-clause-read : goal.returns-then-not-branch-2-clause-read
returns-then-not-branch-2-clause-read c =
    let (done, left, has, split, size, each) = c.records.invariant.read in
    let t = rw c.if-not-branch-2.true at (c.in_ok-take_next-2.ensures left has) in
    subst (λ (t : Table). IsTable c.args.columns.now c.args.bytes.now t.rows) (sym c.from_columns.ensures.value)
    (table-done c.args.columns.now c.args.bytes.now c.records.count _ done left split t size c.records.invariant.few each)

pub returns-then-not-branch-2-clause-kinds : goal.returns-then-not-branch-2-clause-kinds
returns-then-not-branch-2-clause-kinds c = ap (λ (t : Table). t.kinds) c.from_columns.ensures.value ∙ c.records.invariant.kinds

pub returns-then-row-gt-MOST_ROWS-clause-bad : goal.returns-then-row-gt-MOST_ROWS-clause-bad
returns-then-row-gt-MOST_ROWS-clause-bad c = λ row e.
    let (done, left, has, split, size, each) = c.records.invariant.read in
    let t = rw c.if-not-branch-2.false at (c.in_ok-take_next-2.ensures left has) in
    let same : c.records.count + 1 ≡ row = cc in
    subst (IsFirstBad c.args.columns.now c.args.bytes.now) same
    (bad-row c.args.columns.now c.args.bytes.now c.records.count _ done left _ t.0 split t.1 size c.records.invariant.few each
    (λ below. absurd (omega (arith, c.if-row-gt-MOST_ROWS.true))))

pub returns-then-not-branch-3-clause-bad : goal.returns-then-not-branch-3-clause-bad
returns-then-not-branch-3-clause-bad c = λ row e.
    let (done, left, has, split, size, each) = c.records.invariant.read in
    let t = rw c.if-not-branch-2.false at (c.in_ok-take_next-2.ensures left has) in
    let none = rw (c.if-not-branch-3.true, c.deref_mut.ensures.value, c.records.invariant.kinds) at c.in_ok-push_record.ensures in
    let same : c.records.count + 1 ≡ row = cc in
    subst (IsFirstBad c.args.columns.now c.args.bytes.now) same
    (bad-row c.args.columns.now c.args.bytes.now c.records.count _ done left _ t.0 split t.1 size c.records.invariant.few each
    (λ below. none))

pub records-preserved : goal.records-preserved
records-preserved c =
    let (done, left, has, split, size, each) = c.records.invariant.read in
    let t = rw c.if-not-branch-2.false at (c.in_ok-take_next-2.ensures left has) in
    let took = rw c.if-not-branch-3.false at c.in_ok-push_record.ensures in
    let took2 : TakesRecord c.records.cells.items c.push_record.new.columns (fields_of c.take_next-in-records.new.fields) true =
    subst (λ (o : List ColumnCells). TakesRecord o c.push_record.new.columns (fields_of c.take_next-in-records.new.fields) true)
    c.deref_mut.ensures.value took in
    let next = next-row c.args.columns.now c.args.bytes.now c.records.count c.records.cells.items c.push_record.new.columns
    (HasLeft c.take_next-in-records.new.reader) done left
    (fields_of c.take_next-in-records.new.fields) t.0 c.records.invariant.kinds c.records.invariant.long split size each t.1 t.2 took2 in
    let w : take c.records.cells.len
    (c.push_record.new.columns ++ drop (length c.push_record.new.columns) c.records.cells.items) ≡ c.push_record.new.columns =
    whole c.records.cells.len c.push_record.new.columns c.deref_mut.result.now c.records.cells.items c.deref_mut.ensures.value
    c.deref_mut.ensures.len c.push_record.auto.columns in
    record {
      few = omega (arith, c.if-row-gt-MOST_ROWS.false);
      kinds = ap kinds_in w ∙ next.0;
      long = subst (λ (o : List ColumnCells). AreLong (c.records.count + 1) (cells_in o)) (sym w) next.1;
      read = (
        next.2.0,
        next.2.1,
        next.2.2,
        next.2.3,
        next.2.4,
        subst (λ (o : List ColumnCells). EachReads (kinds_of c.args.columns.now) next.2.0 (rows_from (c.records.count + 1) (cells_in o)))
            (sym w) next.2.5,
      );
    }
