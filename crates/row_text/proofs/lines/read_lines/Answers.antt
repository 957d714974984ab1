use Rattle.std.proofs.Common.{true, ◌≡◌, ◌≤◌, ◌+◌, ◌-◌, ◌∙◌, ◌++◌, List, ℕ, [], ◌∷◌, refl, sym, ap, subst, arith, take, drop, length}
use Rattle.std.proofs.lemmas.List.{drop-drop, drop_all, length-drop}
use Rattle.csv.specs.Reading.{default_config, records, strip_bom}
use Rattle.query_model.specs.declared.kind.Kind.{Kind}
use Rattle.row_text.specs.Lines.{IsFirstRecord, fields_between}
use Rattle.row_text.specs.Rows.{Table, AreLong, AreRows, TakesRecord, cells_in, kinds_in, rows_from}
use Rattle.row_text.specs.Stored.{ColumnCells}
use Rattle.row_text.specs.Table.{EachReads, IsTable, kinds_of, names_of, records_of}
use Rattle.row_text.proofs.LineLemmas.{all-left, behind-header, first-record, no-record, took-from}
use Rattle.row_text.proofs.TableLemmas.{each-none, next-row, rows-none, table-done, whole}
use Rattle.row_text.proofs.TypedLemmas.{each-typed}
use Rattle.row_text.proofs.lines.read_lines.Goals as goal

pub records-init : goal.records-init
records-init c =
    let bytes = c.args.bytes.now in
    let ends = c.cut_record.new.ends.items in
    let first : IsFirstRecord bytes ends c.in-Some.header = rw c.in-Some.is at c.in_ok-header.ensures in
    let plain : strip_bom bytes ≡ bytes = c.may_be_marked.ensures c.if-may_be_marked.false in
    let split = behind-header (names_of c.args.columns.now) (fields_between 0 ends bytes) c.requires.header.0
    (records default_config (drop c.in-Some.header bytes)) (records_of bytes) c.requires.header.1
    (ap (records default_config) plain ∙ first-record bytes ends c.in-Some.header first) in
    record {
      few = omega arith;
      within = first.within;
      kinds = c.in_ok-cells.ensures.kinds;
      long = c.in_ok-cells.ensures.cells;
      read = (
        [],
        split,
        refl,
        subst (EachReads (kinds_of c.args.columns.now) [])
            (sym (rows-none (cells_in c.in_ok-cells.cells.items) c.in_ok-cells.ensures.cells))
            (each-none (kinds_of c.args.columns.now)),
      );
    }

pub from_columns-requires-clause-typed : goal.from_columns-requires-clause-typed
from_columns-requires-clause-typed c =
    let (done, split, size, each) = c.records.invariant.read in
    let typed = each-typed (kinds_of c.args.columns.now) done (rows_from c.records.count (cells_in c.records.cells.items)) each in
    subst (λ (kinds : List Kind). AreRows kinds (rows_from c.records.count (cells_in c.records.cells.items)))
    (sym c.records.invariant.kinds) typed

pub returns-then-at-bytes-clause-read : goal.returns-then-at-bytes-clause-read
returns-then-at-bytes-clause-read c =
    let (done, split, size, each) = c.records.invariant.read in
    let past : length c.args.bytes.now ≤ c.records.at = omega (arith, c.if-at-bytes.true) in
    let none = ap (records default_config) (drop_all c.records.at c.args.bytes.now past) ∙ no-record in
    subst (λ (t : Table). IsTable c.args.columns.now c.args.bytes.now t.rows) (sym c.from_columns.ensures.value)
    (table-done c.args.columns.now c.args.bytes.now c.records.count _ done (records default_config (drop c.records.at c.args.bytes.now))
    split none size c.records.invariant.few each)

pub records-preserved : goal.records-preserved
records-preserved c =
    let (done, split, size, each) = c.records.invariant.read in
    let text = drop c.records.at c.args.bytes.now in
    let ends = c.cut_record-in-records.new.ends.items in
    let rest = records default_config (drop (c.records.at + c.in-Some-2.size) c.args.bytes.now) in
    let same = all-left c.args.bytes.now c.records.at in
    let first : IsFirstRecord text ends c.in-Some-2.size =
    subst (λ (t : List ℕ). IsFirstRecord t ends c.in-Some-2.size) same (rw c.in-Some-2.is at c.in_ok-size.ensures) in
    let left : records default_config text ≡ fields_between 0 ends text ∷ rest =
    first-record text ends c.in-Some-2.size first
    ∙ ap (λ (t : List ℕ). fields_between 0 ends text ∷ records default_config t)
    (drop-drop c.in-Some-2.size c.records.at c.args.bytes.now) in
    let took = rw c.if-not-branch.false at c.in_ok-push_fields.ensures in
    let took2 : TakesRecord c.records.cells.items c.push_fields.new.columns (fields_between 0 ends text) true =
    took-from c.deref_mut.result.now c.records.cells.items c.push_fields.new.columns c.as_slice.result.now ends
    (take (length c.args.bytes.now - c.records.at) text) text c.deref_mut.ensures.value c.as_slice.ensures.value same took in
    let next = next-row c.args.columns.now c.args.bytes.now c.records.count c.records.cells.items c.push_fields.new.columns
    (λ (more : List (List (List ℕ))). more ≡ rest) done (records default_config text) (fields_between 0 ends text) rest
    c.records.invariant.kinds c.records.invariant.long split size each left refl took2 in
    let w : take c.records.cells.len
    (c.push_fields.new.columns ++ drop (length c.push_fields.new.columns) c.records.cells.items) ≡ c.push_fields.new.columns =
    whole c.records.cells.len c.push_fields.new.columns c.deref_mut.result.now c.records.cells.items c.deref_mut.ensures.value
    c.deref_mut.ensures.len c.push_fields.auto.columns in
    let within : c.in-Some-2.size ≤ length text = first.within in
    let room = length-drop c.records.at c.args.bytes.now in
    record {
      few = omega (arith, c.if-count-ge-MOST_ROWS.false);
      within = (let before = c.records.invariant.within in omega (arith, within, room, before));
      kinds = ap kinds_in w ∙ next.0;
      long = subst (λ (o : List ColumnCells). AreLong (c.records.count + 1) (cells_in o)) (sym w) next.1;
      read = (
        next.2.0,
        next.2.3 ∙ ap (λ (t : List (List (List ℕ))). names_of c.args.columns.now ∷ (next.2.0 ++ t)) next.2.2,
        next.2.4,
        subst (λ (o : List ColumnCells). EachReads (kinds_of c.args.columns.now) next.2.0 (rows_from (c.records.count + 1) (cells_in o)))
            (sym w) next.2.5,
      );
    }
