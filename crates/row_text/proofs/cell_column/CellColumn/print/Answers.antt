use Rattle.std.proofs.Common.{◌≡◌, ◌∙◌, ◌+◌, ◌<◌, List, [], ap, arith, false, get_or, length}
use Rattle.std.specs.Prelude.{if◌then◌else◌, pos}
use Rattle.std.specs.Fmt.{signed_decimal}
use Rattle.query_model.specs.Cells.{printed}
use Rattle.query_model.specs.declared.cell.Cell.{Cell}
use Rattle.query_model.specs.declared.cell.Cell.TheVariants as cell
use Rattle.row_text.specs.declared.cell_column.Stored.TheVariants.{Ints, Sums, Texts}
use Rattle.row_text.proofs.PrintLemmas.{number-printed}
use Rattle.row_text.proofs.SliceLemmas.{numbers-within, seen-as, texts-within}
use Rattle.row_text.proofs.cell_column.CellColumn.print.Goals as goal

pub print_number-requires-clause-within : goal.print_number-requires-clause-within
print_number-requires-clause-within c =
    let seen = seen-as c.args.self.now c.self.inside.stored (Ints c.in-Ints.values c.in-Ints.known) c.self.view_is c.self.invariant
    c.in-Ints.is in
    let within = numbers-within (λ n. cell.Int n) c.in-Ints.values.items c.in-Ints.known.items c.args.self.now.cells (c.args.place + 1)
    seen.0 seen.1 (omega (arith, c.requires.within)) in
    let inside : c.args.place < length c.in-Ints.values.items = omega (arith, within.0) in
    rw c.as_slice.ensures.value inside

pub returns-in-Ints-clause-fields : goal.returns-in-Ints-clause-fields
returns-in-Ints-clause-fields c =
    let seen = seen-as c.args.self.now c.self.inside.stored (Ints c.in-Ints.values c.in-Ints.known) c.self.view_is c.self.invariant
    c.in-Ints.is in
    let within = numbers-within (λ n. cell.Int n) c.in-Ints.values.items c.in-Ints.known.items c.args.self.now.cells (c.args.place + 1)
    seen.0 seen.1 (omega (arith, c.requires.within)) in
    let inside : c.args.place < length c.in-Ints.values.items = omega (arith, within.0) in
    let cell_is : printed (get_or c.args.self.now.cells c.args.place cell.Null)
    ≡ (if get_or c.in-Ints.known.items c.args.place false then signed_decimal (get_or c.in-Ints.values.items c.args.place (pos 0)) else
    []) =
    ap (λ (cells : List Cell). printed (get_or cells c.args.place cell.Null)) seen.0
    ∙ number-printed (λ n. cell.Int n) c.in-Ints.values.items c.in-Ints.known.items c.args.place (pos 0) seen.1 inside in
    let told = rw (c.as_slice.ensures.value, c.as_slice-in-Ints.ensures.value) at (c.print_number.ensures.fields (pos 0)) in
    rw cell_is told

pub print_number-requires-in-Sums-clause-within : goal.print_number-requires-in-Sums-clause-within
print_number-requires-in-Sums-clause-within c =
    let seen = seen-as c.args.self.now c.self.inside.stored (Sums c.in-Sums.values c.in-Sums.known) c.self.view_is c.self.invariant
    c.in-Sums.is in
    let within = numbers-within (λ n. cell.Sum n) c.in-Sums.values.items c.in-Sums.known.items c.args.self.now.cells (c.args.place + 1)
    seen.0 seen.1 (omega (arith, c.requires.within)) in
    let inside : c.args.place < length c.in-Sums.values.items = omega (arith, within.0) in
    rw c.as_slice-in-Sums.ensures.value inside

pub returns-in-Sums-clause-fields : goal.returns-in-Sums-clause-fields
returns-in-Sums-clause-fields c =
    let seen = seen-as c.args.self.now c.self.inside.stored (Sums c.in-Sums.values c.in-Sums.known) c.self.view_is c.self.invariant
    c.in-Sums.is in
    let within = numbers-within (λ n. cell.Sum n) c.in-Sums.values.items c.in-Sums.known.items c.args.self.now.cells (c.args.place + 1)
    seen.0 seen.1 (omega (arith, c.requires.within)) in
    let inside : c.args.place < length c.in-Sums.values.items = omega (arith, within.0) in
    let cell_is : printed (get_or c.args.self.now.cells c.args.place cell.Null)
    ≡ (if get_or c.in-Sums.known.items c.args.place false then signed_decimal (get_or c.in-Sums.values.items c.args.place (pos 0)) else
    []) =
    ap (λ (cells : List Cell). printed (get_or cells c.args.place cell.Null)) seen.0
    ∙ number-printed (λ n. cell.Sum n) c.in-Sums.values.items c.in-Sums.known.items c.args.place (pos 0) seen.1 inside in
    let told = rw (c.as_slice-in-Sums.ensures.value, c.as_slice-in-Sums-2.ensures.value)
    at (c.print_number-in-Sums.ensures.fields (pos 0)) in
    rw cell_is told

pub text_at-requires-clause-within : goal.text_at-requires-clause-within
text_at-requires-clause-within c =
    let seen = seen-as c.args.self.now c.self.inside.stored (Texts c.in-Texts.bytes c.in-Texts.ends) c.self.view_is c.self.invariant
    c.in-Texts.is in
    let within = texts-within c.in-Texts.bytes.items c.in-Texts.ends.items c.args.self.now.cells (c.args.place + 1) seen.0
    (omega (arith, c.requires.within)) in
    let inside : c.args.place < length c.in-Texts.ends.items = omega (arith, within) in
    rw c.as_slice-in-Texts-2.ensures.value inside
