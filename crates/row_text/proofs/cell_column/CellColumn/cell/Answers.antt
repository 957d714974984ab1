use Rattle.std.proofs.Common.{◌+◌, ◌<◌, arith, length}
use Rattle.query_model.specs.declared.cell.Cell.TheVariants as cell
use Rattle.row_text.specs.declared.cell_column.Stored.TheVariants.{Ints, Sums, Texts}
use Rattle.row_text.proofs.SliceLemmas.{numbers-within, seen-as, texts-within}
use Rattle.row_text.proofs.cell_column.CellColumn.cell.Goals as goal

pub int_at-requires-clause-within : goal.int_at-requires-clause-within
int_at-requires-clause-within c =
    let seen = seen-as c.args.self.now c.self.inside.stored (Ints c.in-Ints.values c.in-Ints.known) c.self.view_is c.self.invariant
    c.in-Ints.is in
    let within = numbers-within (λ n. cell.Int n) c.in-Ints.values.items c.in-Ints.known.items c.args.self.now.cells (c.args.place + 1)
    seen.0 seen.1 (omega (arith, c.requires)) in
    let inside : c.args.place < length c.in-Ints.values.items = omega (arith, within.0) in
    rw c.as_slice.ensures.value inside

pub sum_at-requires-clause-within : goal.sum_at-requires-clause-within
sum_at-requires-clause-within c =
    let seen = seen-as c.args.self.now c.self.inside.stored (Sums c.in-Sums.values c.in-Sums.known) c.self.view_is c.self.invariant
    c.in-Sums.is in
    let within = numbers-within (λ n. cell.Sum n) c.in-Sums.values.items c.in-Sums.known.items c.args.self.now.cells (c.args.place + 1)
    seen.0 seen.1 (omega (arith, c.requires)) in
    let inside : c.args.place < length c.in-Sums.values.items = omega (arith, within.0) in
    rw c.as_slice-in-Sums.ensures.value inside

pub text_at-requires-clause-within : goal.text_at-requires-clause-within
text_at-requires-clause-within c =
    let seen = seen-as c.args.self.now c.self.inside.stored (Texts c.in-Texts.bytes c.in-Texts.ends) c.self.view_is c.self.invariant
    c.in-Texts.is in
    let within = texts-within c.in-Texts.bytes.items c.in-Texts.ends.items c.args.self.now.cells (c.args.place + 1) seen.0
    (omega (arith, c.requires)) in
    let inside : c.args.place < length c.in-Texts.ends.items = omega (arith, within) in
    rw c.as_slice-in-Texts-2.ensures.value inside
