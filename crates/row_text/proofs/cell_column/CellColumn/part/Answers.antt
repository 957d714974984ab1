use Rattle.std.proofs.Common.{◌≤◌, ◌+◌, arith, length}
use Rattle.query_model.specs.declared.cell.Cell.TheVariants as cell
use Rattle.row_text.specs.declared.cell_column.Stored.TheVariants.{Ints, Sums, Texts}
use Rattle.row_text.proofs.SliceLemmas.{numbers-part, numbers-within, rising-part, seen-as, texts-part, texts-within}
use Rattle.row_text.proofs.cell_column.CellColumn.part.Goals as goal

pub part_of-requires : goal.part_of-requires
part_of-requires c =
    let seen = seen-as c.args.self.now c.self.inside.stored (Ints c.in-Ints.values c.in-Ints.known) c.self.view_is c.self.invariant
    c.in-Ints.is in
    let within = numbers-within (λ n. cell.Int n) c.in-Ints.values.items c.in-Ints.known.items c.args.self.now.cells
    (c.args.from + c.args.len) seen.0 seen.1 c.requires in
    rw c.as_slice.ensures.value within.0

pub part_of-requires-in-Ints : goal.part_of-requires-in-Ints
part_of-requires-in-Ints c =
    let seen = seen-as c.args.self.now c.self.inside.stored (Ints c.in-Ints.values c.in-Ints.known) c.self.view_is c.self.invariant
    c.in-Ints.is in
    let within = numbers-within (λ n. cell.Int n) c.in-Ints.values.items c.in-Ints.known.items c.args.self.now.cells
    (c.args.from + c.args.len) seen.0 seen.1 c.requires in
    rw c.as_slice-in-Ints.ensures.value within.1

pub part_of-requires-in-Sums : goal.part_of-requires-in-Sums
part_of-requires-in-Sums c =
    let seen = seen-as c.args.self.now c.self.inside.stored (Sums c.in-Sums.values c.in-Sums.known) c.self.view_is c.self.invariant
    c.in-Sums.is in
    let within = numbers-within (λ n. cell.Sum n) c.in-Sums.values.items c.in-Sums.known.items c.args.self.now.cells
    (c.args.from + c.args.len) seen.0 seen.1 c.requires in
    rw c.as_slice-in-Sums.ensures.value within.0

pub part_of-requires-in-Sums-2 : goal.part_of-requires-in-Sums-2
part_of-requires-in-Sums-2 c =
    let seen = seen-as c.args.self.now c.self.inside.stored (Sums c.in-Sums.values c.in-Sums.known) c.self.view_is c.self.invariant
    c.in-Sums.is in
    let within = numbers-within (λ n. cell.Sum n) c.in-Sums.values.items c.in-Sums.known.items c.args.self.now.cells
    (c.args.from + c.args.len) seen.0 seen.1 c.requires in
    rw c.as_slice-in-Sums-2.ensures.value within.1

pub start_of-requires : goal.start_of-requires
start_of-requires c =
    let seen = seen-as c.args.self.now c.self.inside.stored (Texts c.in-Texts.bytes c.in-Texts.ends) c.self.view_is c.self.invariant
    c.in-Texts.is in
    let within = texts-within c.in-Texts.bytes.items c.in-Texts.ends.items c.args.self.now.cells (c.args.from + c.args.len) seen.0
    c.requires in
    let from : c.args.from ≤ length c.in-Texts.ends.items = omega (arith, within) in
    rw c.as_slice-in-Texts.ensures.value from

pub part_of-requires-in-Texts : goal.part_of-requires-in-Texts
part_of-requires-in-Texts c =
    let seen = seen-as c.args.self.now c.self.inside.stored (Texts c.in-Texts.bytes c.in-Texts.ends) c.self.view_is c.self.invariant
    c.in-Texts.is in
    let within = texts-within c.in-Texts.bytes.items c.in-Texts.ends.items c.args.self.now.cells (c.args.from + c.args.len) seen.0
    c.requires in
    rw c.as_slice-in-Texts-2.ensures.value within

pub returns-in-Ints-clause-cells : goal.returns-in-Ints-clause-cells
returns-in-Ints-clause-cells c =
    let seen = seen-as c.args.self.now c.self.inside.stored (Ints c.in-Ints.values c.in-Ints.known) c.self.view_is c.self.invariant
    c.in-Ints.is in
    rw (c.part_of.ensures, c.part_of-in-Ints.ensures, c.as_slice.ensures.value, c.as_slice-in-Ints.ensures.value, seen.0)
    (numbers-part (λ n. cell.Int n) c.args.from c.args.len c.in-Ints.values.items c.in-Ints.known.items seen.1)

pub returns-in-Sums-clause-cells : goal.returns-in-Sums-clause-cells
returns-in-Sums-clause-cells c =
    let seen = seen-as c.args.self.now c.self.inside.stored (Sums c.in-Sums.values c.in-Sums.known) c.self.view_is c.self.invariant
    c.in-Sums.is in
    rw (
      c.part_of-in-Sums.ensures,
      c.part_of-in-Sums-2.ensures,
      c.as_slice-in-Sums.ensures.value,
      c.as_slice-in-Sums-2.ensures.value,
      seen.0,
    )
    (numbers-part (λ n. cell.Sum n) c.args.from c.args.len c.in-Sums.values.items c.in-Sums.known.items seen.1)

pub returns-in-Texts-clause-cells : goal.returns-in-Texts-clause-cells
returns-in-Texts-clause-cells c =
    let seen = seen-as c.args.self.now c.self.inside.stored (Texts c.in-Texts.bytes c.in-Texts.ends) c.self.view_is c.self.invariant
    c.in-Texts.is in
    rw (
      c.start_of.ensures,
      c.part_of-in-Texts.ensures,
      c.as_slice-in-Texts.ensures.value,
      c.as_slice-in-Texts-2.ensures.value,
      c.as_slice-in-Texts-3.ensures.value,
      seen.0,
    )
    (texts-part c.args.from c.args.len c.in-Texts.bytes.items c.in-Texts.ends.items)

pub returns-in-Texts-clause-slices : goal.returns-in-Texts-clause-slices
returns-in-Texts-clause-slices c =
    let seen = seen-as c.args.self.now c.self.inside.stored (Texts c.in-Texts.bytes c.in-Texts.ends) c.self.view_is c.self.invariant
    c.in-Texts.is in
    rw (
      c.start_of.ensures,
      c.part_of-in-Texts.ensures,
      c.as_slice-in-Texts.ensures.value,
      c.as_slice-in-Texts-2.ensures.value,
      c.as_slice-in-Texts-3.ensures.value,
    )
    (rising-part c.args.from c.args.len c.in-Texts.bytes.items c.in-Texts.ends.items seen.1)
