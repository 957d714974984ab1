-- A column by its kind; texts add nothing.
use Rattle.std.proofs.Common.{◌∙◌, ap, arith, length, sym, subst}
use Rattle.csv.specs.Records.{cut_from}
use Rattle.query_model.specs.declared.cell.Cell.TheVariants as cell
use Rattle.row_text.specs.Slices.{IsSlice, cells_of_slice}
use Rattle.row_text.proofs.SliceLemmas.{numbers-length}
use Rattle.operators.specs.Adding.{with_cells}
use Rattle.operators.proofs.AddLemmas.{texts-unadded}
use Rattle.operators.proofs.sums.Sums.add.Goals as goal

pub add_ints-requires-clause-many : goal.add_ints-requires-clause-many
add_ints-requires-clause-many c =
    c.requires.many ∙ ap (λ slice. length (cells_of_slice slice)) c.in-Ints.is
    ∙ numbers-length cell.Int c.in-Ints.values.now c.in-Ints.known.now (subst IsSlice c.in-Ints.is c.requires.slices)

pub add_ints-requires-clause-within : goal.add_ints-requires-clause-within
add_ints-requires-clause-within c = λ k d inside.
    let small = c.requires.within k d inside in
    let seen = ap length c.self.view_is in
    let long = numbers-length cell.Sum c.self.inside.values.items c.self.inside.known.items c.self.invariant in
    let lent = ap length c.as_mut_slice.ensures.value in
    omega (arith, small, seen, long, lent)

pub add_sums-requires-clause-many : goal.add_sums-requires-clause-many
add_sums-requires-clause-many c =
    c.requires.many ∙ ap (λ slice. length (cells_of_slice slice)) c.in-Sums.is
    ∙ numbers-length cell.Sum c.in-Sums.values.now c.in-Sums.known.now (subst IsSlice c.in-Sums.is c.requires.slices)

pub add_sums-requires-clause-within : goal.add_sums-requires-clause-within
add_sums-requires-clause-within c = λ k d inside.
    let small = c.requires.within k d inside in
    let seen = ap length c.self.view_is in
    let long = numbers-length cell.Sum c.self.inside.values.items c.self.inside.known.items c.self.invariant in
    let lent = ap length c.as_mut_slice-in-Sums.ensures.value in
    omega (arith, small, seen, long, lent)

pub returns-in-Texts : goal.returns-in-Texts
returns-in-Texts c = record {
  value = texts-unadded c.args.self.now c.args.places.now (cut_from c.in-Texts.start c.in-Texts.ends.now c.in-Texts.bytes.now)
      ∙ ap (λ slice. with_cells c.args.self.now c.args.places.now (cells_of_slice slice)) (sym c.in-Texts.is);
}
