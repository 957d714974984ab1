-- A column by its kind.
use Rattle.std.proofs.Common.{◌∙◌, ap, arith, false, length, map, get_or, sym, subst}
use Rattle.std.specs.Prelude.{pos}
use Rattle.std.proofs.lemmas.List.{length-map}
use Rattle.csv.specs.Records.{cut_from}
use Rattle.query_model.specs.declared.cell.Cell.TheVariants as cell
use Rattle.row_text.specs.Slices.{IsSlice, cells_of_slice, kind_of}
use Rattle.row_text.specs.Stored.{numbers}
use Rattle.row_text.proofs.SliceLemmas.{cuts-length}
use Rattle.operators.proofs.GatherLemmas.{numbers-gathered, places-within}
use Rattle.operators.proofs.gathering.column_gathered.Goals as goal

pub gathered-requires : goal.gathered-requires
gathered-requires c =
    let marked = subst IsSlice c.in-Ints.is c.requires.slices in
    let both = places-within cell.Int c.in-Ints.values.now c.in-Ints.known.now _ c.args.places.now (ap cells_of_slice c.in-Ints.is) marked
    c.requires.within in
    record { within = both.0 }

pub gathered-requires-in-Ints : goal.gathered-requires-in-Ints
gathered-requires-in-Ints c =
    let marked = subst IsSlice c.in-Ints.is c.requires.slices in
    let both = places-within cell.Int c.in-Ints.values.now c.in-Ints.known.now _ c.args.places.now (ap cells_of_slice c.in-Ints.is) marked
    c.requires.within in
    record { within = both.1 }

pub ints-requires : goal.ints-requires
ints-requires c = record {
  marked = ap length (c.in_ok-gathered-in-Ints.ensures.value (pos 0)) ∙ length-map c.args.places.now _
      ∙ sym (ap length (c.in_ok-gathered-in-Ints-2.ensures.value false) ∙ length-map c.args.places.now _);
}

pub returns-in_ok-gathered-in-Ints-2 : goal.returns-in_ok-gathered-in-Ints-2
returns-in_ok-gathered-in-Ints-2 c =
    let marked = subst IsSlice c.in-Ints.is c.requires.slices in
    let both = places-within cell.Int c.in-Ints.values.now c.in-Ints.known.now _ c.args.places.now (ap cells_of_slice c.in-Ints.is) marked
    c.requires.within in
    let cells = (λ k. numbers cell.Int (c.in_ok-gathered-in-Ints.ensures.value (pos 0) k)
    (c.in_ok-gathered-in-Ints-2.ensures.value false k))
    ∙ numbers-gathered cell.Int c.in-Ints.values.now c.in-Ints.known.now (pos 0) c.args.places.now marked both.0
    ∙ (λ k. map (λ place. get_or (cells_of_slice (sym c.in-Ints.is k)) place cell.Null) c.args.places.now) in
    record { value = c.ints.ensures.value ∙ (λ k. record { kind = kind_of (sym c.in-Ints.is k); cells = cells k }) }

pub gathered-requires-in-Sums : goal.gathered-requires-in-Sums
gathered-requires-in-Sums c =
    let marked = subst IsSlice c.in-Sums.is c.requires.slices in
    let both = places-within cell.Sum c.in-Sums.values.now c.in-Sums.known.now _ c.args.places.now (ap cells_of_slice c.in-Sums.is) marked
    c.requires.within in
    record { within = both.0 }

pub gathered-requires-in-Sums-2 : goal.gathered-requires-in-Sums-2
gathered-requires-in-Sums-2 c =
    let marked = subst IsSlice c.in-Sums.is c.requires.slices in
    let both = places-within cell.Sum c.in-Sums.values.now c.in-Sums.known.now _ c.args.places.now (ap cells_of_slice c.in-Sums.is) marked
    c.requires.within in
    record { within = both.1 }

pub sums-requires : goal.sums-requires
sums-requires c = record {
  marked = ap length (c.in_ok-gathered-in-Sums.ensures.value (pos 0)) ∙ length-map c.args.places.now _
      ∙ sym (ap length (c.in_ok-gathered-in-Sums-2.ensures.value false) ∙ length-map c.args.places.now _);
}

pub returns-in_ok-gathered-in-Sums-2 : goal.returns-in_ok-gathered-in-Sums-2
returns-in_ok-gathered-in-Sums-2 c =
    let marked = subst IsSlice c.in-Sums.is c.requires.slices in
    let both = places-within cell.Sum c.in-Sums.values.now c.in-Sums.known.now _ c.args.places.now (ap cells_of_slice c.in-Sums.is) marked
    c.requires.within in
    let cells = (λ k. numbers cell.Sum (c.in_ok-gathered-in-Sums.ensures.value (pos 0) k)
    (c.in_ok-gathered-in-Sums-2.ensures.value false k))
    ∙ numbers-gathered cell.Sum c.in-Sums.values.now c.in-Sums.known.now (pos 0) c.args.places.now marked both.0
    ∙ (λ k. map (λ place. get_or (cells_of_slice (sym c.in-Sums.is k)) place cell.Null) c.args.places.now) in
    record { value = c.sums.ensures.value ∙ (λ k. record { kind = kind_of (sym c.in-Sums.is k); cells = cells k }) }

pub texts_gathered-requires-clause-within : goal.texts_gathered-requires-clause-within
texts_gathered-requires-clause-within c = λ k d inside.
    let small = c.requires.within k d inside in
    let cuts = cut_from c.in-Texts.start c.in-Texts.ends.now c.in-Texts.bytes.now in
    let long = ap (λ slice. length (cells_of_slice slice)) c.in-Texts.is ∙ length-map cuts cell.Text
    ∙ cuts-length c.in-Texts.start c.in-Texts.ends.now c.in-Texts.bytes.now in
    omega (arith, small, long)
