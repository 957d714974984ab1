-- A column by its kind, and a value by its own.
use Rattle.std.proofs.Common.{◌≡◌, ◌∙◌, ap, arith, false, length, refl, subst}
use Rattle.std.proofs.lemmas.List.{length-map}
use Rattle.csv.specs.Records.{cut_from}
use Rattle.query_model.specs.Filter.{is_met}
use Rattle.query_model.specs.declared.cell.Cell.TheVariants as cell
use Rattle.row_text.specs.Slices.{IsSlice, cells_of_slice}
use Rattle.row_text.proofs.SliceLemmas.{cuts-length, numbers-length}
use Rattle.operators.proofs.FilterLemmas.{never-null, never-sum, none-met, null-never, numbers-each, sum-never, texts-each}
use Rattle.operators.proofs.selecting.places_met.Goals as goal

pub ints_met-requires-clause-within : goal.ints_met-requires-clause-within
ints_met-requires-clause-within c = λ k d inside.
    let small = c.requires.within k d inside in
    let marked = subst IsSlice c.in-Ints.is c.requires.slices in
    let long = ap (λ slice. length (cells_of_slice slice)) c.in-Ints.is
    ∙ numbers-length cell.Int c.in-Ints.values.now c.in-Ints.known.now marked in
    omega (arith, small, long)

pub texts_met-requires-clause-within : goal.texts_met-requires-clause-within
texts_met-requires-clause-within c = λ k d inside.
    let small = c.requires.within k d inside in
    let cuts = cut_from c.in-Texts.start c.in-Texts.ends.now c.in-Texts.bytes.now in
    let long = ap (λ slice. length (cells_of_slice slice)) c.in-Texts.is ∙ length-map cuts cell.Text
    ∙ cuts-length c.in-Texts.start c.in-Texts.ends.now c.in-Texts.bytes.now in
    omega (arith, small, long)

pub returns-in-Null : goal.returns-in-Null
returns-in-Null c = record {
  value = none-met c.args.op _ _ _ _ c.args.places.now _ c.in-Null.is c.in-Ints.is c.new.ensures.items
      (λ place. never-null c.args.op _);
}

pub returns-in-Sum : goal.returns-in-Sum
returns-in-Sum c = record {
  value = none-met c.args.op _ _ _ _ c.args.places.now _ c.in-Sum.is c.in-Ints.is c.new-in-Sum.ensures.items
      (λ place. never-sum c.args.op _ _);
}

pub returns-in-Text : goal.returns-in-Text
returns-in-Text c = record {
  value = none-met c.args.op _ _ _ _ c.args.places.now _ c.in-Text.is c.in-Ints.is c.new-in-Text.ensures.items
      (numbers-each cell.Int (λ one. is_met c.args.op (cell.Text c.in-Text.field-0) one ≡ false) refl (λ n. refl) c.in-Ints.values.now
      c.in-Ints.known.now);
}

pub returns-in-Sums : goal.returns-in-Sums
returns-in-Sums c = record {
  value = none-met c.args.op _ _ _ _ c.args.places.now _ refl c.in-Sums.is c.new-in-Sums.ensures.items
      (numbers-each cell.Sum (λ one. is_met c.args.op c.args.value.now one ≡ false) (null-never c.args.op c.args.value.now)
      (λ n. sum-never c.args.op c.args.value.now n) c.in-Sums.values.now c.in-Sums.known.now);
}

pub returns-in-Null-value : goal.returns-in-Null-value
returns-in-Null-value c = record {
  value = none-met c.args.op _ _ _ _ c.args.places.now _ c.in-Null-value.is c.in-Texts.is c.new-in-Null-value.ensures.items
      (λ place. never-null c.args.op _);
}

pub returns-in-Int-value : goal.returns-in-Int-value
returns-in-Int-value c = record {
  value = none-met c.args.op _ _ _ _ c.args.places.now _ c.in-Int-value.is c.in-Texts.is c.new-in-Int-value.ensures.items
      (texts-each (λ one. is_met c.args.op (cell.Int c.in-Int-value.field-0) one ≡ false) refl (λ bytes. refl)
      (cut_from c.in-Texts.start c.in-Texts.ends.now c.in-Texts.bytes.now));
}

pub returns-in-Sum-value : goal.returns-in-Sum-value
returns-in-Sum-value c = record {
  value = none-met c.args.op _ _ _ _ c.args.places.now _ c.in-Sum-value.is c.in-Texts.is c.new-in-Sum-value.ensures.items
      (λ place. never-sum c.args.op _ _);
}
