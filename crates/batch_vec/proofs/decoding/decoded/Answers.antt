-- A column by its kind.
use Rattle.std.proofs.Common.{◌≡◌, sym, ◌∙◌, subst, rules}
use Rattle.query_model.specs.declared.kind.Kind.TheVariants as kind
use Rattle.row_text.specs.Stored.{AreTexts, texts}
use Rattle.batch_vec.specs.Columns.{IsColumn}
use Rattle.batch_vec.proofs.DecodingLemmas.{ints_back, ints_enough, ints_marked, sums_back, sums_enough, sums_marked, texts_are, texts_back}
use Rattle.batch_vec.proofs.decoding.decoded.Goals as goal

pub marks_of-requires : goal.marks_of-requires
marks_of-requires c =
    let column = subst (λ k. IsColumn k c.args.count c.args.first.now c.args.second.now c.requires.column.0)
    c.in-Int.is c.requires.column.1 in
    record { enough = ints_enough c.args.count c.args.first.now c.args.second.now c.requires.column.0 column }

pub ints-requires : goal.ints-requires
ints-requires c =
    let column = subst (λ k. IsColumn k c.args.count c.args.first.now c.args.second.now c.requires.column.0)
    c.in-Int.is c.requires.column.1 in
    record {
      marked = ints_marked c.args.count c.args.first.now c.args.second.now c.requires.column.0 _ _ c.in_ok-marks_of-in-Int.ensures.value
          column c.in_ok-ints_of-in-Int.ensures.value;
    }

pub returns-in_ok-marks_of-in-Int : goal.returns-in_ok-marks_of-in-Int
returns-in_ok-marks_of-in-Int c = record {
  value = λ cells is.
      let column = subst (λ k. IsColumn k c.args.count c.args.first.now c.args.second.now cells) c.in-Int.is is in
      let back = ints_back c.args.count c.args.first.now c.args.second.now cells _ _ c.in_ok-marks_of-in-Int.ensures.value column
      c.in_ok-ints_of-in-Int.ensures.value in
      c.ints.ensures.value ∙ (λ k. record { kind = sym c.in-Int.is k; cells = back k });
}

pub marks_of-requires-in-Sum : goal.marks_of-requires-in-Sum
marks_of-requires-in-Sum c =
    let column = subst (λ k. IsColumn k c.args.count c.args.first.now c.args.second.now c.requires.column.0)
    c.in-Sum.is c.requires.column.1 in
    record { enough = sums_enough c.args.count c.args.first.now c.args.second.now c.requires.column.0 column }

pub sums-requires : goal.sums-requires
sums-requires c =
    let column = subst (λ k. IsColumn k c.args.count c.args.first.now c.args.second.now c.requires.column.0)
    c.in-Sum.is c.requires.column.1 in
    record {
      marked = sums_marked c.args.count c.args.first.now c.args.second.now c.requires.column.0 _ _ c.in_ok-marks_of-in-Sum.ensures.value
          column c.in_ok-sums_of-in-Sum.ensures.value;
    }

pub returns-in_ok-marks_of-in-Sum : goal.returns-in_ok-marks_of-in-Sum
returns-in_ok-marks_of-in-Sum c = record {
  value = λ cells is.
      let column = subst (λ k. IsColumn k c.args.count c.args.first.now c.args.second.now cells) c.in-Sum.is is in
      let back = sums_back c.args.count c.args.first.now c.args.second.now cells _ _ c.in_ok-marks_of-in-Sum.ensures.value column
      c.in_ok-sums_of-in-Sum.ensures.value in
      c.sums.ensures.value ∙ (λ k. record { kind = sym c.in-Sum.is k; cells = back k });
}

pub texts-requires : goal.texts-requires
texts-requires c =
    let column = subst (λ k. IsColumn k c.args.count c.args.first.now c.args.second.now c.requires.column.0)
    c.in-Text.is c.requires.column.1 in
    let copy : c.in_ok-to_vec-in-Text.field-0.items ≡ c.args.second.now = search rules in
    record {
      texts = subst (λ bytes. AreTexts bytes c.in_ok-ends_of-in-Text.field-0.items) (sym copy)
          (texts_are c.args.count c.args.first.now c.args.second.now c.requires.column.0 c.in_ok-ends_of-in-Text.field-0.items column
          c.in_ok-ends_of-in-Text.ensures.value);
    }

pub returns-in_ok-ends_of-in-Text : goal.returns-in_ok-ends_of-in-Text
returns-in_ok-ends_of-in-Text c =
    let copy : c.in_ok-to_vec-in-Text.field-0.items ≡ c.args.second.now = search rules in
    record {
      value = λ cells is.
          let column = subst (λ k. IsColumn k c.args.count c.args.first.now c.args.second.now cells) c.in-Text.is is in
          let back = texts_back c.args.count c.args.first.now c.args.second.now cells c.in_ok-ends_of-in-Text.field-0.items column
          c.in_ok-ends_of-in-Text.ensures.value in
          c.texts.ensures.value ∙ (λ k. record { kind = kind.Text; cells = texts (copy k) c.in_ok-ends_of-in-Text.field-0.items })
          ∙ (λ k. record { kind = sym c.in-Text.is k; cells = back k });
    }
