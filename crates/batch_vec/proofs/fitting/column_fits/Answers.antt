-- A column by its kind.
use Rattle.std.proofs.Common.{sym, subst}
use Rattle.std.specs.Prelude.{IsTrue}
use Rattle.query_model.specs.Buffers.{column_lengths}
use Rattle.row_text.specs.Slices.{IsSlice, cells_of_slice, kind_of}
use Rattle.batch_vec.proofs.FittingLemmas.{Fit, ints_did, ints_fit, sums_did, sums_fit, texts_did, texts_fit}
use Rattle.batch_vec.proofs.fitting.column_fits.Goals as goal

pub returns-in-Ints : goal.returns-in-Ints
returns-in-Ints c =
    let same = subst IsSlice c.in-Ints.is c.requires.slices in
    record {
      value = subst (λ slice. (IsTrue c.ints_fit.result → Fit (column_lengths (kind_of slice) (cells_of_slice slice)))
          × (Fit (column_lengths (kind_of slice) (cells_of_slice slice)) → IsTrue c.ints_fit.result)) (sym c.in-Ints.is) (
            λ yes. ints_fit c.in-Ints.values.now c.in-Ints.known.now same (c.ints_fit.ensures.value.0 yes),
            λ fit. c.ints_fit.ensures.value.1 (ints_did c.in-Ints.values.now c.in-Ints.known.now same fit),
          );
    }

pub returns-in-Sums : goal.returns-in-Sums
returns-in-Sums c =
    let same = subst IsSlice c.in-Sums.is c.requires.slices in
    record {
      value = subst (λ slice. (IsTrue c.sums_fit.result → Fit (column_lengths (kind_of slice) (cells_of_slice slice)))
          × (Fit (column_lengths (kind_of slice) (cells_of_slice slice)) → IsTrue c.sums_fit.result)) (sym c.in-Sums.is) (
            λ yes. sums_fit c.in-Sums.values.now c.in-Sums.known.now same (c.sums_fit.ensures.value.0 yes),
            λ fit. c.sums_fit.ensures.value.1 (sums_did c.in-Sums.values.now c.in-Sums.known.now same fit),
          );
    }

pub returns-in-Texts : goal.returns-in-Texts
returns-in-Texts c =
    let rising = subst IsSlice c.in-Texts.is c.requires.slices in
    record {
      value = subst (λ slice. (IsTrue c.texts_fit.result → Fit (column_lengths (kind_of slice) (cells_of_slice slice)))
          × (Fit (column_lengths (kind_of slice) (cells_of_slice slice)) → IsTrue c.texts_fit.result)) (sym c.in-Texts.is) (
            λ yes. (let both = c.texts_fit.ensures.value.0 yes in
                texts_fit c.in-Texts.start c.in-Texts.ends.now c.in-Texts.bytes.now rising both.0 both.1),
            λ fit. c.texts_fit.ensures.value.1 (texts_did c.in-Texts.start c.in-Texts.ends.now c.in-Texts.bytes.now rising fit),
          );
    }
