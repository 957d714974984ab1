-- One column more fits, or doesn't.
use Rattle.std.proofs.Common.{refl, rules, subst}
use Rattle.std.specs.Prelude.{IsTrue}
use Rattle.batch_vec.proofs.FittingLemmas.{LeftFit-all, LeftFit-none, LeftFit-not, LeftFit-one}
use Rattle.batch_vec.proofs.fitting.buffers_fit.Goals as goal

pub columns-init : goal.columns-init
columns-init c = LeftFit-none c.args.rows.now

pub returns-then-not-column_fits : goal.returns-then-not-column_fits
returns-then-not-column_fits c = record {
  value = (
    λ yes. cc yes,
    λ all. LeftFit-not c.args.rows.now c.columns.place c.in-Some.column c.in-Some.ensures.some c.columns.invariant
        (λ fit. subst IsTrue c.if-not-column_fits.true (c.column_fits.ensures.value.1 fit)) all,
  );
}

pub columns-preserved : goal.columns-preserved
columns-preserved c =
    let yes : IsTrue c.column_fits.result = search rules in
    LeftFit-one c.args.rows.now c.columns.place c.in-Some.column c.in-Some.ensures.some c.columns.invariant
    (c.column_fits.ensures.value.0 yes)

pub returns : goal.returns
returns c = record {
  value = (λ yes. LeftFit-all c.args.rows.now c.columns.place c.columns.invariant (search rules), λ all. refl);
}
