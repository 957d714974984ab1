-- The cell of a row in the column of the test.
use Rattle.std.proofs.Common.{◌≡◌, subst}
use Rattle.std.specs.Prelude.{IfOk}
use Rattle.operators.proofs.FilterLemmas.{column-met, no-column}
use Rattle.operators.proofs.selecting.places_left.Goals as goal

pub returns-in-Some : goal.returns-in-Some
returns-in-Some c = record {
  value = subst (λ list. IfOk c.places_met.result (λ left. left.items ≡ list))
      (column-met c.args.rows.now c.args.test.now c.args.places.now c.requires.within c.in-Some.column c.in-Some.ensures.some)
      c.places_met.ensures.value;
}

pub returns-in-None : goal.returns-in-None
returns-in-None c = record {
  value = no-column c.args.rows.now c.args.test.now c.args.places.now c.requires.within c.len-count.ensures.typed c.in-None.ensures.none
      c.new.result.items c.new.ensures.items;
}
