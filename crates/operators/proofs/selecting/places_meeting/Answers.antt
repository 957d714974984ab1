-- One test more.
use Rattle.std.proofs.Common.{◌∙◌, ◌<◌, All, length, take, sym, subst, rules}
use Rattle.operators.proofs.FilterLemmas.{left-more, left-none, left-within}
use Rattle.operators.proofs.selecting.places_meeting.Goals as goal

pub tests-init : goal.tests-init
tests-init c = left-none c.args.rows.now.rows _ _ c.len.ensures.value c.in_ok-places.ensures.value

pub places_left-requires : goal.places_left-requires
places_left-requires c = record {
  within = subst (All (λ place. place < length c.args.rows.now.rows)) (sym c.as_slice.ensures.value)
      (left-within (take c.tests.test-index c.args.tests.now) c.args.rows.now.rows c.tests.places.items c.tests.invariant);
}

pub tests-preserved : goal.tests-preserved
tests-preserved c =
    left-more c.args.tests.now c.args.rows.now.rows _ c.tests.test-index c.test-item.result _ _ (search rules)
    (c.as_slice.ensures.value ∙ c.tests.invariant) (search rules) c.in_ok-places-2.ensures.value
