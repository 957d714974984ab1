-- The rows at the places are those that meet the tests.
use Rattle.std.proofs.Common.{◌≡◌, ◌<◌, ◌∙◌, All, [], ap, length, map, get_or, subst, sym}
use Rattle.std.specs.Prelude.{IfOk}
use Rattle.query_model.specs.Filter.{meeting}
use Rattle.operators.proofs.FilterLemmas.{left-within, rows-met}
use Rattle.operators.proofs.filtering.rows_meeting.Goals as goal

pub rows_gathered-requires : goal.rows_gathered-requires
rows_gathered-requires g c = record {
  within = subst (All (λ place. place < length c.as_slice-all.result.rows)) (sym c.as_slice.ensures.value)
      (left-within c.args.tests.now c.as_slice-all.result.rows c.in_ok-places.places.items c.in_ok-places.ensures.value);
}

pub returns-clause-rows : goal.returns-clause-rows
returns-clause-rows g c =
    let are = ap (map (λ place. get_or c.as_slice-all.result.rows place [])) (c.as_slice.ensures.value ∙ c.in_ok-places.ensures.value)
    ∙ rows-met c.args.tests.now c.as_slice-all.result.rows
    ∙ ap (meeting c.args.tests.now) (ap (λ table. table.rows) c.as_slice-all.ensures ∙ c.in-Ok.ensures.rows) in
    subst (λ list. IfOk c.rows_gathered.result (λ rows. rows.rows ≡ list)) are c.rows_gathered.ensures.rows
