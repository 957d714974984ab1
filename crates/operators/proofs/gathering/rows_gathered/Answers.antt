-- The rows of the columns are those at the places.
use Rattle.std.proofs.Common.{ap, ◌∙◌, length}
use Rattle.std.proofs.lemmas.List.{length-map}
use Rattle.operators.proofs.GatherLemmas.{gathered, gathered-typed, made-kinds, made-long, made-rows, made-typed}
use Rattle.operators.proofs.gathering.rows_gathered.Goals as goal

pub from_columns-requires-clause-long : goal.from_columns-requires-clause-long
from_columns-requires-clause-long c =
    let typed = gathered-typed c.args.rows.now c.args.places.now c.requires.within c.len-count.ensures.typed in
    made-long (length c.args.places.now) c.args.rows.now.kinds (gathered c.args.rows.now c.args.places.now c.requires.within) _
    (length-map c.args.places.now _) typed c.in_ok-columns.ensures.columns

pub from_columns-requires-clause-typed : goal.from_columns-requires-clause-typed
from_columns-requires-clause-typed c =
    let typed = gathered-typed c.args.rows.now c.args.places.now c.requires.within c.len-count.ensures.typed in
    made-typed (length c.args.places.now) c.args.rows.now.kinds (gathered c.args.rows.now c.args.places.now c.requires.within) _
    (length-map c.args.places.now _) typed c.in_ok-columns.ensures.columns

pub returns : goal.returns
returns c =
    let typed = gathered-typed c.args.rows.now c.args.places.now c.requires.within c.len-count.ensures.typed in
    record {
      kinds = ap (λ table. table.kinds) c.from_columns.ensures.value
          ∙ made-kinds (length c.args.places.now) c.args.rows.now.kinds (gathered c.args.rows.now c.args.places.now c.requires.within) _
          (length-map c.args.places.now _) typed c.in_ok-columns.ensures.columns;
      rows = ap (λ table. table.rows) c.from_columns.ensures.value
          ∙ made-rows (length c.args.places.now) c.args.rows.now.kinds (gathered c.args.rows.now c.args.places.now c.requires.within) _
          (length-map c.args.places.now _) typed c.in_ok-columns.ensures.columns;
    }
