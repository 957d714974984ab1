use Rattle.std.proofs.Common.{sym, map}
use Rattle.toml.specs.View.{view}
use Rattle.plan_text.specs.Columns.{column_of}
use Rattle.query_model.specs.declared.bounds.TheConstants.{MOST_COLUMNS}
use Rattle.plan_text.proofs.EachLemmas.{each_of-length, items_between-parts}
use Rattle.plan_text.proofs.columns.read_columns.Goals as goal

pub returns-clause-few : goal.returns-clause-few
returns-clause-few c =
    let items = map view c.in-Some.items.now in
    let bounds = items_between-parts 1 MOST_COLUMNS (view c.args.value.now) items (sym c.in-Some.ensures) in
    rw (each_of-length column_of items c.in_ok-columns.columns c.in_ok-columns.ensures) bounds.1
