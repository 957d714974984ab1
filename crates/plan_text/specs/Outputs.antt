-- What a plan answers.
use Rattle.std.specs.Prelude.{List, Option, Some, None, option_map, codes}
use Rattle.toml.specs.Data.{Data, Members, get_member}
use Rattle.query_model.specs.declared.column.Column.{Column}
use Rattle.query_model.specs.declared.output.Output.{Output}
use Rattle.query_model.specs.declared.output.Output.TheVariants.{Select, Group}
use Rattle.plan_text.specs.declared.picks.Allowed.TheVariants.{Any, Ints}
use Rattle.plan_text.specs.Columns.{pick_of, picks_of}
use Rattle.plan_text.specs.Values.{◌>>=◌}

-- the picked columns
abbrev pub select_of : List Column → Data → Option Output
select_of columns select = option_map Select (picks_of Any columns select)

-- a key, which is any column, and sums of columns of whole numbers
abbrev pub group_of : List Column → Data → Data → Option Output
group_of columns group sums = do
  key ← pick_of Any columns group
  picks ← picks_of Ints columns sums
  Some (Group key picks)

-- either a selection alone, or both a key and sums
abbrev pub output_of : List Column → Option Data → Option Data → Option Data → Option Output
output_of columns (Some select) None None = select_of columns select
output_of columns None (Some group) (Some sums) = group_of columns group sums
output_of columns select group sums = None

-- what the keys of a document say of it
abbrev pub output_at : List Column → Members → Option Output
output_at columns document =
    output_of columns (get_member (codes "select") document) (get_member (codes "group") document)
    (get_member (codes "sums") document)
