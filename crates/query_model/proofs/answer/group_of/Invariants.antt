-- The key, and its sums so far.
use Rattle.std.proofs.Common.{◌≡◌, ◌∷◌, map, take}
use Rattle.query_model.specs.Answer.{rows_with_key, sum_of}
use Rattle.query_model.specs.declared.cell.Cell.TheVariants.{Text}
use Rattle.query_model.proofs.answer.group_of.Given as goal

abbrev pub invariant-loop-sum : goal.invariant-loop-sum
invariant-loop-sum l = l.cells.items ≡ Text l.key ∷ map (sum_of (rows_with_key l.column l.key l.rows)) (take l.sum-index l.sums)
