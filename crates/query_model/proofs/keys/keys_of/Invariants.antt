-- The keys of the rows so far.
use Rattle.std.proofs.Common.{◌≡◌, map, take}
use Rattle.query_model.specs.Answer.{key_of, distinct}
use Rattle.query_model.proofs.keys.keys_of.Given as goal

abbrev pub invariant-loop-row : goal.invariant-loop-row
invariant-loop-row l = l.keys.items ≡ distinct (map (key_of l.column) (take l.row-index l.rows))
