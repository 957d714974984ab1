-- The rows of the keys so far.
use Rattle.std.proofs.Common.{◌≡◌, map, take}
use Rattle.query_model.specs.Answer.{group_of}
use Rattle.query_model.proofs.answer.rows_of_keys.Given as goal

abbrev pub invariant-loop-key : goal.invariant-loop-key
invariant-loop-key l = l.groups.items ≡ map (group_of l.column l.sums l.rows) (take l.key-index l.keys)
