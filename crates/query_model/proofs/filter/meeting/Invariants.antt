-- The rows so far that meet the tests are copied.
use Rattle.std.proofs.Common.{◌≡◌, take}
use Rattle.query_model.specs.Filter.{meeting}
use Rattle.query_model.proofs.filter.meeting.Given as goal

abbrev pub invariant-loop-row : goal.invariant-loop-row
invariant-loop-row l = l.met.items ≡ meeting l.tests (take l.row-index l.rows)
