-- The places that the first tests leave.
use Rattle.std.proofs.Common.{◌≡◌, length, take}
use Rattle.std.specs.List.{range_with_len}
use Rattle.operators.specs.Places.{places_left}
use Rattle.operators.proofs.selecting.places_meeting.Given as goal

abbrev pub invariant-tests : goal.invariant-tests
invariant-tests l = l.places.items ≡ places_left (take l.test-index l.tests) l.rows.rows (range_with_len 0 (length l.rows.rows))
