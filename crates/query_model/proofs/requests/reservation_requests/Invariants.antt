-- The reservations so far that aren't 0.
use Rattle.std.proofs.Common.{◌≡◌, filter, nat_lt, take}
use Rattle.query_model.proofs.requests.reservation_requests.Given as goal

abbrev pub invariant-loop-reservation : goal.invariant-loop-reservation
invariant-loop-reservation l = l.some.items ≡ filter (nat_lt 0) (take l.reservation-index l.reserves)
