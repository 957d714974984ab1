-- The requests so far.
use Rattle.std.proofs.Common.{◌≡◌, take}
use Rattle.query_model.specs.Requests.{requests_at}
use Rattle.query_model.proofs.requests.requests_at.Given as goal

abbrev pub invariant-loop-size : goal.invariant-loop-size
invariant-loop-size l = l.requests.items ≡ requests_at l.at (take l.size-index l.sizes)
