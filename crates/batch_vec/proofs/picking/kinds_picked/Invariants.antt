-- The first kinds are picked.
use Rattle.std.proofs.Common.{◌≡◌, take}
use Rattle.query_model.specs.Requests.{picked_kinds}
use Rattle.batch_vec.proofs.picking.kinds_picked.Given as goal

abbrev pub invariant-picks : goal.invariant-picks
invariant-picks l = l.picked.items ≡ picked_kinds l.kinds (take l.pick-index l.fn.picks)
