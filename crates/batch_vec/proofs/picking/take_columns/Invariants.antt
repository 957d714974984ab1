-- Some columns were taken out, and the others are left.
use Rattle.std.proofs.Common.{◌≡◌, ◌+◌, ◌-◌, ◌*◌, ◌≤◌, length, take}
use Rattle.std.specs.Vec.{vec_len, vec_capacity}
use Rattle.batch_vec.proofs.PickingLemmas.{HasTaken}
use Rattle.batch_vec.proofs.picking.take_columns.Given as goal

abbrev pub invariant-picks : goal.invariant-picks
invariant-picks g l = record {
  two : length l.fn.buffers.items ≡ 2 * l.columns;
  taken : HasTaken l.fn.buffers.items l.columns two (take l.pick-index l.fn.picks) l.left.items l.picked.items l.rest.items;
  room : vec_len l.picked + 2 * (length l.fn.picks - l.pick-index) ≤ vec_capacity l.picked;
}
