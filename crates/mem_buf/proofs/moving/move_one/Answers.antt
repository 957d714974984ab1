-- The source is released under its own name.
use Rattle.std.proofs.Common.{refl}
use Rattle.mem_buf.proofs.MovingLemmas.{moved-one}
use Rattle.mem_buf.proofs.moving.move_one.Goals as goal

pub returns-in-Ok : goal.returns-in-Ok
returns-in-Ok g c = record {
  calls = moved-one g.M.Memory.model c.args.target c.args.buf (record { hold = c.in-Ok.moved; view = c.args.buf.view }) c.in-Ok.field-0-1
      c.release.result (g.M.Memory.model.reference c.transfer.new.of) _ _ _ c.in-Ok.ensures.same refl c.in-Ok.ensures.makes c.release.ensures.makes;
}
