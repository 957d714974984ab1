-- A turn goes on where the bytes taken so far end.
use Rattle.std.proofs.Common.{ℕ, [], refl, arith, length-append, length-drop, length-take}
use Rattle.std.proofs.KnownBytes.{Consumes-more}
use Rattle.mem_io.proofs.fill.fill.Goals as goal

pub loop-buffer-preserved : goal.loop-buffer-preserved
loop-buffer-preserved g c =
    let taken = c.take_turn.ensures in
    record {
      piece = omega (arith, length-append {A = ℕ}, length-drop {A = ℕ}, length-take {A = ℕ}, c.take_turn.auto.buffer);
      bound = omega (arith, length-take {A = ℕ}, taken.bound);
      front = Consumes-more _ _ _ [] _ _ refl taken.grows c.loop-buffer.invariant.front c.in_ok-take_turn.ensures.bytes;
    }
