-- A read that was interrupted took nothing.
use Rattle.std.proofs.Common.{◌≡◌, ◌-◌, ◌^◌, length}
use Rattle.std.specs.Io.KnownBytes.{Keeps}
use Rattle.mem_io.proofs.fill.read_some.Given as goal

abbrev pub invariant-loop-interrupts : goal.invariant-loop-interrupts
invariant-loop-interrupts g l = record {
  length_stays : length l.buffer ≡ length l.initial.buffer;
  taken_nothing : Keeps (g.R.Read.remaining l.initial.reader) (g.R.Read.remaining l.reader);
}

abbrev pub decreases-loop-interrupts : goal.decreases-loop-interrupts
decreases-loop-interrupts g l = 2 ^ 64 - 1 - l.interrupts
