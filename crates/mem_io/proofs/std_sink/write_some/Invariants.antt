-- A write that was interrupted wrote nothing.
use Rattle.std.proofs.Common.{◌-◌, ◌^◌}
use Rattle.std.specs.Io.KnownBytes.{Keeps}
use Rattle.mem_io.proofs.std_sink.write_some.Given as goal

abbrev pub invariant-loop-interrupts : goal.invariant-loop-interrupts
invariant-loop-interrupts g l = Keeps (g.W.Write.contents l.initial.out) (g.W.Write.contents l.out)

abbrev pub decreases-loop-interrupts : goal.decreases-loop-interrupts
decreases-loop-interrupts g l = 2 ^ 64 - 1 - l.interrupts
