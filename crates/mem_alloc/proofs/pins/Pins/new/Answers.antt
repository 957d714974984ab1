use Rattle.mem_alloc.proofs.PinLemmas.{no_pins, zeros_small}
use Rattle.mem_alloc.proofs.pins.Pins.new.Goals as goal

pub invariant_of-result : goal.invariant_of-result
invariant_of-result c = zeros_small

pub returns : goal.returns
returns c = record { none = no_pins }
