use Rattle.std.proofs.Common.{◌≡◌, All, take}
use Rattle.mem_model.specs.Held.{held_of}
use Rattle.leak_report.proofs.judge.check.hold.Given as goal

-- the allocators so far hold so much
abbrev pub invariant-loop-printed : goal.invariant-loop-printed
invariant-loop-printed l = All (λ printed. printed.held ≡ held_of l.nodes l.charges printed.number.0) (take l.printed-index l.allocators)
