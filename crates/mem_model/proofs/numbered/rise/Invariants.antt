use Rattle.std.proofs.Common.{take}
use Rattle.mem_model.proofs.NumberOrderLemmas.{Rises}
use Rattle.mem_model.proofs.numbered.rise.Given as goal

-- the numbers so far rise
abbrev pub invariant-loop-item : goal.invariant-loop-item
invariant-loop-item g l = Rises g.T.Numbered.number_of (take l.item-index l.items) l.least
