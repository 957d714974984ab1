use Rattle.std.proofs.Common.{◌≡◌, take}
use Rattle.mem_model.specs.Chunk.{charges_of}
use Rattle.leak_report.proofs.judge.check.charges_of.Given as goal

-- the charges so far
abbrev pub invariant-loop-chunk : goal.invariant-loop-chunk
invariant-loop-chunk l = l.charges.items ≡ charges_of (take l.chunk-index l.chunks)
