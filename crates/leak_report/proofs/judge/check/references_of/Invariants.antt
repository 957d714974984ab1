use Rattle.std.proofs.Common.{◌≡◌, take}
use Rattle.mem_model.specs.Chunk.{references_of}
use Rattle.leak_report.proofs.judge.check.references_of.Given as goal

-- the references to the chunks so far
abbrev pub invariant-loop-chunk : goal.invariant-loop-chunk
invariant-loop-chunk l = l.references ≡ references_of (take l.chunk-index l.chunks)
