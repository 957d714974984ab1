use Rattle.std.proofs.Common.{◌==◌, All, take}
use Rattle.std.specs.List.{list_any}
use Rattle.mem_model.specs.LawfulChunk.{IsLawfulChunk}
use Rattle.leak_report.proofs.judge.check.are_lawful.Given as goal

-- the chunks so far are lawful
abbrev pub invariant-loop-chunk : goal.invariant-loop-chunk
invariant-loop-chunk l = All (IsLawfulChunk (λ n. list_any (λ printed. printed.number.0 == n) l.allocators)) (take l.chunk-index l.chunks)
