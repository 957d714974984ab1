-- Each chunk is tested.
use Rattle.std.proofs.Common.{◌==◌, All, List, refl, subst, sym}
use Rattle.std.specs.List.{list_any}
use Rattle.std.proofs.lemmas.List.{take_all}
use Rattle.std.proofs.lemmas.List.Elements.{All-more, All-get_or}
use Rattle.mem_model.specs.Chunk.{Chunk}
use Rattle.mem_model.specs.LawfulChunk.{IsLawfulChunk}
use Rattle.leak_report.specs.Report.{PrintedAllocator}
use Rattle.leak_report.proofs.judge.check.are_lawful.Goals as goal

IsLine : List PrintedAllocator → Chunk → Type 0
IsLine allocators chunk = IsLawfulChunk (λ n. list_any (λ printed. printed.number.0 == n) allocators) chunk

pub returns-then-not-is_lawful_chunk : goal.returns-then-not-is_lawful_chunk
unfolding IsLine
returns-then-not-is_lawful_chunk c =
    let refused = rw c.if-not-is_lawful_chunk.true at c.is_lawful_chunk.ensures in
    (λ h. absurd (cc), λ all'. refused.1 (subst (IsLine c.args.allocators.now) (sym c.chunk-item.is) (All-get_or (IsLine c.args.allocators.now) c.args.chunks.now c.loop-chunk.chunk-index c.chunk-item.result c.loop-chunk-test.true all')))

pub loop-chunk-preserved : goal.loop-chunk-preserved
unfolding IsLine
loop-chunk-preserved c =
    let passed = rw c.if-not-is_lawful_chunk.false at c.is_lawful_chunk.ensures in
    All-more (IsLine c.args.allocators.now) c.args.chunks.now c.loop-chunk.chunk-index c.chunk-item.result c.loop-chunk-test.true c.loop-chunk.invariant
    (subst (IsLine c.args.allocators.now) c.chunk-item.is (passed.0 refl))

pub returns : goal.returns
unfolding IsLine
returns c =
    let whole = take_all c.loop-chunk.chunk-index c.args.chunks.now c.loop-chunk-test.false in
    (λ _. subst (All (IsLine c.args.allocators.now)) whole c.loop-chunk.invariant, λ _. refl)
