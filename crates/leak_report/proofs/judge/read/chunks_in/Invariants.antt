use Rattle.std.proofs.Common.{◌≡◌, ◌++◌, drop, map}
use Rattle.std.specs.List.{filter_map}
use Rattle.leak_report.specs.ReadReport.{chunk_in}
use Rattle.leak_report.proofs.judge.read.chunks_in.Given as goal

-- the chunks so far, and those of the lines that are left
abbrev pub invariant-loop-text : goal.invariant-loop-text
invariant-loop-text l =
    l.chunks.items ++ filter_map chunk_in (map (λ line. line.now) (drop l.text-index l.lines)) ≡ filter_map chunk_in (map (λ line. line.now) l.lines)
