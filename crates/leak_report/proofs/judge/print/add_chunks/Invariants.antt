use Rattle.std.proofs.Common.{◌≡◌, ◌++◌, take, string_bytes}
use Rattle.std.specs.List.{flat_map}
use Rattle.leak_report.specs.ReportText.{chunk_text}
use Rattle.leak_report.proofs.judge.print.add_chunks.Given as goal

-- the chunks so far are written
abbrev pub invariant-loop-chunk : goal.invariant-loop-chunk
invariant-loop-chunk l = string_bytes l.text ≡ string_bytes l.fn.text ++ flat_map chunk_text (take l.chunk-index l.chunks)
