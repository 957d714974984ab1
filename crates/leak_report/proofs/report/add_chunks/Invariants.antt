use Rattle.std.proofs.Common.{map, string_bytes}
use Rattle.alloc_tree.specs.Chunks.{chunk_of}
use Rattle.leak_report.proofs.WriteLemmas.{IsWritten}
use Rattle.leak_report.proofs.report.add_chunks.Given as goal

-- what was written and counted, and what is left
abbrev pub invariant-loop-number : goal.invariant-loop-number
invariant-loop-number l = IsWritten (string_bytes l.fn.text) l.tree.state.chunks (string_bytes l.text) l.references (map chunk_of l.number-iterator)
