-- A trace that is being run shows what it has come to.
use Rattle.std.specs.Prelude.{◌≡◌, ℕ, ◌+◌, ◌<◌, List, ◌++◌, All}
use Rattle.mem_num.specs.declared.bounds.TheConstants.{MOST_NUMBERS}
use Rattle.mem_model.specs.Ledgers.{total_of}
use Rattle.mem_model.specs.MeasuredTree.{peak_at}
use Rattle.mem_model.specs.PeakSample.{PeakSample, peak_of}
use Rattle.mem_model.specs.TreeState.{TreeState}
use Rattle.script.specs.declared.trace.Trace.{Trace}
use Rattle.script.specs.declared.line.Line.{Line}
use Rattle.script.specs.Trace.{TraceState, LineResult, line_result}

-- what a running trace shows, beside the moments at which its peaks were measured
abbrev pub shown_state : Trace → List PeakSample → TraceState
shown_state trace samples =
    record { tree = trace.tree.state; samples = samples; names = trace.names.bindings; buffers = trace.buffers }

-- the running trace shows this state, and its peaks are those of the samples
pub record IsAt (trace : Trace) (state : TraceState) : Type 0 where
  pub shown : state ≡ shown_state trace state.samples
  pub peaks : (n : ℕ) → peak_at trace.tree n ≡ peak_of state.samples n

-- from wherever a trace was, what was printed before grew by the text of a line, and the trace went to the state that the line
-- leaves
abbrev pub Prints : Trace → Trace → List ℕ → List ℕ → (TraceState → LineResult) → Type 0
Prints old new before after line = (state : TraceState) → IsAt old state
    → (after ≡ before ++ (line state).text) × IsAt new (line state).state

-- the same of a line as it was read
abbrev pub PrintsLine : Trace → Trace → List ℕ → List ℕ → Line → Type 0
PrintsLine old new before after line = Prints old new before after (λ state. line_result state line)

-- 32 bits hold the numbers that so many more lines may draw, and the references that they may add to a chunk
pub record HasNumbers (tree : TreeState) (lines : ℕ) : Type 0 where
  pub chunks : tree.drawn + lines < MOST_NUMBERS
  pub allocators : tree.next + lines < MOST_NUMBERS
  pub references : All (λ chunk. total_of chunk.ledgers + lines < MOST_NUMBERS) tree.chunks
