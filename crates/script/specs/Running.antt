-- A trace that is run as it is read.
use Rattle.std.specs.Prelude.{◌≡◌, ℕ, ◌-◌, List, ◌++◌, length}
use Rattle.script.specs.declared.line.Line.{Line}
use Rattle.script.specs.declared.running.Running.{Running}
use Rattle.script.specs.declared.trace.Trace.{Trace}
use Rattle.script.specs.Count.{Counts}
use Rattle.script.specs.Grammar.{limit_of}
use Rattle.script.specs.Shown.{IsAt, HasNumbers}
use Rattle.script.specs.Trace.{opened_trace, trace_after, text_of}

-- what some lines of a trace print, with the root's limit that they set
abbrev pub printed_by : List Line → List ℕ
printed_by said = text_of (opened_trace (limit_of said)) said

-- a trace has come to where some lines lead, opened with the root's limit that all lines set, and has numbers for as many as may follow
pub record HasCome (trace : Trace) (all said : List Line) : Type 0 where
  pub here : IsAt trace (trace_after (opened_trace (limit_of all)) said)
  pub numbers : HasNumbers trace.tree.state (1000000 - length said)

-- these lines were run: they are counted, the trace has come to where they lead, and what they print stands behind what was there before
pub record HasRun (running : Running) (said : List Line) (before out : List ℕ) : Type 0 where
  pub counted : Counts said running.count
  pub come : HasCome running.trace said said
  pub printed : out ≡ before ++ printed_by said
