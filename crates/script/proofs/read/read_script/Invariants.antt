-- The lines so far say what was read, and are counted.
use Rattle.std.proofs.Common.{◌≡◌, ◌+◌, ◌≤◌, ℕ, List, ◌++◌, length}
use Rattle.std.specs.Str.Lines.{lines}
use Rattle.script.specs.Grammar.{Says}
use Rattle.script.proofs.read.read_script.Given as goal

abbrev pub invariant-loop-rest : goal.invariant-loop-rest
invariant-loop-rest l = record {
  small : l.line + length l.rest ≤ length l.fn.bytes + 1;
  reached : (done : List (List ℕ)) × (lines l.fn.bytes ≡ done ++ lines l.rest) × (l.line ≡ length done + 1)
      × Says l.fn.form done l.reading;
}

abbrev pub decreases-loop-rest : goal.decreases-loop-rest
decreases-loop-rest l = length l.rest
