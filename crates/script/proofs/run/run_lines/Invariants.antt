-- The lines so far were run, and are counted.
use Rattle.std.proofs.Common.{◌≡◌, ◌+◌, ◌≤◌, ℕ, List, ◌++◌, length}
use Rattle.std.specs.Str.Lines.{lines}
use Rattle.script.specs.declared.form.Form.TheVariants.{Trace}
use Rattle.script.specs.declared.line.Line.{Line}
use Rattle.script.specs.Grammar.{Says}
use Rattle.script.specs.Running.{HasRun}
use Rattle.script.proofs.run.run_lines.Given as goal

abbrev pub invariant-loop-rest : goal.invariant-loop-rest
invariant-loop-rest l = record {
  small : l.line + length l.rest ≤ length l.fn.bytes + 1;
  reached : (done : List (List ℕ)) × (said : List Line) × (lines l.fn.bytes ≡ done ++ lines l.rest) × (l.line ≡ length done + 1)
      × Says Trace done said × HasRun l.running said l.initial.out.items l.out.items;
}

abbrev pub decreases-loop-rest : goal.decreases-loop-rest
decreases-loop-rest l = length l.rest
