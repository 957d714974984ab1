-- The batches so far were run, and there is room for the parts of the others.
use Rattle.std.proofs.Common.{◌+◌, ◌-◌, ◌≤◌}
use Rattle.std.specs.Vec.{vec_capacity, vec_len}
use Rattle.pipeline.proofs.BatchRunsLemmas.{HaveRun}
use Rattle.pipeline.proofs.batches.run_batches.Given as goal

abbrev pub invariant-parts : goal.invariant-parts
invariant-parts g l = record {
  run : HaveRun l.plan l.rows.rows l.number (l.number-end - l.number) l.parts.items l.fn.tree l.tree;
  room : vec_len l.parts + (l.number-end - l.number) ≤ vec_capacity l.parts;
  within : l.number ≤ l.number-end;
}
