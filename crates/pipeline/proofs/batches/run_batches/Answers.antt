-- One batch more was run, or it was refused; and at last all were.
use Rattle.std.proofs.Common.{◌+◌, ◌-◌, arith, subst, sym}
use Rattle.mem_buf.specs.Chain.{Runs}
use Rattle.alloc_tree.specs.SoloMeaning.{solo_model}
use Rattle.query_model.specs.Requests.{batch_rows}
use Rattle.pipeline.specs.Stages.{CanRunMore, IsBatchesRefusal}
use Rattle.pipeline.proofs.BatchRunsLemmas.{HaveRun, can-begin, run-all, run-more, run-none, run-refused}
use Rattle.pipeline.proofs.SoloRunLemmas.{run-behind}
use Rattle.pipeline.proofs.batches.run_batches.Goals as goal

pub parts-init : goal.parts-init
parts-init g c =
    let left = c.batch_count-count.result + 1 - 1 in
    let few = c.batch_count-count.ensures.few in
    let empty = c.in-Ok.ensures.len in
    let reserved = c.in-Ok.ensures.exact in
    record {
      run = subst (λ parts. HaveRun c.args.plan.now c.args.rows.now.rows 1 left parts c.args.tree.now c.args.tree.now)
          (sym c.in-Ok.ensures.items)
          (run-none c.args.plan.now c.args.rows.now.rows left c.args.tree.now
          (can-begin c.args.plan.now c.args.rows.now.rows c.args.tree.now left c.requires.fit (omega (arith, few)) c.requires.tree));
      room = omega (arith, empty, reserved);
      within = omega arith;
    }

pub give_up-requires-clause-tree : goal.give_up-requires-clause-tree
give_up-requires-clause-tree g c =
    let before = c.parts-test.true in
    subst (λ count. CanRunMore c.args.plan.now (count + 1 - (c.parts.number + 1)) c.run_one.new.tree) c.batch_count-count.ensures.value
    (run-behind c.args.plan.now (batch_rows c.args.plan.now c.args.rows.now.rows c.parts.number)
    (c.batch_count-count.result + 1 - (c.parts.number + 1)) (c.batch_count-count.result + 1 - c.parts.number)
    c.in-Err.refused c.parts.tree c.run_one.new.tree (omega (arith, before)) c.parts.invariant.run.can c.in-Err.ensures.calls)

pub returns-in-Err-clause-refused : goal.returns-in-Err-clause-refused
returns-in-Err-clause-refused g c =
    let before = c.parts-test.true in
    let value = c.batch_count-count.ensures.value in
    subst (λ refused. Runs solo_model (IsBatchesRefusal c.args.plan.now c.args.rows.now.rows refused) c.args.tree.now c.give_up.new.tree)
    (sym c.in_batch.ensures.value)
    (run-refused c.args.plan.now c.args.rows.now.rows c.parts.number (c.batch_count-count.result + 1 - c.parts.number) c.parts.parts.items
    c.in-Err.refused c.args.tree.now c.parts.tree c.run_one.new.tree c.give_up.new.tree (omega (arith, before, value))
    c.parts.invariant.run c.in-Err.ensures.calls c.give_up.ensures.calls).refusal

pub returns-in-Err-clause-returned : goal.returns-in-Err-clause-returned
returns-in-Err-clause-returned g c =
    let before = c.parts-test.true in
    let value = c.batch_count-count.ensures.value in
    (run-refused c.args.plan.now c.args.rows.now.rows c.parts.number (c.batch_count-count.result + 1 - c.parts.number) c.parts.parts.items
    c.in-Err.refused c.args.tree.now c.parts.tree c.run_one.new.tree c.give_up.new.tree (omega (arith, before, value))
    c.parts.invariant.run c.in-Err.ensures.calls c.give_up.ensures.calls).returned

pub parts-preserved : goal.parts-preserved
parts-preserved g c =
    let left = c.batch_count-count.result + 1 - (c.parts.number + 1) in
    let before = c.parts-test.true in
    let room = c.parts.invariant.room in
    let filled = c.push_reserved.ensures.len in
    let reserved = c.push_reserved.ensures.capacity in
    record {
      run = subst (λ parts. HaveRun c.args.plan.now c.args.rows.now.rows (c.parts.number + 1) left parts c.args.tree.now c.run_one.new.tree)
          (sym c.push_reserved.ensures.items)
          (run-more c.args.plan.now c.args.rows.now.rows c.requires.fit c.parts.number left
          (c.batch_count-count.result + 1 - c.parts.number)
          c.parts.parts.items c.in-Ok-run_one.part c.args.tree.now c.parts.tree c.run_one.new.tree (omega (arith, before))
          c.parts.invariant.run c.in-Ok-run_one.ensures.kinds c.in-Ok-run_one.ensures.rows c.in-Ok-run_one.ensures.calls);
      room = omega (arith, before, room, filled, reserved);
      within = omega (arith, before);
    }

pub returns-clause-parts : goal.returns-clause-parts
returns-clause-parts g c =
    let ends = c.parts-test.false in
    let within = c.parts.invariant.within in
    let value = c.batch_count-count.ensures.value in
    (run-all c.args.plan.now c.args.rows.now.rows c.parts.number (c.batch_count-count.result + 1 - c.parts.number) c.parts.parts.items
    c.args.tree.now c.parts.tree c.parts.invariant.run (omega (arith, ends, within, value))).parts

pub returns-clause-calls : goal.returns-clause-calls
returns-clause-calls g c =
    let ends = c.parts-test.false in
    let within = c.parts.invariant.within in
    let value = c.batch_count-count.ensures.value in
    (run-all c.args.plan.now c.args.rows.now.rows c.parts.number (c.batch_count-count.result + 1 - c.parts.number) c.parts.parts.items
    c.args.tree.now c.parts.tree c.parts.invariant.run (omega (arith, ends, within, value))).calls

pub returns-clause-turns : goal.returns-clause-turns
returns-clause-turns g c =
    let ends = c.parts-test.false in
    let within = c.parts.invariant.within in
    let value = c.batch_count-count.ensures.value in
    (run-all c.args.plan.now c.args.rows.now.rows c.parts.number (c.batch_count-count.result + 1 - c.parts.number) c.parts.parts.items
    c.args.tree.now c.parts.tree c.parts.invariant.run (omega (arith, ends, within, value))).turns
