-- One batch more gave back what it had, and at last the parts are.
use Rattle.std.proofs.Common.{◌+◌, ◌-◌, [], arith, refl, subst, sym}
use Rattle.operators.specs.Instead.{references_of}
use Rattle.pipeline.specs.Stages.{CanRunMore}
use Rattle.pipeline.proofs.SoloRunLemmas.{gives-up, returned-more, run-fewer}
use Rattle.pipeline.proofs.batches.give_up.Goals as goal

pub others-init : goal.others-init
others-init g c = record {
  returned = ([], refl, λ k n real. refl);
  can = subst (λ count. CanRunMore c.args.plan.now (count + 1 - c.args.first) c.args.tree.now) (sym c.batch_count-count.ensures.value)
      c.requires.tree;
}

pub run_in_vain-requires-clause-tree : goal.run_in_vain-requires-clause-tree
run_in_vain-requires-clause-tree g c =
    let before = c.others-test.true in
    run-fewer c.args.plan.now 1 (c.batch_count-count.result + 1 - c.others.number) c.others.tree (omega (arith, before))
    c.others.invariant.can

pub others-preserved : goal.others-preserved
others-preserved g c =
    let before = c.others-test.true in
    returned-more c.args.plan.now (c.batch_count-count.result + 1 - (c.others.number + 1))
    (c.batch_count-count.result + 1 - c.others.number)
    c.args.tree.now c.others.tree c.run_in_vain.new.tree (omega (arith, before)) c.others.invariant c.run_in_vain.ensures.calls

pub returns : goal.returns
returns g c = record {
  calls = gives-up (references_of (λ hold. hold) c.args.parts.items) c.args.tree.now c.others.tree c.release_batches.new.token
      c.others.invariant.returned c.release_batches.ensures.calls;
}
