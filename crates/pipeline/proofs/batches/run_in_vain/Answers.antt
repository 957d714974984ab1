-- What was given is given back.
use Rattle.pipeline.proofs.SoloRunLemmas.{part-returned}
use Rattle.query_model.specs.Requests.{batch_rows}
use Rattle.pipeline.proofs.batches.run_in_vain.Goals as goal

pub returns-in-Ok : goal.returns-in-Ok
returns-in-Ok g c = record {
  calls = part-returned c.args.plan.now (batch_rows c.args.plan.now c.args.rows.now.rows c.args.number) c.in-Ok.part c.args.tree.now
      c.run_one.new.tree c.release_batch.new.token c.in-Ok.ensures.calls c.release_batch.ensures.calls;
}
