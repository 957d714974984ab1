-- A batch can be run.
use Rattle.std.proofs.Common.{◌≤◌, ◌∙◌, All, subst, sym}
use Rattle.mem_num.specs.declared.bounds.TheConstants.{LARGEST}
use Rattle.alloc_tree.specs.SoloView.{solo_view}
use Rattle.query_model.specs.Buffers.{buffer_lengths}
use Rattle.query_model.specs.Requests.{kinds_of}
use Rattle.pipeline.specs.BatchRun.{CanRun}
use Rattle.pipeline.proofs.SoloRunLemmas.{can-run, part-short}
use Rattle.pipeline.proofs.batches.run_one.Goals as goal

pub run_batch-part-requires-clause-sized : goal.run_batch-part-requires-clause-sized
run_batch-part-requires-clause-sized g c =
    subst (λ ks. All (λ length. length ≤ LARGEST) (buffer_lengths ks c.batch_rows.result.rows))
    (sym (c.batch_rows.ensures.kinds ∙ c.requires.kinds))
    (subst (λ rs. All (λ length. length ≤ LARGEST) (buffer_lengths (kinds_of c.args.plan.now.columns) rs)) (sym c.batch_rows.ensures.rows)
    (part-short c.args.plan.now c.requires.fit c.args.rows.now.rows c.requires.storable c.args.number))

pub run_batch-part-requires-clause-token : goal.run_batch-part-requires-clause-token
run_batch-part-requires-clause-token g c =
    subst (CanRun (solo_view c.args.tree.now) c.args.plan.now) (sym c.batch_rows.ensures.rows)
    (can-run c.args.plan.now c.requires.fit c.args.rows.now.rows c.requires.storable c.args.tree.now c.args.number c.requires.tree)
