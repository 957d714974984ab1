-- The stages of a query, one after another.
use Rattle.std.proofs.Common.{◌∙◌, sym, drop, arith, Err, Vec}
use Rattle.std.proofs.lemmas.Result.{IfErr-at_err, IfOk-weaker}
use Rattle.std.specs.Global.{Global}
use Rattle.std.specs.Prelude.{slice_index_or}
use Rattle.mem_num.specs.declared.buffer_ref.Ref.{Ref}
use Rattle.mem_buf.specs.Chain.{Runs}
use Rattle.alloc_tree.specs.SoloMeaning.{solo_model}
use Rattle.alloc_tree.specs.SoloView.{solo_view}
use Rattle.batch_vec.specs.Batches.{BatchView}
use Rattle.operators.specs.Instead.{references_of}
use Rattle.pipeline.specs.Opening.{IsOpening}
use Rattle.pipeline.specs.Stages.{IsBatchesRefusal, IsMergeRefusal}
use Rattle.pipeline.proofs.CountedLemmas.{nodes-kept}
use Rattle.pipeline.proofs.OpeningLemmas.{views-opened}
use Rattle.pipeline.proofs.QueryLemmas.{IsAnswered, answered-if, if-then, merge-turns, parts-held}
use Rattle.pipeline.proofs.FirstRefusalLemmas.{batch-refused, merge-refused, opening-refused, openings-long}
use Rattle.pipeline.proofs.run.query_result.Goals as goal

pub run_batches-requires-clause-tree : goal.run_batches-requires-clause-tree
run_batches-requires-clause-tree g c =
    let plan = c.args.plan.now in
    let shows = views-opened (slice_index_or plan.limits 0 0) (drop 1 plan.limits) plan.reserves c.open_children.new.tree
    c.every_plan_has_five_children.ensures.limits c.every_plan_has_five_children.ensures.reserves c.in-Ok.ensures.nodes in
    record { pins = shows.pins; turns = shows.turns c.in-Ok.ensures.turns }

pub merge-requires-clause-held : goal.merge-requires-clause-held
merge-requires-clause-held g c =
    parts-held c.args.plan.now c.args.rows.now.rows c.requires.fit c.in-Ok-run_batches.parts.items c.args.tree.now c.open_children.new.tree
    c.run_batches.new.tree c.in-Ok.ensures.calls c.in-Ok-run_batches.ensures.parts c.in-Ok-run_batches.ensures.calls

pub merge-requires-clause-pinned : goal.merge-requires-clause-pinned
merge-requires-clause-pinned g c =
    let plan = c.args.plan.now in
    let batches = c.in-Ok-run_batches.ensures.calls in
    let nodes = nodes-kept batches.0 c.open_children.new.tree c.run_batches.new.tree batches.2.buffers batches.1
    ∙ c.in-Ok.ensures.nodes in
    let shows = views-opened (slice_index_or plan.limits 0 0) (drop 1 plan.limits) plan.reserves c.run_batches.new.tree
    c.every_plan_has_five_children.ensures.limits c.every_plan_has_five_children.ensures.reserves nodes in
    shows.pins 5 (omega arith)

pub merge-requires-clause-turns : goal.merge-requires-clause-turns
merge-requires-clause-turns g c =
    let plan = c.args.plan.now in
    let shows = views-opened (slice_index_or plan.limits 0 0) (drop 1 plan.limits) plan.reserves c.open_children.new.tree
    c.every_plan_has_five_children.ensures.limits c.every_plan_has_five_children.ensures.reserves c.in-Ok.ensures.nodes in
    merge-turns plan c.args.rows.now.rows c.requires.fit c.requires.storable.few c.in-Ok-run_batches.parts.items
    c.in-Ok-run_batches.ensures.parts (solo_view c.open_children.new.tree).turns (solo_view c.run_batches.new.tree).turns
    (shows.turns c.in-Ok.ensures.turns) c.in-Ok-run_batches.ensures.turns

pub returns-in-Ok-run_batches : goal.returns-in-Ok-run_batches
returns-in-Ok-run_batches g c =
    let plan = c.args.plan.now in
    let rows = c.args.rows.now.rows in
    let parts = c.in-Ok-run_batches.ensures.parts in
    let sources = references_of (λ hold. hold) c.in-Ok-run_batches.parts.items in
    let is = answered-if plan rows c.requires.fit sources c.args.tree.now c.open_children.new.tree c.run_batches.new.tree c.merge.new.tree
    c.requires.opened c.in-Ok.ensures.calls c.in-Ok.ensures.nodes c.in-Ok.ensures.chunks c.in-Ok.ensures.lawful
    c.in-Ok-run_batches.ensures.calls c.merge.result (c.merge.ensures.calls rows parts) in
    let holds = λ (merged : Vec (BatchView Ref) Global). IsAnswered plan rows (references_of (λ hold. hold) merged.items) c.merge.new.tree in
    record {
      rows = c.merge.ensures.rows rows parts;
      state = if-then c.merge.result holds _ is (λ merged has. has.state);
      peaks = if-then c.merge.result holds _ is (λ merged has. has.peaks);
      nodes = if-then c.merge.result holds _ is (λ merged has. has.nodes);
      counted = IfOk-weaker c.merge.result holds _ (λ merged has. has.counted) is;
      granted = if-then c.merge.result holds _ is (λ merged has. has.granted);
      full = λ full batch refused.
          merge-refused plan rows c.requires.fit full batch c.args.tree.now c.open_children.new.tree c.requires.opened c.run_batches.new.tree
          c.merge.new.tree c.in-Ok.ensures.calls sources c.in-Ok-run_batches.ensures.calls
          (IfErr-at_err (λ r. Runs solo_model (IsMergeRefusal plan rows r) c.run_batches.new.tree c.merge.new.tree) refused
          (c.merge.ensures.refused rows parts));
    }

pub returns-in-Err-run_batches-clause-full : goal.returns-in-Err-run_batches-clause-full
returns-in-Err-run_batches-clause-full g c full batch refused =
    let plan = c.args.plan.now in
    let rows = c.args.rows.now.rows in
    batch-refused plan rows c.requires.fit full batch c.args.tree.now c.open_children.new.tree c.requires.opened c.run_batches.new.tree
    c.run_batches.new.tree c.in-Ok.ensures.calls
    (IfErr-at_err (λ r. Runs solo_model (IsBatchesRefusal plan rows r) c.open_children.new.tree c.run_batches.new.tree) refused
    c.in-Err-run_batches.ensures.refused)

pub returns-in-Err-clause-full : goal.returns-in-Err-clause-full
returns-in-Err-clause-full g c full batch refused =
    let plan = c.args.plan.now in
    let long = openings-long (drop 1 plan.limits) plan.reserves
    (c.every_plan_has_five_children.ensures.limits ∙ sym c.every_plan_has_five_children.ensures.reserves) in
    opening-refused plan c.args.rows.now.rows c.requires.fit full batch c.args.tree.now c.open_children.new.tree c.requires.opened long
    (IfErr-at_err (λ r. Runs solo_model (IsOpening plan (Err r)) c.args.tree.now c.open_children.new.tree) refused c.in-Err.ensures.calls)
