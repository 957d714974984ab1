-- The parts of a selection, which move; and groups, which are grouped again and stored.
use Rattle.std.proofs.Common.{◌∙◌, [], ◌∷◌, ◌++◌, length, map, refl, sym, ap, subst}
use Rattle.std.proofs.lemmas.List.{append-nil}
use Rattle.std.specs.List.{range_with_len}
use Rattle.std.specs.Prelude.{Err}
use Rattle.mem_buf.specs.Chain.{Runs}
use Rattle.query_model.specs.Answer.{groups_of}
use Rattle.query_model.specs.Buffers.{buffer_lengths}
use Rattle.query_model.specs.Requests.{answer_kinds, result_id, sum_kinds}
use Rattle.operators.specs.Groups.{rows_in_all}
use Rattle.operators.specs.Instead.{IsStoreInstead, references_of}
use Rattle.alloc_tree.specs.SoloMeaning.{solo_model}
use Rattle.alloc_tree.specs.SoloView.{solo_view}
use Rattle.pipeline.specs.Stages.{IsMergeDone}
use Rattle.pipeline.proofs.MergeCallsLemmas.{groups-done, groups-refused, own, selection-done}
use Rattle.pipeline.proofs.MergeLemmas.{groups-lengths, groups-merged, groups-paid, groups-sized, groups-summable, moves-paid, one-rows}
use Rattle.pipeline.proofs.MergeLemmas.{same-kinds, same-rows, selection-rows}
use Rattle.pipeline.proofs.merging.merge.Goals as goal

pub merge_picked-requires-clause-budget : goal.merge_picked-requires-clause-budget
merge_picked-requires-clause-budget c =
    moves-paid c.args.plan.now c.args.tree.now (references_of own c.args.batches.items) (length c.args.batches.items) c.requires.held
    c.requires.turns

pub merge_groups-requires-clause-summable : goal.merge_groups-requires-clause-summable
merge_groups-requires-clause-summable c =
    groups-summable c.args.plan.now c.requires.parts.0 c.args.batches.items c.requires.parts.1 c.requires.fit c.in-Group.key c.in-Group.sums
    (length c.as_slice.result.now) c.in-Group.is (ap length c.as_slice.ensures) c.requires.parts.2

pub merge_groups-requires-clause-sized : goal.merge_groups-requires-clause-sized
merge_groups-requires-clause-sized c =
    groups-sized c.args.plan.now c.requires.parts.0 c.args.batches.items c.requires.parts.1 c.requires.fit c.in-Group.key c.in-Group.sums
    (length c.as_slice.result.now) c.in-Group.is (ap length c.as_slice.ensures) c.requires.parts.2

pub merge_groups-requires-clause-budget : goal.merge_groups-requires-clause-budget
merge_groups-requires-clause-budget c =
    groups-paid c.args.plan.now c.requires.parts.0 c.args.batches.items c.requires.parts.1 c.requires.fit c.in-Group.key c.in-Group.sums
    (length c.as_slice.result.now) c.in-Group.is (ap length c.as_slice.ensures) c.args.tree.now c.requires.turns

pub returns-in-Ok-clause-kinds : goal.returns-in-Ok-clause-kinds
returns-in-Ok-clause-kinds c =
    same-kinds (answer_kinds c.args.plan.now) c.in-Ok.merged.items c.args.batches.items c.in-Ok.ensures.kinds c.requires.parts.1.kinds

pub returns-in-Ok-clause-rows : goal.returns-in-Ok-clause-rows
returns-in-Ok-clause-rows c rows parts =
    same-rows c.in-Ok.merged.items c.args.batches.items c.in-Ok.ensures.rows
    ∙ selection-rows c.args.plan.now rows c.args.batches.items parts c.requires.fit c.in-Select.field-0 c.in-Select.is

pub returns-in-Ok-clause-calls : goal.returns-in-Ok-clause-calls
returns-in-Ok-clause-calls c rows parts =
    let runs = c.in-Ok.ensures.calls in (
      runs.0,
      runs.1,
      selection-done c.args.plan.now rows c.in-Select.field-0 (references_of own c.args.batches.items)
          (references_of own c.in-Ok.merged.items) runs.0 c.in-Select.is runs.2,
    )

pub returns-in-Ok-merge_groups-clause-rows : goal.returns-in-Ok-merge_groups-clause-rows
returns-in-Ok-merge_groups-clause-rows c rows parts =
    one-rows c.push_reserved.new.self.items c.in-Ok-merge_groups.batch
    (c.push_reserved.ensures.items ∙ ap (λ items. items ++ (c.in-Ok-merge_groups.batch ∷ [])) c.in-Ok-with_capacity.ensures.items)
    ∙ c.in-Ok-merge_groups.ensures.rows
    ∙ groups-merged c.args.plan.now rows c.args.batches.items parts c.requires.fit c.in-Group.key c.in-Group.sums
    (length c.as_slice.result.now) c.in-Group.is (ap length c.as_slice.ensures)

pub returns-in-Ok-merge_groups-clause-calls : goal.returns-in-Ok-merge_groups-clause-calls
returns-in-Ok-merge_groups-clause-calls c rows parts =
    let count = length c.as_slice.result.now in
    let sources = references_of own c.args.batches.items in
    let asked = buffer_lengths (sum_kinds count) (groups_of 0 (range_with_len 1 count) (rows_in_all c.args.batches.items)) in
    let batch = c.in-Ok-merge_groups.batch in
    let runs = c.in-Ok-merge_groups.ensures.calls in
    let alone = c.push_reserved.ensures.items ∙ ap (λ items. items ++ (batch ∷ [])) c.in-Ok-with_capacity.ensures.items in
    let holds = ap (references_of own) alone ∙ append-nil (map own batch.holds) in (
      runs.0,
      runs.1,
      subst (λ held. IsMergeDone c.args.plan.now rows sources held runs.0) (sym holds)
          (groups-done c.args.plan.now rows (solo_view c.args.tree.now) c.in-Group.key c.in-Group.sums sources asked c.in-Group.is
          (groups-lengths c.args.plan.now rows c.args.batches.items parts c.requires.fit c.in-Group.key c.in-Group.sums count
          c.in-Group.is (ap length c.as_slice.ensures))
          batch runs.0 runs.2),
    )

pub returns-in-Full-clause-refused : goal.returns-in-Full-clause-refused
returns-in-Full-clause-refused c rows parts =
    let count = length c.as_slice.result.now in
    let sources = references_of own c.args.batches.items in
    let asked = buffer_lengths (sum_kinds count) (groups_of 0 (range_with_len 1 count) (rows_in_all c.args.batches.items)) in
    let runs = subst (λ refused. Runs solo_model (IsStoreInstead own (solo_view c.args.tree.now) result_id asked sources (Err refused))
    c.args.tree.now c.merge_groups.new.token) c.in-Full.is c.in-Err-merge_groups.ensures.calls in (
      runs.0,
      runs.1,
      (
        refl,
        groups-refused c.args.plan.now rows (solo_view c.args.tree.now) c.in-Group.key c.in-Group.sums sources asked c.in-Group.is
            (groups-lengths c.args.plan.now rows c.args.batches.items parts c.requires.fit c.in-Group.key c.in-Group.sums count
            c.in-Group.is (ap length c.as_slice.ensures))
            c.in-Full.full runs.0 runs.2,
      ),
    )
