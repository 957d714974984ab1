-- One batch more.
use Rattle.std.proofs.Common.{◌≡◌, ◌<◌, ◌≤◌, ◌++◌, ◌∙◌, ap, length, take, sym, subst, rules}
use Rattle.std.specs.Prelude.{IfOk}
use Rattle.std.specs.List.{range_with_len}
use Rattle.std.proofs.lemmas.List.{length-map}
use Rattle.std.proofs.lemmas.List.FromFn.{length-range_with_len}
use Rattle.query_model.specs.Answer.{groups_of}
use Rattle.query_model.specs.Requests.{sum_kinds}
use Rattle.operators.specs.Groups.{AreGroups, HaveRoom, rows_in_all}
use Rattle.operators.specs.Summable.{AreSummable}
use Rattle.operators.proofs.MergeLemmas.{room-taken, rows-all, rows-taken}
use Rattle.operators.proofs.SummableLemmas.{room-summable}
use Rattle.operators.proofs.merging.merged.Goals as goal

pub input-init : goal.input-init
input-init g c =
    let cols = c.in_ok-columns.columns.items in
    let many = ap length c.in_ok-columns.ensures.value ∙ length-range_with_len 1 c.args.sums in
    c.in_ok-groups.ensures.groups 0 cols many

pub add_batch-requires : goal.add_batch-requires
add_batch-requires g c =
    let cols = c.in_ok-columns.columns.items in
    let many = ap length c.in_ok-columns.ensures.value ∙ length-range_with_len 1 c.args.sums in
    let summable = subst (λ list. AreSummable 0 list (rows_in_all c.args.input.now))
    (sym c.in_ok-columns.ensures.value) c.requires.summable in
    let room = room-summable 0 cols (rows_in_all c.args.input.now) summable in
    let inside : c.input.batch-index < length c.args.input.now = search rules in
    let before = rows_in_all (take c.input.batch-index c.args.input.now) in
    let long = ap length c.as_slice.ensures.value ∙ many in
    let have = subst (λ batch. HaveRoom 0 cols (before ++ batch.rows)) (sym c.batch-item.is)
    (room-taken 0 cols c.args.input.now c.input.batch-index c.batch-item.result inside room) in
    record {
      groups = ap (λ batch. batch.kinds) c.batch-item.is ∙ c.requires.groups c.input.batch-index c.batch-item.result inside
          ∙ ap sum_kinds (sym long);
      behind = c.as_slice.ensures.value ∙ c.in_ok-columns.ensures.value ∙ ap (range_with_len 1) (sym long);
      room = (
        before,
        subst (λ list. AreGroups 0 list before c.input.groups) (sym c.as_slice.ensures.value) c.input.invariant,
        subst (λ list. HaveRoom 0 list (before ++ c.batch-item.result.rows)) (sym c.as_slice.ensures.value) have,
      );
    }

pub input-preserved : goal.input-preserved
input-preserved g c =
    let cols = c.in_ok-columns.columns.items in
    let inside : c.input.batch-index < length c.args.input.now = search rules in
    let before = rows_in_all (take c.input.batch-index c.args.input.now) in
    let are = subst (λ list. AreGroups 0 list before c.input.groups) (sym c.as_slice.ensures.value) c.input.invariant in
    let more = subst (λ list. AreGroups 0 list (before ++ c.batch-item.result.rows) c.add_batch.new.groups) c.as_slice.ensures.value
    (c.in_ok-add_batch.ensures.groups before are) in
    let rows = ap (λ batch. before ++ batch.rows) c.batch-item.is
    ∙ rows-taken c.args.input.now c.input.batch-index c.batch-item.result inside in
    subst (λ list. AreGroups 0 cols list c.add_batch.new.groups) rows more

pub rows-requires : goal.rows-requires
rows-requires g c =
    let cols = c.in_ok-columns.columns.items in
    let summable = subst (λ list. AreSummable 0 list (rows_in_all c.args.input.now))
    (sym c.in_ok-columns.ensures.value) c.requires.summable in
    let room = room-summable 0 cols (rows_in_all c.args.input.now) summable in
    let behind : length c.args.input.now ≤ c.input.batch-index = search rules in
    let are = subst (λ list. AreGroups 0 cols list c.input.groups)
    (rows-all c.args.input.now c.input.batch-index behind) c.input.invariant in
    record { room = (0, cols, rows_in_all c.args.input.now, are, room) }

pub returns-clause-kinds : goal.returns-clause-kinds
returns-clause-kinds g c =
    let cols = c.in_ok-columns.columns.items in
    let many = ap length c.in_ok-columns.ensures.value ∙ length-range_with_len 1 c.args.sums in
    let behind : length c.args.input.now ≤ c.input.batch-index = search rules in
    let are = subst (λ list. AreGroups 0 cols list c.input.groups)
    (rows-all c.args.input.now c.input.batch-index behind) c.input.invariant in
    let count = ap length are.sums ∙ length-map cols _ ∙ many in
    subst (λ n. IfOk c.rows.result (λ rows. rows.kinds ≡ sum_kinds n)) count c.rows.ensures.kinds

pub returns-clause-rows : goal.returns-clause-rows
returns-clause-rows g c =
    let cols = c.in_ok-columns.columns.items in
    let behind : length c.args.input.now ≤ c.input.batch-index = search rules in
    let are = subst (λ list. AreGroups 0 cols list c.input.groups)
    (rows-all c.args.input.now c.input.batch-index behind) c.input.invariant in
    subst (λ list. IfOk c.rows.result (λ rows. rows.rows ≡ groups_of 0 list (rows_in_all c.args.input.now))) c.in_ok-columns.ensures.value
    (c.rows.ensures.rows 0 cols (rows_in_all c.args.input.now) are)
