-- The merge of the parts of an answer: its rows, and what it asks for.
use Rattle.std.proofs.Common.{◌≡◌, ◌+◌, ◌*◌, ◌-◌, ◌≤◌, ℕ, List, [], ◌∷◌, All, length, map, drop, refl, sym, ◌∙◌, ap, subst, arith}
use Rattle.std.proofs.lemmas.List.{append-nil, length-replicate}
use Rattle.std.proofs.lemmas.List.Elements.{All-cons, All-head, All-map, All-nil, All-tail, filter-append}
use Rattle.std.proofs.lemmas.List.Folds.{flat_map-map}
use Rattle.std.specs.Prelude.{flat_map, slice_index_or, get_or}
use Rattle.std.specs.List.{list_all, range_with_len}
use Rattle.mem_num.specs.declared.bounds.TheConstants.{LARGEST}
use Rattle.mem_num.specs.declared.buffer_ref.Ref.{Ref}
use Rattle.mem_model.specs.MeasuredTree.{MeasuredTree}
use Rattle.mem_buf.specs.Callers.{CanPay, CanShare}
use Rattle.mem_buf.proofs.PayLemmas.{CanPay-few, CanShare-few}
use Rattle.query_model.proofs.BatchLemmas.{batches_whole}
use Rattle.query_model.proofs.CutLemmas.{batches_cut}
use Rattle.query_model.proofs.GroupLemmas.{each-part}
use Rattle.query_model.proofs.PartLemmas.{meeting-rows, part-rows}
use Rattle.query_model.specs.Answer.{answer_of, groups_of, merged, output_of}
use Rattle.query_model.specs.Buffers.{buffer_lengths}
use Rattle.query_model.specs.Filter.{meeting, meets}
use Rattle.query_model.specs.Fit.{FitsColumns, IsFit}
use Rattle.query_model.specs.Requests.{answer_kinds, batch_count, batch_rows, batches_of, kinds_of, output_kinds, result_id, sum_kinds}
use Rattle.query_model.specs.SequentialCalls.{answer_width}
use Rattle.query_model.specs.declared.bounds.TheConstants.{MOST_ROWS}
use Rattle.query_model.specs.declared.cell.Cell.{Cell}
use Rattle.query_model.specs.declared.kind.Kind.{Kind}
use Rattle.query_model.specs.declared.kind.Kind.TheVariants as kind
use Rattle.query_model.specs.declared.output.Output.TheVariants.{Select, Group}
use Rattle.query_model.specs.declared.plan.Plan.{Plan}
use Rattle.row_text.specs.Rows.{AreRows}
use Rattle.alloc_tree.specs.SoloView.{solo_view}
use Rattle.batch_vec.specs.Batches.{BatchView}
use Rattle.operators.specs.Groups.{rows_in_all}
use Rattle.operators.specs.Summable.{AreSummable}
use Rattle.operators.proofs.PartLemmas.{parts-summable}
use Rattle.pipeline.specs.Stages.{AreParts, AreStorable}
use Rattle.pipeline.proofs.OperatorLemmas.{group-short, meeting-few, met-short, sums-whole}
use Rattle.pipeline.proofs.TokenLemmas.{buffers-count}

-- batches that moved have the kinds that they had
pub same-kinds : {H : Type 0} (kinds : List Kind) (moved batches : List (BatchView H))
    → map (λ batch. batch.kinds) moved ≡ map (λ batch. batch.kinds) batches
    → All (λ batch. batch.kinds ≡ kinds) batches → All (λ batch. batch.kinds ≡ kinds) moved
same-kinds kinds [] batches same are = All-nil (λ batch. batch.kinds ≡ kinds)
same-kinds kinds (one ∷ moved) [] same are = absurd (let long = ap length same in omega (arith, long))
same-kinds kinds (one ∷ moved) (other ∷ batches) same are =
    All-cons (λ batch. batch.kinds ≡ kinds) one moved
    (ap (λ ks. slice_index_or ks 0 kinds) same ∙ All-head (λ batch. batch.kinds ≡ kinds) other batches are)
    (same-kinds kinds moved batches (ap (drop 1) same) (All-tail (λ batch. batch.kinds ≡ kinds) other batches are))

-- and their rows are those that they were
pub same-rows : {H : Type 0} (moved batches : List (BatchView H))
    → map (λ batch. batch.rows) moved ≡ map (λ batch. batch.rows) batches → rows_in_all moved ≡ rows_in_all batches
same-rows moved batches same =
    sym (flat_map-map (λ part. part) (λ batch. batch.rows) moved)
    ∙ ap (flat_map (λ part. part)) same
    ∙ flat_map-map (λ part. part) (λ batch. batch.rows) batches

module _ {H : Type 0} (plan : Plan) (rows : List (List Cell)) (batches : List (BatchView H)) (parts : AreParts plan rows batches) where
  -- the rows of the parts
  rows-parted : rows_in_all batches ≡ flat_map (answer_of plan) (batches_of plan rows)
  rows-parted =
      sym (flat_map-map (λ part. part) (λ batch. batch.rows) batches)
      ∙ ap (flat_map (λ part. part)) parts.rows_are
      ∙ flat_map-map (λ part. part) (answer_of plan) (batches_of plan rows)

  rows-merged : IsFit plan → merged plan.output (rows_in_all batches) ≡ answer_of plan rows
  rows-merged fit = ap (merged plan.output) rows-parted ∙ batches_cut plan rows fit.batch.0

  -- the parts of a selection are its rows
  pub selection-rows : IsFit plan → (picks : List ℕ) → plan.output ≡ Select picks → rows_in_all batches ≡ answer_of plan rows
  selection-rows fit picks output = sym (ap (λ o. merged o (rows_in_all batches)) output) ∙ rows-merged fit

  module _ (fit : IsFit plan) (key : ℕ) (sums : List ℕ) (count : ℕ) (output : plan.output ≡ Group key sums)
      (counts : count ≡ length sums) where
    pub sums-kinds : sum_kinds count ≡ answer_kinds plan
    sums-kinds = ap sum_kinds counts ∙ sym (ap (output_kinds (kinds_of plan.columns)) output)

    -- the parts have the kinds of grouped sums
    pub parts-grouped : All (λ batch. batch.kinds ≡ sum_kinds count) batches
    parts-grouped = subst (λ kinds. All (λ batch. batch.kinds ≡ kinds) batches) (sym sums-kinds) parts.kinds

    -- the groups of the rows of all parts are the answer
    pub groups-merged : groups_of 0 (range_with_len 1 count) (rows_in_all batches) ≡ answer_of plan rows
    groups-merged =
        ap (λ n. groups_of 0 (range_with_len 1 n) (rows_in_all batches)) counts
        ∙ sym (ap (λ o. merged o (rows_in_all batches)) output)
        ∙ rows-merged fit

    pub groups-lengths : buffer_lengths (sum_kinds count) (groups_of 0 (range_with_len 1 count) (rows_in_all batches))
        ≡ buffer_lengths (answer_kinds plan) (answer_of plan rows)
    groups-lengths i = buffer_lengths (sums-kinds i) (groups-merged i)

    -- their sums can be added up
    pub groups-summable : AreStorable plan rows → AreSummable 0 (range_with_len 1 count) (rows_in_all batches)
    groups-summable storable =
        let kinds = kinds_of plan.columns in
        let met : List (List Cell) → List (List Cell) = meeting plan.tests in
        let whole : flat_map (λ part. part) (map met (batches_of plan rows)) ≡ meeting plan.tests rows =
        flat_map-map (λ part. part) met (batches_of plan rows)
        ∙ sym (each-part met (λ part. part) refl (filter-append (λ row. list_all (meets row) plan.tests)) (batches_of plan rows))
        ∙ ap met (batches_whole plan rows fit.batch.0) in
        let few : length (flat_map (λ part. part) (map met (batches_of plan rows))) ≤ MOST_ROWS =
        (let long = ap length whole in
        let less = meeting-few plan.tests rows in
        let most = storable.few in
        omega (arith, long, less, most)) in
        let numbers = range_with_len 1 (batch_count plan rows) in
        let typed : All (AreRows kinds) (map met (batches_of plan rows)) =
        All-map (AreRows kinds) met (batches_of plan rows)
        (All-map (λ part. AreRows kinds (met part)) (batch_rows plan rows) numbers (λ k d within.
        meeting-rows kinds plan.tests (batch_rows plan rows (get_or numbers k d))
        (part-rows kinds rows (plan.batch * (get_or numbers k d - 1)) plan.batch storable.typed))) in
        let same : flat_map (groups_of key sums) (map met (batches_of plan rows)) ≡ rows_in_all batches =
        flat_map-map (groups_of key sums) met (batches_of plan rows)
        ∙ sym (rows-parted ∙ ap (λ o. flat_map (λ part. output_of o (met part)) (batches_of plan rows)) output) in
        subst (λ n. AreSummable 0 (range_with_len 1 n) (rows_in_all batches)) (sym counts)
        (subst (AreSummable 0 (range_with_len 1 (length sums))) same
        (parts-summable key sums kinds (map met (batches_of plan rows)) typed (sums-whole plan key sums sums kinds fit output refl refl)
        few))

    -- their buffers are short
    pub groups-sized : AreStorable plan rows → All (λ length. length ≤ LARGEST)
        (buffer_lengths (sum_kinds count) (groups_of 0 (range_with_len 1 count) (rows_in_all batches)))
    groups-sized storable =
        let kinds = kinds_of plan.columns in
        subst (All (λ length. length ≤ LARGEST)) (sym groups-lengths)
        (group-short plan rows key sums fit output storable.typed storable.few
        (met-short plan rows kinds kinds plan.tests rows refl refl refl refl storable.sized))

    -- and a tree of one thread can pay for them
    pub groups-paid : (tree : MeasuredTree) → 2 * answer_width plan * (length batches + 1) ≤ (solo_view tree).turns
        → CanPay (solo_view tree) result_id
        (buffer_lengths (sum_kinds count) (groups_of 0 (range_with_len 1 count) (rows_in_all batches)))
    groups-paid tree turns =
        let asked = buffer_lengths (sum_kinds count) (groups_of 0 (range_with_len 1 count) (rows_in_all batches)) in
        let many = buffers-count (sum_kinds count) (groups_of 0 (range_with_len 1 count) (rows_in_all batches)) in
        let wide = length-replicate count kind.Sum in
        let same = ap length sums-kinds in
        let few = (subst (FitsColumns plan.columns) output fit.output).1.few in
        CanPay-few (solo_view tree) result_id asked refl (omega (arith, many, wide, counts, few)) (omega (arith, many, same, turns))

-- a tree of one thread can pay for the moves of parts
pub moves-paid : (plan : Plan) (tree : MeasuredTree) (references : List Ref) (count : ℕ)
    → length references ≤ 2 * answer_width plan * count → 2 * answer_width plan * (count + 1) ≤ (solo_view tree).turns
    → CanShare (solo_view tree) result_id references
moves-paid plan tree references count few turns = CanShare-few (solo_view tree) result_id references refl (omega (arith, few, turns))

-- the rows of a merged batch that stands alone
pub one-rows : {H : Type 0} (merged : List (BatchView H)) (batch : BatchView H) → merged ≡ batch ∷ [] → rows_in_all merged ≡ batch.rows
one-rows merged batch is = ap rows_in_all is ∙ append-nil batch.rows
