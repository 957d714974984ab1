-- Each operator, behind those before it.
use Rattle.std.proofs.Common.{◌≤◌, All, length, map, refl, sym, ◌∙◌, ap, subst, arith}
use Rattle.std.proofs.lemmas.List.{length-map}
use Rattle.std.specs.Prelude.{Ok, Err}
use Rattle.mem_num.specs.declared.bounds.TheConstants.{LARGEST}
use Rattle.mem_buf.specs.Callers.{CanShare}
use Rattle.mem_buf.specs.Chain.{Runs}
use Rattle.query_model.specs.Answer.{groups_of}
use Rattle.query_model.specs.Buffers.{buffer_lengths}
use Rattle.query_model.specs.Filter.{meeting}
use Rattle.query_model.specs.Requests.{kinds_of, project_id, sum_kinds}
use Rattle.row_text.specs.Rows.{AreRows}
use Rattle.batch_vec.specs.Moving.{of_columns}
use Rattle.operators.specs.Moving.{IsProject}
use Rattle.pipeline.proofs.OperatorLemmas.{filter-paid, filter-pinned, filter-returns, group-lengths, group-paid, group-returns, group-short, has-scanned, meeting-few, met-behind, met-lengths, met-short, output-pinned, picked-returns, picks-inside, project-paid, scan-paid, scan-returns, sums-whole, unpicked-returns}
use Rattle.pipeline.proofs.batch.run_batch.Goals as goal

pub scan-requires-clause-pinned : goal.scan-requires-clause-pinned
scan-requires-clause-pinned g c = c.requires.token.pinned 0 (record { 0 = 1 }) (omega arith)

pub scan-requires-clause-budget : goal.scan-requires-clause-budget
scan-requires-clause-budget g c =
    scan-paid g.M.Memory.model c.args.plan.now c.args.rows.now.rows c.args.token.now c.requires.token c.args.rows.now.kinds c.requires.kinds

pub returns-in-Err-clause-calls : goal.returns-in-Err-clause-calls
returns-in-Err-clause-calls g c =
    scan-returns g.M.Memory.model c.args.plan.now c.args.rows.now.rows c.args.token.now c.requires.token c.args.rows.now.kinds c.requires.kinds
    c.in-Err.refused c.scan.new.token c.in-Err.ensures.calls

pub returns-in-Err-clause-full : goal.returns-in-Err-clause-full
returns-in-Err-clause-full g c full is =
    (c.in-Err.ensures.full full is).past

pub filter-requires-clause-pinned : goal.filter-requires-clause-pinned
filter-requires-clause-pinned g c =
    let scan = has-scanned g.M.Memory.model c.args.plan.now c.args.rows.now.rows c.args.token.now c.requires.token c.args.rows.now.kinds
    c.requires.kinds c.in-Ok.scanned c.scan.new.token c.in-Ok.ensures.calls in
    filter-pinned g.M.Memory.model c.args.plan.now c.args.rows.now.rows c.args.token.now c.requires.token c.scan.new.token
    (map g.M.Memory.model.reference c.in-Ok.scanned.holds) scan

pub filter-requires-clause-sized : goal.filter-requires-clause-sized
filter-requires-clause-sized g c =
    met-short c.args.plan.now c.args.rows.now.rows c.args.rows.now.kinds c.in-Ok.scanned.kinds c.as_slice.result.now c.in-Ok.scanned.rows
    c.requires.kinds c.in-Ok.ensures.kinds c.as_slice.ensures c.in-Ok.ensures.rows c.requires.sized

pub filter-requires-clause-budget : goal.filter-requires-clause-budget
filter-requires-clause-budget g c =
    let scan = has-scanned g.M.Memory.model c.args.plan.now c.args.rows.now.rows c.args.token.now c.requires.token c.args.rows.now.kinds
    c.requires.kinds c.in-Ok.scanned c.scan.new.token c.in-Ok.ensures.calls in
    let holds = map g.M.Memory.model.reference c.in-Ok.scanned.holds in
    let lengths = buffer_lengths c.in-Ok.scanned.kinds (meeting c.as_slice.result.now c.in-Ok.scanned.rows) in
    let are = met-lengths c.args.plan.now c.args.rows.now.rows c.in-Ok.scanned.kinds c.as_slice.result.now c.in-Ok.scanned.rows
    (c.in-Ok.ensures.kinds ∙ c.requires.kinds) c.as_slice.ensures c.in-Ok.ensures.rows in
    filter-paid g.M.Memory.model c.args.plan.now c.args.rows.now.rows c.args.token.now c.requires.token c.scan.new.token holds scan lengths are

pub returns-in-Err-filter-clause-calls : goal.returns-in-Err-filter-clause-calls
returns-in-Err-filter-clause-calls g c =
    let scan = has-scanned g.M.Memory.model c.args.plan.now c.args.rows.now.rows c.args.token.now c.requires.token c.args.rows.now.kinds
    c.requires.kinds c.in-Ok.scanned c.scan.new.token c.in-Ok.ensures.calls in
    let holds = map g.M.Memory.model.reference c.in-Ok.scanned.holds in
    let lengths = buffer_lengths c.in-Ok.scanned.kinds (meeting c.as_slice.result.now c.in-Ok.scanned.rows) in
    let are = met-lengths c.args.plan.now c.args.rows.now.rows c.in-Ok.scanned.kinds c.as_slice.result.now c.in-Ok.scanned.rows
    (c.in-Ok.ensures.kinds ∙ c.requires.kinds) c.as_slice.ensures c.in-Ok.ensures.rows in
    filter-returns g.M.Memory.model c.args.plan.now c.args.rows.now.rows c.args.token.now c.requires.token c.scan.new.token holds scan lengths are c.in-Err-filter.refused c.filter.new.token
    c.in-Err-filter.ensures.calls

pub returns-in-Err-filter-clause-full : goal.returns-in-Err-filter-clause-full
returns-in-Err-filter-clause-full g c full is =
    (c.in-Err-filter.ensures.full full is).past

pub project-requires-clause-pinned : goal.project-requires-clause-pinned
project-requires-clause-pinned g c =
    let has = met-behind g.M.Memory.model c.args.plan.now c.args.rows.now.rows c.args.token.now c.requires.token c.args.rows.now.kinds
    c.requires.kinds c.in-Ok.scanned c.scan.new.token c.in-Ok.ensures.calls c.in-Ok.ensures.kinds c.in-Ok.ensures.rows c.as_slice.result.now
    c.as_slice.ensures c.in-Ok-filter.met c.filter.new.token c.in-Ok-filter.ensures.calls in
    output-pinned g.M.Memory.model c.args.plan.now c.args.rows.now.rows c.args.token.now c.requires.token c.filter.new.token
    (map g.M.Memory.model.reference c.in-Ok-filter.met.holds) has 2 (omega arith)

pub project-requires-clause-within : goal.project-requires-clause-within
project-requires-clause-within g c =
    picks-inside c.args.plan.now c.in-Select.picks c.as_slice-in-Select.result.now c.in-Ok-filter.met.kinds c.requires.fit c.in-Select.is
    c.as_slice-in-Select.ensures (c.in-Ok-filter.ensures.kinds ∙ (c.in-Ok.ensures.kinds ∙ c.requires.kinds))

pub project-requires-clause-budget : goal.project-requires-clause-budget
project-requires-clause-budget g c =
    let has = met-behind g.M.Memory.model c.args.plan.now c.args.rows.now.rows c.args.token.now c.requires.token c.args.rows.now.kinds
    c.requires.kinds c.in-Ok.scanned c.scan.new.token c.in-Ok.ensures.calls c.in-Ok.ensures.kinds c.in-Ok.ensures.rows c.as_slice.result.now
    c.as_slice.ensures c.in-Ok-filter.met c.filter.new.token c.in-Ok-filter.ensures.calls in
    let holds = map g.M.Memory.model.reference c.in-Ok-filter.met.holds in
    subst (λ picks. CanShare (g.M.Memory.model.view c.filter.new.token) project_id (of_columns holds picks))
    (sym c.as_slice-in-Select.ensures)
    (project-paid g.M.Memory.model c.args.plan.now c.args.rows.now.rows c.args.token.now c.requires.token c.filter.new.token holds has
    c.requires.fit c.in-Select.picks c.in-Select.is)

pub group_sums-requires-clause-ints : goal.group_sums-requires-clause-ints
group_sums-requires-clause-ints g c =
    sums-whole c.args.plan.now c.in-Group.key c.in-Group.sums c.as_slice-in-Group.result.now c.in-Ok-filter.met.kinds c.requires.fit
    c.in-Group.is c.as_slice-in-Group.ensures (c.in-Ok-filter.ensures.kinds ∙ (c.in-Ok.ensures.kinds ∙ c.requires.kinds))

pub group_sums-requires-clause-few : goal.group_sums-requires-clause-few
group_sums-requires-clause-few g c =
    let same = ap length (c.in-Ok-filter.ensures.rows ∙ (λ i. meeting (c.as_slice.ensures i) (c.in-Ok.ensures.rows i))) in
    let fewer = meeting-few c.args.plan.now.tests c.args.rows.now.rows in
    omega (arith, same, fewer, c.requires.few)

pub group_sums-requires-clause-pinned : goal.group_sums-requires-clause-pinned
group_sums-requires-clause-pinned g c =
    let has = met-behind g.M.Memory.model c.args.plan.now c.args.rows.now.rows c.args.token.now c.requires.token c.args.rows.now.kinds
    c.requires.kinds c.in-Ok.scanned c.scan.new.token c.in-Ok.ensures.calls c.in-Ok.ensures.kinds c.in-Ok.ensures.rows c.as_slice.result.now
    c.as_slice.ensures c.in-Ok-filter.met c.filter.new.token c.in-Ok-filter.ensures.calls in
    output-pinned g.M.Memory.model c.args.plan.now c.args.rows.now.rows c.args.token.now c.requires.token c.filter.new.token
    (map g.M.Memory.model.reference c.in-Ok-filter.met.holds) has 3 (omega arith)

pub group_sums-requires-clause-sized : goal.group_sums-requires-clause-sized
group_sums-requires-clause-sized g c =
    let plan = c.args.plan.now in
    let rows = c.args.rows.now.rows in
    let met = (c.in-Ok-filter.ensures.rows ∙ (λ i. meeting (c.as_slice.ensures i) (c.in-Ok.ensures.rows i))) in
    let lengths = group-lengths plan rows c.in-Ok-filter.met.rows c.in-Group.key c.in-Group.sums c.as_slice-in-Group.result.now c.in-Group.is
    c.as_slice-in-Group.ensures met in
    subst (All (λ length. length ≤ LARGEST)) (sym lengths)
    (group-short plan rows c.in-Group.key c.in-Group.sums c.requires.fit c.in-Group.is
    (subst (λ kinds. AreRows kinds rows) c.requires.kinds c.len-count.ensures.typed) c.requires.few
    (met-short plan rows c.args.rows.now.kinds (kinds_of plan.columns) plan.tests rows c.requires.kinds (sym c.requires.kinds) refl refl
    c.requires.sized))

pub group_sums-requires-clause-budget : goal.group_sums-requires-clause-budget
group_sums-requires-clause-budget g c =
    let has = met-behind g.M.Memory.model c.args.plan.now c.args.rows.now.rows c.args.token.now c.requires.token c.args.rows.now.kinds
    c.requires.kinds c.in-Ok.scanned c.scan.new.token c.in-Ok.ensures.calls c.in-Ok.ensures.kinds c.in-Ok.ensures.rows c.as_slice.result.now
    c.as_slice.ensures c.in-Ok-filter.met c.filter.new.token c.in-Ok-filter.ensures.calls in
    let met = (c.in-Ok-filter.ensures.rows ∙ (λ i. meeting (c.as_slice.ensures i) (c.in-Ok.ensures.rows i))) in
    group-paid g.M.Memory.model c.args.plan.now c.args.rows.now.rows c.args.token.now c.requires.token c.filter.new.token
    (map g.M.Memory.model.reference c.in-Ok-filter.met.holds) has
    (buffer_lengths (sum_kinds (length c.as_slice-in-Group.result.now))
    (groups_of c.in-Group.key c.as_slice-in-Group.result.now c.in-Ok-filter.met.rows))
    c.in-Group.key c.in-Group.sums c.in-Group.is
    (group-lengths c.args.plan.now c.args.rows.now.rows c.in-Ok-filter.met.rows c.in-Group.key c.in-Group.sums
    c.as_slice-in-Group.result.now c.in-Group.is c.as_slice-in-Group.ensures met)

pub returns-in-Ok-project-clause-calls : goal.returns-in-Ok-project-clause-calls
returns-in-Ok-project-clause-calls g c =
    let has = met-behind g.M.Memory.model c.args.plan.now c.args.rows.now.rows c.args.token.now c.requires.token c.args.rows.now.kinds
    c.requires.kinds c.in-Ok.scanned c.scan.new.token c.in-Ok.ensures.calls c.in-Ok.ensures.kinds c.in-Ok.ensures.rows c.as_slice.result.now
    c.as_slice.ensures c.in-Ok-filter.met c.filter.new.token c.in-Ok-filter.ensures.calls in
    let many = (c.in-Ok-filter.ensures.kinds ∙ (c.in-Ok.ensures.kinds ∙ c.requires.kinds)) in
    let long = length-map c.args.plan.now.columns (λ column. column.kind) in
    picked-returns g.M.Memory.model c.args.plan.now c.args.rows.now.rows c.args.token.now c.requires.token c.filter.new.token
    (map g.M.Memory.model.reference c.in-Ok-filter.met.holds) has c.requires.fit c.in-Select.picks c.in-Select.is
    (length c.in-Ok-filter.met.kinds) c.in-Ok-project.picked c.project.new.token (ap length many ∙ long)
    (subst (λ picks. Runs g.M.Memory.model (IsProject g.M.Memory.model.reference project_id (length c.in-Ok-filter.met.kinds) picks
    (map g.M.Memory.model.reference c.in-Ok-filter.met.holds) (Ok c.in-Ok-project.picked)) c.filter.new.token c.project.new.token)
    c.as_slice-in-Select.ensures c.in-Ok-project.ensures.calls)

pub returns-in-Err-project-clause-calls : goal.returns-in-Err-project-clause-calls
returns-in-Err-project-clause-calls g c =
    let has = met-behind g.M.Memory.model c.args.plan.now c.args.rows.now.rows c.args.token.now c.requires.token c.args.rows.now.kinds
    c.requires.kinds c.in-Ok.scanned c.scan.new.token c.in-Ok.ensures.calls c.in-Ok.ensures.kinds c.in-Ok.ensures.rows c.as_slice.result.now
    c.as_slice.ensures c.in-Ok-filter.met c.filter.new.token c.in-Ok-filter.ensures.calls in
    let many = (c.in-Ok-filter.ensures.kinds ∙ (c.in-Ok.ensures.kinds ∙ c.requires.kinds)) in
    let long = length-map c.args.plan.now.columns (λ column. column.kind) in
    unpicked-returns g.M.Memory.model c.args.plan.now c.args.rows.now.rows c.args.token.now c.requires.token c.filter.new.token
    (map g.M.Memory.model.reference c.in-Ok-filter.met.holds) has c.requires.fit c.in-Select.picks c.in-Select.is
    (length c.in-Ok-filter.met.kinds) c.in-Err-project.field-0 c.project.new.token (ap length many ∙ long)
    (subst (λ picks. Runs g.M.Memory.model (IsProject g.M.Memory.model.reference project_id (length c.in-Ok-filter.met.kinds) picks
    (map g.M.Memory.model.reference c.in-Ok-filter.met.holds) (Err c.in-Err-project.field-0)) c.filter.new.token c.project.new.token)
    c.as_slice-in-Select.ensures c.in-Err-project.ensures.calls)

pub returns-in-Group-clause-calls : goal.returns-in-Group-clause-calls
returns-in-Group-clause-calls g c =
    let has = met-behind g.M.Memory.model c.args.plan.now c.args.rows.now.rows c.args.token.now c.requires.token c.args.rows.now.kinds
    c.requires.kinds c.in-Ok.scanned c.scan.new.token c.in-Ok.ensures.calls c.in-Ok.ensures.kinds c.in-Ok.ensures.rows c.as_slice.result.now
    c.as_slice.ensures c.in-Ok-filter.met c.filter.new.token c.in-Ok-filter.ensures.calls in
    let met = (c.in-Ok-filter.ensures.rows ∙ (λ i. meeting (c.as_slice.ensures i) (c.in-Ok.ensures.rows i))) in
    group-returns g.M.Memory.model c.args.plan.now c.args.rows.now.rows c.args.token.now c.requires.token c.filter.new.token
    (map g.M.Memory.model.reference c.in-Ok-filter.met.holds) has
    (buffer_lengths (sum_kinds (length c.as_slice-in-Group.result.now))
    (groups_of c.in-Group.key c.as_slice-in-Group.result.now c.in-Ok-filter.met.rows))
    c.in-Group.key c.in-Group.sums c.group_sums.result c.group_sums.new.token c.in-Group.is
    (group-lengths c.args.plan.now c.args.rows.now.rows c.in-Ok-filter.met.rows c.in-Group.key c.in-Group.sums
    c.as_slice-in-Group.result.now c.in-Group.is c.as_slice-in-Group.ensures met)
    c.group_sums.ensures.calls

pub returns-in-Group-clause-full : goal.returns-in-Group-clause-full
returns-in-Group-clause-full g c full is = (c.group_sums.ensures.full full is).past
