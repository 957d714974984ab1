-- What a query asks for, batch by batch, what it keeps, and the most that a batch can ask for.
use Rattle.std.specs.Prelude.{ℕ, zero, suc, ◌+◌, ◌-◌, ◌*◌, ◌/◌, ◌≤◌, nat_lt, List, [], ◌∷◌, ◌++◌, map, filter, flat_map, length, take, drop, sum, slice_get, All}
use Rattle.std.proofs.Math.ListN.{replicate}
use Rattle.std.specs.List.{range_with_len}
use Rattle.std.specs.Option.{option_map_or}
use Rattle.mem_num.specs.declared.alloc_id.AllocId.{AllocId}
use Rattle.mem_model.specs.declared.charge.Charge.{Charge}
use Rattle.mem_model.specs.WorstCase.{worst_case}
use Rattle.query_model.specs.declared.cell.Cell.{Cell}
use Rattle.query_model.specs.declared.kind.Kind.{Kind}
use Rattle.query_model.specs.declared.kind.Kind.TheVariants as kind
use Rattle.query_model.specs.declared.column.Column.{Column}
use Rattle.query_model.specs.declared.output.Output.{Output}
use Rattle.query_model.specs.declared.output.Output.TheVariants.{Select, Group}
use Rattle.query_model.specs.declared.plan.Plan.{Plan}
use Rattle.query_model.specs.Answer.{answer_of, groups_of}
use Rattle.query_model.specs.Buffers.{buffer_sizes}
use Rattle.query_model.specs.Filter.{meeting}

-- the allocators of a query
abbrev pub root_id : AllocId
root_id = record { 0 = 0 }

abbrev pub scan_id : AllocId
scan_id = record { 0 = 1 }

abbrev pub filter_id : AllocId
filter_id = record { 0 = 2 }

abbrev pub project_id : AllocId
project_id = record { 0 = 3 }

abbrev pub sums_id : AllocId
sums_id = record { 0 = 4 }

abbrev pub result_id : AllocId
result_id = record { 0 = 5 }

-- the kinds of columns
abbrev pub kinds_of : List Column → List Kind
kinds_of columns = map (λ column. column.kind) columns

-- the kinds of the columns that are picked
abbrev pub picked_kinds : List Kind → List ℕ → List Kind
picked_kinds kinds picks = map (λ pick. option_map_or (λ kind. kind) (slice_get kinds pick) kind.Int) picks

-- the kinds of grouped sums: the key is a text
abbrev pub sum_kinds : ℕ → List Kind
sum_kinds sums = kind.Text ∷ replicate sums kind.Sum

-- the kinds of the answer's columns
abbrev pub output_kinds : List Kind → Output → List Kind
output_kinds kinds (Select picks) = picked_kinds kinds picks
output_kinds kinds (Group key sums) = sum_kinds (length sums)

abbrev pub answer_kinds : Plan → List Kind
answer_kinds plan = output_kinds (kinds_of plan.columns) plan.output

-- how many batches rows make
abbrev pub batch_count : Plan → List (List Cell) → ℕ
batch_count plan rows = (length rows + plan.batch - 1) / plan.batch

-- the rows of a batch, numbered from 1
abbrev pub batch_rows : Plan → List (List Cell) → ℕ → List (List Cell)
batch_rows plan rows batch = take plan.batch (drop (plan.batch * (batch - 1)) rows)

-- the batches of rows, in order
abbrev pub batches_of : Plan → List (List Cell) → List (List (List Cell))
batches_of plan rows = map (batch_rows plan rows) (range_with_len 1 (batch_count plan rows))

-- requests at an allocator
abbrev pub requests_at : AllocId → List ℕ → List Charge
requests_at at sizes = map (λ size. record { at = at; amount = size }) sizes

-- the sizes of the groups of rows, where a plan groups; a selection stores nothing more
abbrev pub group_sizes : Plan → List (List Cell) → Output → List ℕ
group_sizes plan rows (Select picks) = []
group_sizes plan rows (Group key sums) = buffer_sizes (answer_kinds plan) (answer_of plan rows)

-- the buffers that the rows of a batch ask for, in order: those of the scan, of the filter, and of the groups
abbrev pub rows_requests : Plan → List (List Cell) → List Charge
rows_requests plan rows =
    requests_at scan_id (buffer_sizes (kinds_of plan.columns) rows)
    ++ (requests_at filter_id (buffer_sizes (kinds_of plan.columns) (meeting plan.tests rows))
    ++ requests_at sums_id (group_sizes plan rows plan.output))

-- the buffers that a batch asks for, in order; batch 0 is the merge
abbrev pub buffer_requests : Plan → List (List Cell) → ℕ → List Charge
buffer_requests plan rows zero = requests_at result_id (group_sizes plan rows plan.output)
buffer_requests plan rows (suc batch) = rows_requests plan (batch_rows plan rows (suc batch))

-- the reservations, which the children ask of the root
abbrev pub reservation_requests : Plan → List Charge
reservation_requests plan = requests_at root_id (filter (nat_lt 0) plan.reserves)

-- what a batch asks for: its buffers; batch 0 asks for the reservations first
abbrev pub requests_of : Plan → List (List Cell) → ℕ → List Charge
requests_of plan rows zero = reservation_requests plan ++ buffer_requests plan rows 0
requests_of plan rows (suc batch) = buffer_requests plan rows (suc batch)

-- the buffers that all batches and the merge ask for
abbrev pub all_buffers : Plan → List (List Cell) → List Charge
all_buffers plan rows = flat_map (rows_requests plan) (batches_of plan rows) ++ buffer_requests plan rows 0

-- the sizes of the buffers that hold the answer: those of each batch, or those of the groups
abbrev pub sizes_kept : Plan → List (List Cell) → Output → List ℕ
sizes_kept plan rows (Select picks) = flat_map (λ part. buffer_sizes (answer_kinds plan) (answer_of plan part)) (batches_of plan rows)
sizes_kept plan rows (Group key sums) = group_sizes plan rows (Group key sums)

abbrev pub result_sizes : Plan → List (List Cell) → List ℕ
result_sizes plan rows = sizes_kept plan rows plan.output

-- the sizes of groups, one for each row, as if no two rows had the same key
abbrev pub sizes_apart : Plan → List (List Cell) → Output → List ℕ
sizes_apart plan rows (Select picks) = []
sizes_apart plan rows (Group key sums) = buffer_sizes (answer_kinds plan) (flat_map (λ row. groups_of key sums (row ∷ [])) rows)

abbrev pub group_ceiling : Plan → List (List Cell) → ℕ
group_ceiling plan rows = sum (sizes_apart plan rows plan.output)

-- the bytes that a batch is given before any of its requests is known
abbrev pub byte_ceiling : Plan → List (List Cell) → ℕ → ℕ
byte_ceiling plan rows zero = group_ceiling plan rows
byte_ceiling plan rows (suc batch) =
    let part = batch_rows plan rows (suc batch) in
    2 * sum (buffer_sizes (kinds_of plan.columns) part) + group_ceiling plan part

-- the most that an allocator can come to hold in a query
abbrev pub query_worst : Plan → List (List Cell) → ℕ
query_worst plan rows = worst_case (map (λ request. request.amount) (all_buffers plan rows)) plan.reserves

-- each limit is at least that
abbrev pub AreAdequate : Plan → List (List Cell) → Type 0
AreAdequate plan rows = All (λ limit. query_worst plan rows ≤ limit) plan.limits
