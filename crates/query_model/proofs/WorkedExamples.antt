-- Worked examples, computed by the definitions themselves.
use Rattle.std.specs.Prelude.{◌≡◌, ℕ, pos, negsuc, List, [], ◌∷◌, map, flat_map, codes, refl, Option, Some, None}
use Rattle.mem_num.specs.Rounded.{rounded_size, power_from}
use Rattle.mem_model.specs.declared.charge.Charge.{Charge}
use Rattle.mem_model.specs.Ledgers.{with_count}
use Rattle.mem_model.specs.Grant.{grant_result}
use Rattle.mem_model.specs.Child.{child_result}
use Rattle.mem_model.specs.Transfer.{transfer_result}
use Rattle.mem_model.specs.Release.{release_result}
use Rattle.query_model.specs.declared.cell.Cell.TheVariants.{Null, Int, Sum, Text}
use Rattle.query_model.specs.declared.kind.Kind.TheVariants as kind
use Rattle.query_model.specs.declared.column.Column.{Column}
use Rattle.query_model.specs.declared.op.Op.TheVariants.{Ge}
use Rattle.query_model.specs.declared.output.Output.TheVariants.{Select, Group}
use Rattle.query_model.specs.declared.plan.Plan.{Plan}
use Rattle.query_model.specs.declared.cell.Cell.{Cell}
use Rattle.query_model.specs.Answer.{answer_of, merged}
use Rattle.query_model.specs.Requests.{requests_of, batch_count, result_sizes, byte_ceiling, query_worst, batches_of}
use Rattle.query_model.specs.SequentialCalls.{FullBatch, sequential_refusal, sequential_run}
use Rattle.mem_model.specs.PeakSample.{peak_of}
use Rattle.mem_model.specs.TreeState.{held_at}

-- the greatest limit
abbrev most : ℕ
most = 9223372036854775807

abbrev columns : List Column
columns = record { name = codes "city"; kind = kind.Text } ∷ record { name = codes "mm"; kind = kind.Int } ∷ []

abbrev table : List (List Cell)
table =
    (Text (codes "oslo") ∷ Int (pos 3) ∷ []) ∷ (Text (codes "bergen") ∷ Null ∷ []) ∷ (Text (codes "oslo") ∷ Int (negsuc 0) ∷ [])
    ∷ (Text (codes "bergen") ∷ Int (pos 7) ∷ []) ∷ (Text (codes "oslo") ∷ Int (pos 2) ∷ []) ∷ []

-- the plan of groups, with these limits of the root and of the filter
abbrev grouping : ℕ → ℕ → Plan
grouping root filtered = record {
  columns = columns;
  batch = 2;
  tests = [];
  output = Group 0 (1 ∷ []);
  limits = root ∷ most ∷ filtered ∷ most ∷ most ∷ most ∷ [];
  reserves = 0 ∷ 0 ∷ 0 ∷ 0 ∷ 0 ∷ [];
}

abbrev selecting : Plan
selecting = record {
  columns = columns;
  batch = 2;
  tests = record { column = 1; op = Ge; value = Int (pos 0) } ∷ [];
  output = Select (1 ∷ []);
  limits = most ∷ most ∷ most ∷ most ∷ most ∷ most ∷ [];
  reserves = 0 ∷ 0 ∷ 0 ∷ 0 ∷ 0 ∷ [];
}

abbrev plan : Plan
plan = grouping most most

-- requests by the allocator's number and the size
abbrev shown : List Charge → List (ℕ × ℕ)
shown requests = map (λ request. (request.at.0, request.amount)) requests

group-answer : answer_of plan table ≡ (Text (codes "bergen") ∷ Sum (pos 7) ∷ []) ∷ (Text (codes "oslo") ∷ Sum (pos 4) ∷ []) ∷ []
group-answer = refl

select-answer : answer_of selecting table ≡ (Int (pos 3) ∷ []) ∷ (Int (pos 7) ∷ []) ∷ (Int (pos 2) ∷ []) ∷ []
select-answer = refl

group-count : batch_count plan table ≡ 3
group-count = refl

group-first : shown (requests_of plan table 1) ≡
    (1, 16) ∷ (1, 16) ∷ (1, 2) ∷ (1, 16) ∷ (2, 16) ∷ (2, 16) ∷ (2, 2) ∷ (2, 16) ∷ (4, 16) ∷ (4, 16) ∷ (4, 2) ∷ (4, 32) ∷ []
unfolding rounded_size power_from
group-first = refl

group-second : shown (requests_of plan table 2) ≡ shown (requests_of plan table 1)
unfolding rounded_size power_from
group-second = refl

group-third : shown (requests_of plan table 3) ≡
    (1, 8) ∷ (1, 4) ∷ (1, 2) ∷ (1, 8) ∷ (2, 8) ∷ (2, 4) ∷ (2, 2) ∷ (2, 8) ∷ (4, 8) ∷ (4, 4) ∷ (4, 2) ∷ (4, 16) ∷ []
unfolding rounded_size power_from
group-third = refl

group-merge : shown (requests_of plan table 0) ≡ (5, 16) ∷ (5, 16) ∷ (5, 2) ∷ (5, 32) ∷ []
unfolding rounded_size power_from
group-merge = refl

group-kept : result_sizes plan table ≡ 16 ∷ 16 ∷ 2 ∷ 32 ∷ []
unfolding rounded_size power_from
group-kept = refl

select-first : shown (requests_of selecting table 1) ≡
    (1, 16) ∷ (1, 16) ∷ (1, 2) ∷ (1, 16) ∷ (2, 8) ∷ (2, 4) ∷ (2, 2) ∷ (2, 8) ∷ []
unfolding rounded_size power_from
select-first = refl

select-second : shown (requests_of selecting table 2) ≡
    (1, 16) ∷ (1, 16) ∷ (1, 2) ∷ (1, 16) ∷ (2, 8) ∷ (2, 8) ∷ (2, 2) ∷ (2, 8) ∷ []
unfolding rounded_size power_from
select-second = refl

select-third : shown (requests_of selecting table 3) ≡
    (1, 8) ∷ (1, 4) ∷ (1, 2) ∷ (1, 8) ∷ (2, 8) ∷ (2, 4) ∷ (2, 2) ∷ (2, 8) ∷ []
unfolding rounded_size power_from
select-third = refl

select-kept : result_sizes selecting table ≡ 2 ∷ 8 ∷ 2 ∷ 8 ∷ 2 ∷ 8 ∷ []
unfolding rounded_size power_from
select-kept = refl

ceilings : map (byte_ceiling plan table) (0 ∷ 1 ∷ 2 ∷ 3 ∷ []) ≡ 194 ∷ 166 ∷ 166 ∷ 74 ∷ []
unfolding rounded_size power_from
ceilings = refl

worst : query_worst plan table ≡ 944
unfolding rounded_size power_from
worst = refl

merge : merged (Group 0 (1 ∷ [])) (flat_map (answer_of plan) (batches_of plan table)) ≡ answer_of plan table
merge = refl

-- the refusal of a request, with its batch: allocator, held, amount, limit
abbrev refusal : Option FullBatch → List ℕ
refusal None = []
refusal (Some refused) =
    refused.full.node.0 ∷ refused.full.held ∷ refused.full.amount ∷ refused.full.limit ∷ refused.batch ∷ []

filter-full : refusal (sequential_refusal (grouping most 8) table) ≡ 2 ∷ 0 ∷ 16 ∷ 8 ∷ 1 ∷ []
unfolding rounded_size power_from grant_result child_result transfer_result release_result with_count
filter-full = refl

root-full : refusal (sequential_refusal (grouping 227 most) table) ≡ 0 ∷ 196 ∷ 32 ∷ 227 ∷ 0 ∷ []
unfolding rounded_size power_from grant_result child_result transfer_result release_result with_count
root-full = refl

root-fits : sequential_refusal (grouping 228 most) table ≡ None
unfolding rounded_size power_from grant_result child_result transfer_result release_result with_count
root-fits = refl

-- what the allocators hold and held at most
abbrev numbers : Plan → List (List Cell) → List (ℕ × ℕ)
numbers asked rows =
    let run = sequential_run asked rows in
    map (λ node. (held_at run.state node.number.0, peak_of run.samples node.number.0)) run.state.nodes

-- the live chunks: number, size, owner, and the counts
abbrev live : Plan → List (List Cell) → List (List ℕ)
live asked rows =
    map (λ chunk. chunk.number ∷ chunk.size ∷ chunk.owner.0 ∷ map (λ ledger. ledger.count) chunk.ledgers)
    (sequential_run asked rows).state.chunks

group-numbers : numbers plan table ≡ (66, 228) ∷ (0, 50) ∷ (0, 50) ∷ (0, 0) ∷ (0, 162) ∷ (66, 66) ∷ []
unfolding rounded_size power_from grant_result child_result transfer_result release_result with_count
group-numbers = refl

group-chunks : live plan table ≡
    (37 ∷ 16 ∷ 5 ∷ 1 ∷ []) ∷ (38 ∷ 16 ∷ 5 ∷ 1 ∷ []) ∷ (39 ∷ 2 ∷ 5 ∷ 1 ∷ []) ∷ (40 ∷ 32 ∷ 5 ∷ 1 ∷ []) ∷ []
unfolding rounded_size power_from grant_result child_result transfer_result release_result with_count
group-chunks = refl

select-numbers : numbers selecting table ≡ (30, 86) ∷ (0, 50) ∷ (0, 26) ∷ (0, 30) ∷ (0, 0) ∷ (30, 30) ∷ []
unfolding rounded_size power_from grant_result child_result transfer_result release_result with_count
select-numbers = refl

select-chunks : live selecting table ≡
    (7 ∷ 2 ∷ 5 ∷ 1 ∷ []) ∷ (8 ∷ 8 ∷ 5 ∷ 1 ∷ []) ∷ (15 ∷ 2 ∷ 5 ∷ 1 ∷ [])
    ∷ (16 ∷ 8 ∷ 5 ∷ 1 ∷ []) ∷ (23 ∷ 2 ∷ 5 ∷ 1 ∷ []) ∷ (24 ∷ 8 ∷ 5 ∷ 1 ∷ []) ∷ []
unfolding rounded_size power_from grant_result child_result transfer_result release_result with_count
select-chunks = refl
