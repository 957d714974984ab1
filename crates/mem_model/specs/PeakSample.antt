-- Moments at which peaks are measured.
use Rattle.std.specs.Prelude.{ℕ, ◌<◌, ◌^◌, max, ◌==◌, Bool, nat_lt, List, ◌∷◌, filter, map, fold, Option, Some, None}
use Rattle.std.specs.List.{list_any}
use Rattle.mem_num.specs.declared.alloc_id.AllocId.{AllocId}
use Rattle.mem_model.specs.declared.charge.Charge.{Charge}
use Rattle.mem_model.specs.declared.tree_node.TreeNode.{TreeNode}
use Rattle.mem_model.specs.TreeNode.{IsAllocatorTree}
use Rattle.mem_model.specs.Bound.{all_of}
use Rattle.mem_model.specs.Held.{held_of}
use Rattle.mem_model.specs.Request.{levels_of, refusing_level}

-- the allocators and the charges of a moment, and the allocators for which it counts
pub record PeakSample : Type 0 where
  pub nodes : List TreeNode
  pub charges : List Charge
  pub counts : List AllocId

-- a sample of a tree, whose charges and reservations 64 bits hold
abbrev pub IsSoundSample : PeakSample → Type 0
IsSoundSample sample = IsAllocatorTree sample.nodes × (all_of sample.nodes sample.charges < 2 ^ 64)

-- whether a sample counts for the allocator n
abbrev pub is_counted : ℕ → PeakSample → Bool
is_counted n sample = list_any (λ id. id.0 == n) sample.counts

-- what the allocator n holds in a sample
abbrev pub held_in : ℕ → PeakSample → ℕ
held_in n sample = held_of sample.nodes sample.charges n

-- the peak of the allocator n: the greatest that it holds in the samples that count for it, or 0
abbrev pub peak_of : List PeakSample → ℕ → ℕ
peak_of samples n = fold max 0 (map (held_in n) (filter (is_counted n) samples))

-- the levels whose peak a request may raise: all, or those below the level that refuses it
abbrev pub counted_levels : List TreeNode → Option TreeNode → List TreeNode
counted_levels levels None = levels
counted_levels levels (Some refusing) = filter (λ level. nat_lt refusing.number.0 level.number.0) levels

-- the moment of a request, with its charge on trial
abbrev pub request_sample : List TreeNode → List Charge → Charge → PeakSample
request_sample nodes charges request = record {
  nodes = nodes;
  charges = request ∷ charges;
  counts = map (λ level. level.number) (counted_levels (levels_of nodes charges request) (refusing_level nodes charges request));
}
