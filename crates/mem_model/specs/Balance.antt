-- Numbers kept for each allocator, in place of sums.
use Rattle.std.specs.Prelude.{◌≡◌, ℕ, ◌+◌, ◌-◌, ◌==◌, List, if◌then◌else◌, Option}
use Rattle.mem_num.specs.declared.alloc_id.AllocId.{AllocId}
use Rattle.mem_model.specs.declared.charge.Charge.{Charge}
use Rattle.mem_model.specs.declared.tree_node.TreeNode.{TreeNode}
use Rattle.mem_model.specs.Charge.{charged_at}
use Rattle.mem_model.specs.Held.{counted_children}
use Rattle.mem_model.specs.TreeNode.{is_number}

-- the numbers balance: each is what its allocator is charged and what its open children count for
abbrev pub Balances : List TreeNode → List Charge → (ℕ → ℕ) → Type 0
Balances nodes charges held = (n : ℕ) → held n ≡ charged_at charges n + counted_children held nodes n

-- an amount at the allocator that is next, if there is one
abbrev pub amount_for : Option AllocId → ℕ → ℕ → ℕ
amount_for next amount n = if is_number n next then amount else 0

-- the numbers balance, but for an amount that is still to be added at the next level
abbrev pub LacksAmount : List TreeNode → List Charge → (ℕ → ℕ) → Option AllocId → ℕ → Type 0
LacksAmount nodes charges held next amount = (n : ℕ) → held n + amount_for next amount n ≡ charged_at charges n + counted_children held nodes n

-- the numbers balance, but for an amount that is still to be subtracted at the next level
abbrev pub ExceedsByAmount : List TreeNode → List Charge → (ℕ → ℕ) → Option AllocId → ℕ → Type 0
ExceedsByAmount nodes charges held next amount = (n : ℕ) → held n ≡ charged_at charges n + counted_children held nodes n + amount_for next amount n

-- an amount more at the allocator c
abbrev pub raised : (ℕ → ℕ) → ℕ → ℕ → ℕ → ℕ
raised held c amount n = held n + (if n == c then amount else 0)

-- an amount less at the allocator c
abbrev pub lowered : (ℕ → ℕ) → ℕ → ℕ → ℕ → ℕ
lowered held c amount n = held n - (if n == c then amount else 0)
