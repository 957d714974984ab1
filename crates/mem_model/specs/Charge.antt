-- What is charged to whom.
use Rattle.std.specs.Prelude.{ℕ, ◌==◌, List, sum_by, if◌then◌else◌}
use Rattle.mem_model.specs.declared.charge.Charge.{Charge}

-- what a charge adds at the allocator n
abbrev pub amount_at : ℕ → Charge → ℕ
amount_at n charge = if charge.at.0 == n then charge.amount else 0

-- what the allocator n is charged by these charges together
abbrev pub charged_at : List Charge → ℕ → ℕ
charged_at charges n = sum_by (amount_at n) charges
