-- The state in which a machine opens: the root alone, and free claims.
use Rattle.std.specs.Prelude.{ℕ, ◌-◌, true, List, ◌∷◌, replicate, None}
use Rattle.mem_num.specs.declared.bounds.TheConstants.{MOST_ALLOCATORS}
use Rattle.acct_core.specs.declared.row.Row.{Row}
use Rattle.acct_core.specs.Rows.{blank}
use Rattle.acct_core.specs.Claims.{account, no_claim}
use Rattle.acct_core.specs.State.{State}

-- the row of the root, which has no parent and reserves nothing
abbrev pub opening_row : ℕ → Row
opening_row limit = record {
  shape = record { made = true; is_open = true; parent = None; reservation = 0 };
  limit = limit;
  held = 0;
  uses = 0;
}

-- the root, and the numbers that are left for others
unfoldable pub opening_rows : ℕ → List Row
opening_rows root_limit = opening_row root_limit ∷ replicate (MOST_ALLOCATORS - 1) blank

-- the root alone, so many free claims, and so many bytes
abbrev pub opening : ℕ → ℕ → ℕ → State
opening root_limit claims bytes = record { account = account (opening_rows root_limit) (replicate claims no_claim); bytes = bytes }
