-- Rows with their numbers.
use Rattle.std.specs.Prelude.{ℕ, ◌-◌, false, List, ◌∷◌, replicate, Option, Some, None}
use Rattle.std.specs.Option.{unwrap_or}
use Rattle.mem_num.specs.declared.alloc_id.AllocId.{AllocId}
use Rattle.mem_num.specs.declared.bounds.TheConstants.{MOST_ALLOCATORS}
use Rattle.mem_num.specs.declared.placed.Placed.{Placed}
use Rattle.alloc_tree.specs.declared.row.Row.{Row}

-- the row of the root
abbrev pub root_row : ℕ → Row
root_row limit = record { parent = None; reservation = 0; limit = limit; held = 0; peak = 0; uses = 0; closed = false }

-- the row of a child that was just made
abbrev pub child_row : AllocId → ℕ → ℕ → Row
child_row parent reservation limit = record {
  parent = Some parent;
  reservation = reservation;
  limit = limit;
  held = 0;
  peak = 0;
  uses = 0;
  closed = false;
}

-- the rows of a tree with its root alone
abbrev pub opened_rows : ℕ → List (Option Row)
opened_rows limit = Some (root_row limit) ∷ replicate (MOST_ALLOCATORS - 1) None

-- the allocator whose row this is
abbrev pub placed_row : AllocId → Row → Placed
placed_row at row = record {
  at = at;
  parent = unwrap_or row.parent at;
  node = record {
    reservation = row.reservation;
    held = row.held;
    peak = row.peak;
    limit = row.limit;
    uses = row.uses;
    closed = row.closed;
  };
}
