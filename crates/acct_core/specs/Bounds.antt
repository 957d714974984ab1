-- The sizes and the reservations of an account, which bound what it can hold.
use Rattle.std.specs.Prelude.{ℕ, List, map, if◌then◌else◌, is_none}
use Rattle.acct_core.specs.declared.row.Row.{Row}
use Rattle.acct_core.specs.Phases.{size_of}
use Rattle.acct_core.specs.Claims.{Claim}

-- the sizes of the requests that claims are at
abbrev pub sizes_of : List Claim → List ℕ
sizes_of claims = map (λ claim. size_of claim.phase) claims

-- the size of the request that a claim is at, where no child stands on it; where one does, the child's reservation counts in its place
abbrev pub own_size : Claim → ℕ
own_size claim = if is_none claim.under then size_of claim.phase else 0

-- the sizes of the requests of claims on which no child stands
abbrev pub own_sizes_of : List Claim → List ℕ
own_sizes_of claims = map own_size claims

-- what a node reserves while it is open
abbrev pub open_reservation : Row → ℕ
open_reservation row = if row.shape.is_open then row.shape.reservation else 0

-- the reservations of the open nodes
abbrev pub reservations_of : List Row → List ℕ
reservations_of rows = map open_reservation rows
