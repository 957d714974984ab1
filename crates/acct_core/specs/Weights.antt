-- What a caller's claims have in the root's held number, where nothing is reserved.
use Rattle.std.specs.Prelude.{ℕ, Bool, false, ◌||◌, if◌then◌else◌, List, [], ◌∷◌}
use Rattle.acct_core.specs.Phases.{Phase, is_held}
use Rattle.acct_core.specs.Phases.Phase.{Held, Failed, Down}
use Rattle.acct_core.specs.Claims.{Claim}

-- what a claim has in the root's held number, where each addition goes up to the root
abbrev pub in_root : Phase → ℕ
in_root (Held size forced steps) = size
in_root (Failed size forced steps) = size
in_root (Down size next pending) = size
in_root _ = 0

-- whether one of the claims is held
abbrev pub has_held : List Claim → Bool
has_held [] = false
has_held (claim ∷ claims) = is_held claim.phase || has_held claims

-- the size of the charge that has been held longest, where new claims come to the front
abbrev pub stake : List Claim → ℕ
stake [] = 0
stake (claim ∷ claims) = if has_held claims then stake claims else (if is_held claim.phase then in_root claim.phase else 0)
