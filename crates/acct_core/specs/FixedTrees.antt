-- Steps over a tree that is fixed from the start, in which nobody counts uses.
use Rattle.std.specs.Prelude.{◌≡◌, ℕ, true, false, if◌then◌else◌, sum_by, List, ◌∷◌}
use Rattle.acct_core.specs.declared.row.Row.{Row}
use Rattle.acct_core.specs.Rows.{row, shapes}
use Rattle.acct_core.specs.NodeTree.{IsOpen, IsNodeTree}
use Rattle.acct_core.specs.Balance.{child_count}
use Rattle.acct_core.specs.Phases.{Phase, is_in}
use Rattle.acct_core.specs.Phases.Phase.{Held, Failed}
use Rattle.acct_core.specs.Claims.{Claim}

-- a charge of this size that can turn round: one that is held, or one that has failed
abbrev pub CanTurnRound : ℕ → Phase → Type 0
CanTurnRound size (Held charged forced steps) = size ≡ charged
CanTurnRound size (Failed charged forced steps) = size ≡ charged
CanTurnRound size _ = ⊥

-- the claim before the others, or the others alone where it was released all the way
abbrev pub settled : Claim → List Claim → List Claim
settled claim others = if is_in claim.phase then others else claim ∷ others

-- the rows of a tree that was given, in which nothing is charged yet: every node that was made is open, and holds what its open
-- children count for
pub record IsGivenTree (rows : List Row) : Type 0 where
  pub tree : IsNodeTree (shapes rows)
  pub opened : (node : ℕ) → (shapes rows node).made ≡ true → IsOpen (shapes rows) node
  pub held : (node : ℕ) → IsOpen (shapes rows) node → (row rows node).held ≡ sum_by (child_count node) rows
  pub closed : (node : ℕ) → (shapes rows node).is_open ≡ false → (row rows node).held ≡ 0
