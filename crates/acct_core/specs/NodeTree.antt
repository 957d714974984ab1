-- The allocators of an account as a tree.
use Rattle.std.specs.Prelude.{◌≡◌, ℕ, ◌<◌, true, Some, None}
use Rattle.acct_core.specs.declared.shape.Shape.{Shape}

-- the node was made and isn't closed
abbrev pub IsOpen : (ℕ → Shape) → ℕ → Type 0
IsOpen shape node = (shape node).is_open ≡ true

-- the second number is the node's or that of an ancestor
pub data Reaches (shape : ℕ → Shape) (node : ℕ) : ℕ → Type 0 where
  here : Reaches shape node node
  above : {level parent : ℕ} → Reaches shape node level → (shape level).parent ≡ Some parent → Reaches shape node parent

-- number 0 is the root, which alone has no parent; parents have smaller numbers; the parent of an open node is open
pub record IsNodeTree (shape : ℕ → Shape) : Type 0 where
  pub made : (node : ℕ) → IsOpen shape node → (shape node).made ≡ true
  pub root : (node : ℕ) → (shape node).made ≡ true → (shape node).parent ≡ None → node ≡ 0
  pub smaller : (node parent : ℕ) → (shape node).parent ≡ Some parent → parent < node
  pub made_parent : (node parent : ℕ) → (shape node).parent ≡ Some parent → (shape parent).made ≡ true
  pub open_parent : (node parent : ℕ) → IsOpen shape node → (shape node).parent ≡ Some parent → IsOpen shape parent
