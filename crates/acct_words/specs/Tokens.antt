-- What tokens are between two calls, as their callers see them.
use Rattle.std.specs.Prelude.{◌≡◌, ◌≢◌, ℕ, ◌<◌, ◌≤◌, ◌==◌, ◌++◌, Bool, if◌then◌else◌, List, [], ◌∷◌, map, All, None}
use Rattle.std.specs.List.{list_any}
use Rattle.mem_num.specs.declared.bounds.TheConstants.{LARGEST, MOST_NUMBERS}
use Rattle.atomic_table.specs.Seated.{TableId}
use Rattle.atomic_table.specs.Table.{Me}
use Rattle.acct_core.specs.Claims.{Claim}
use Rattle.acct_core.specs.Phases.{Phase}
use Rattle.acct_core.specs.Phases.Phase.{Held}
use Rattle.acct_words.specs.declared.budget.Budget.{Budget}
use Rattle.acct_words.specs.declared.rule.Said.{Said}
use Rattle.acct_words.specs.Entries.{Entry}
use Rattle.acct_words.specs.Views.{Start, Chunk, View}
use Rattle.acct_words.specs.Bodies.{nothing}

-- an accounts table: which one it is, and what it was opened with
pub record AccountsTable : Type 0 where
  pub id : TableId
  pub start : Start

-- the atomic steps that a token made, in their order, and those of other tokens that it was shown
pub record History : Type 0 where
  pub own : List Entry
  pub observed : List Entry

-- a caller token: its table, its history, and what is left of its budget
pub record CallerToken : Type 0 where
  pub table : AccountsTable
  pub history : History
  pub budget : Budget

-- a chunk token: its table, its history, the chunk's number and size, and the allocators at which the chunk is charged, the latest first
pub record ChunkToken : Type 0 where
  pub table : AccountsTable
  pub history : History
  pub number : ℕ
  pub size : ℕ
  pub charged : List ℕ

-- no step
abbrev pub no_history : History
no_history = record { own = []; observed = [] }

-- what a token knows that was split off: it made no step, and was shown all that the other one made or saw
abbrev pub shown_history : History → History
shown_history history = record { own = []; observed = history.own ++ history.observed }

-- whether a chunk is charged at an allocator
abbrev pub is_charged : ℕ → List ℕ → Bool
is_charged at charged = list_any (λ other. other == at) charged

-- the allocators without the first that is this one
abbrev pub without : ℕ → List ℕ → List ℕ
without at [] = []
without at (other ∷ others) = if other == at then others else other ∷ without at others

-- a chunk is charged at one allocator, which is another one
abbrev pub IsElsewhere : ℕ → List ℕ → Type 0
IsElsewhere at (other ∷ []) = other ≢ at
IsElsewhere at _ = ⊥

-- the history that a view shows
abbrev pub history_of : View → History
history_of view = record { own = view.own.own_steps; observed = view.own.observed }

-- a caller's token at rest: it offers nothing and has no chunk, and the table knows its budget
pub record IsIdle (me : Me Said View) (budget : Budget) : Type 0 where
  pub whole : me.0.offer ≡ nothing
  pub chunks : me.0.own.chunks ≡ []
  pub slots : me.1 ≡ []
  pub bytes : me.0.own.bytes ≡ budget.bytes
  pub turns : me.0.own.turns ≡ budget.turns

-- the charges of the chunk in hand
abbrev pub charges_in : List Chunk → List Claim
charges_in [] = []
charges_in (chunk ∷ chunks) = chunk.charges

-- a charge of this size that is held
abbrev pub IsHeldAs : ℕ → Phase → Type 0
IsHeldAs size (Held charged forced steps) = size ≡ charged
IsHeldAs size _ = ⊥

-- a charge of a chunk of this size
pub record IsChargeOf (size : ℕ) (claim : Claim) : Type 0 where
  pub bare : claim.under ≡ None
  pub held : IsHeldAs size claim.phase

-- the token of one chunk at rest: it offers nothing and has this chunk alone, whose charges are held
pub record HasOneChunk (me : Me Said View) (number size : ℕ) : Type 0 where
  pub whole : me.0.offer ≡ nothing
  pub slots : me.1 ≡ []
  pub bytes : me.0.own.bytes ≡ 0
  pub turns : me.0.own.turns ≡ 0
  pub chunk : me.0.own.chunks ≡ record { number = number; size = size; charges = charges_in me.0.own.chunks } ∷ []
  pub charges : All (IsChargeOf size) (charges_in me.0.own.chunks)
  pub fits : (1 ≤ number) × (number < MOST_NUMBERS) × (1 ≤ size) × (size ≤ LARGEST)

-- the allocators at which the chunk in hand is charged
abbrev pub charged_in : View → List ℕ
charged_in view = map (λ claim. claim.node) (charges_in view.own.chunks)
