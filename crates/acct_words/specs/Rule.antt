-- The rule of the table, which holds between any two steps.
use Rattle.std.specs.Prelude.{◌≡◌, ℕ, suc, ◌+◌, ◌^◌, ◌<◌, ◌≤◌, List, [], length, map, sum, sum_by, slice_index, All}
use Rattle.acct_words.specs.declared.budget.TheConstants.{MOST_BYTES}
use mathlib.Core.Option.{some}
use lib.ListN.{get_elem?}
use Rattle.atomic_table.specs.Table.{State}
use Rattle.mem_num.specs.declared.bounds.TheConstants.{MOST_ALLOCATORS, MOST_NUMBERS}
use Rattle.mem_model.specs.WorstCase.{worst_case}
use Rattle.acct_core.specs.Phases.{size_of}
use Rattle.acct_core.specs.Lawful.{IsLawfulFixedTree}
use Rattle.acct_words.specs.Entries.{Entry, reached, draw_count, begun, forgotten, drawn, drew, peak_shown, InHistory}
use Rattle.acct_words.specs.declared.fixed.Fixed.{Fixed}
use Rattle.acct_words.specs.Views.{Start, Chunk, Known, Body, View}
use Rattle.acct_words.specs.declared.fixed.Opening.{Opening}
use Rattle.acct_words.specs.Places.{number_word, peak_word, word_count}
use Rattle.acct_words.specs.Bodies.{nothing, total, made, bytes_left, turns_left, chunk_sizes, numbered}
use Rattle.acct_words.specs.Rows.{node, fixed_in, shown}

-- what a table was told, as a list of allocators and two numbers
abbrev pub start_of : Opening → Start
start_of opening = record { tree = opening.nodes.items; bytes = opening.budget.bytes; turns = opening.budget.turns }

-- the reservations of a tree
abbrev pub reservations : List Fixed → List ℕ
reservations tree = map (λ fixed. fixed.reservation) tree

-- an addition leads to no more than the worst case of what was asked for
abbrev pub IsBounded : List Fixed → List Entry → Entry → Type 0
IsBounded tree history entry = reached entry.kind entry.found ≤ worst_case (map begun history) (reservations tree)

-- a drawn number is one of the first so many numbers as were drawn
abbrev pub IsNumbered : List Entry → Entry → Type 0
IsNumbered history entry = draw_count entry.kind ≡ 1 → (1 ≤ entry.found) × (entry.found ≤ sum_by drawn history)

-- a history that this table can have
pub record IsHistory (start : Start) (history : List Entry) : Type 0 where
  pub bounded : All (IsBounded start.tree history) history
  pub bytes : sum_by begun history ≤ start.bytes
  pub turns : sum_by drawn history ≤ start.turns
  -- a number that was drawn is at least 1, and at most the number of draws
  pub drawn : All (IsNumbered history) history
  -- numbers that were drawn differ
  pub numbers : (n : ℕ) → sum_by (drew n) history ≤ 1

-- a chunk has at most two charges, each of its whole size
pub record IsGoodChunk (chunk : Chunk) : Type 0 where
  pub few : length chunk.charges ≤ 2
  pub whole : All (λ claim. size_of claim.phase ≤ chunk.size) chunk.charges

-- the steps of a body stand in the history, and its chunks are good
pub record IsGoodBody (history : List Entry) (body : Body) : Type 0 where
  pub own_steps : All (InHistory history) body.own_steps
  pub observed : All (InHistory history) body.observed
  pub chunks : All IsGoodChunk body.chunks

-- both bodies of a view
abbrev pub IsGoodView : List Entry → View → Type 0
IsGoodView history view = IsGoodBody history view.own × IsGoodBody history view.offer

-- what a table may be opened with
pub record IsSmall (start : Start) : Type 0 where
  pub few : length start.tree ≤ MOST_ALLOCATORS
  pub bytes : start.bytes ≤ MOST_BYTES
  pub turns : start.turns < MOST_NUMBERS
  pub reservations : sum (reservations start.tree) ≤ 2 ^ 46

-- the words of the tree, of which nobody writes what is fixed of an allocator
pub record IsLaidOut (start : Start) (words : List ℕ) : Type 0 where
  pub small : IsSmall start
  pub wide : length words ≡ word_count (length start.tree)
  pub fixed : (number : ℕ) → number < length start.tree → fixed_in number words ≡ node start.tree number

-- what a token knows of an allocator is so
pub record IsKnown (start : Start) (known : Known) : Type 0 where
  pub inside : known.level < length start.tree
  pub fixed : node start.tree known.level ≡ known.fixed

-- each step of the history stands in one token's own steps, and the history is one that the table can have
pub record ShareHistory (start : Start) (history : List Entry) (views : List View) : Type 0 where
  pub placed : (weight : Entry → ℕ) → total (made weight) views ≡ sum_by weight history
  pub legal : IsHistory start history

-- what is left of the budget, with what was spent of it, is no more than there was at the opening; chunks have the sizes that were begun
-- and not forgotten
pub record KeepsBudget (start : Start) (history : List Entry) (views : List View) : Type 0 where
  pub bytes : total bytes_left views + sum_by begun history ≤ start.bytes
  pub turns : total turns_left views + sum_by drawn history ≤ start.turns
  pub sizes : total chunk_sizes views + sum_by forgotten history ≤ sum_by begun history

-- the numbers of chunks were drawn, each for one chunk at most, and those from the next number on were not
pub record AreDrawn (history : List Entry) (words : List ℕ) (views : List View) : Type 0 where
  pub next : slice_index words number_word ≡ suc (sum_by drawn history)
  pub drawn : (number : ℕ) → total (numbered number) views ≤ sum_by (drew number) history
  pub fresh : (number : ℕ) → slice_index words number_word ≤ number → sum_by (drew number) history ≡ 0

-- the peak of an allocator has reached all that entries show of it, and is within the worst case of what was asked for
pub record KeepsPeaks (start : Start) (history : List Entry) (words : List ℕ) : Type 0 where
  pub reached : (number : ℕ) → number < length start.tree →
      All (λ entry. peak_shown number entry ≤ slice_index words (peak_word number)) history
  pub bounded : (number : ℕ) → number < length start.tree →
      slice_index words (peak_word number) ≤ worst_case (map begun history) (reservations start.tree)

-- what holds between any two steps
pub record IsSoundTable {S : Type 0} (start : Start) (state : State S View) : Type 0 where
  pub history : List Entry
  pub layout : IsLaidOut start state.words
  -- the words and the views show a lawful account of the tree
  pub accounts : IsLawfulFixedTree (shown start.tree state.words state.views)
  pub steps : ShareHistory start history state.views
  -- what each token shows stands in the history, and each of its chunks has at most two charges, each of at most its size
  pub tokens : (id : ℕ) (view : View) → get_elem? state.views id ≡ some view → IsGoodView history view
  pub known : (id : ℕ) (view : View) → get_elem? state.views id ≡ some view → All (IsKnown start) view.known
  pub budget : KeepsBudget start history state.views
  pub numbers : AreDrawn history state.words state.views
  pub peaks : KeepsPeaks start history state.words

-- the view of the first token
abbrev pub first : Start → View
first start = record {
  start = start;
  known = [];
  own = record nothing { bytes = start.bytes; turns = start.turns };
  offer = nothing;
}

-- there is a history that this table can have, in which the steps of the view stand
pub record KnowsHistory (view : View) : Type 0 where
  pub history : List Entry
  pub legal : IsHistory view.start history
  pub own_steps : All (InHistory history) view.own.own_steps
  pub observed : All (InHistory history) view.own.observed

-- so many bytes are at most the worst case of all that was asked for in a history in which the view's steps stand
pub record KnowsWorstCase (view : View) (bytes : ℕ) : Type 0 where
  pub known : KnowsHistory view
  pub bound : bytes ≤ worst_case (map begun known.history) (reservations view.start.tree)
