-- What a table is opened with.
use Rattle.std.specs.Prelude.{◌≡◌, ℕ, zero, suc, ◌+◌, ◌<◌, ◌≤◌, false, List, [], ◌∷◌, length, drop, sum, sum_by, slice_index, All}
use Rattle.std.specs.Option.{option_map}
use Rattle.mem_num.specs.declared.bounds.TheConstants.{MOST_ALLOCATORS, MAX_RESERVATION}
use Rattle.mem_model.specs.declared.tree_node.TreeNode.{TreeNode}
use Rattle.mem_model.specs.Held.{held_of}
use Rattle.acct_core.specs.Balance.{child_count}
use Rattle.acct_words.specs.declared.budget.Budget.{Budget}
use Rattle.acct_words.specs.declared.budget.TheConstants.{MOST_BYTES, MOST_TURNS}
use Rattle.acct_words.specs.declared.fixed.Fixed.{Fixed}
use Rattle.acct_words.specs.Places.{number_word, held_word, peak_word, word_count}
use Rattle.acct_words.specs.Rows.{node, parent_of, rows_of, fixed_in}
use Rattle.acct_words.specs.Rule.{reservations}

-- a reservation is within the limit, and no larger than the largest one
abbrev pub ReservesWithinLimit : Fixed → Type 0
ReservesWithinLimit node = (node.reservation ≤ node.limit) × (node.reservation ≤ MAX_RESERVATION)

-- each allocator but the first comes after its parent
abbrev pub ComeAfterParents : List Fixed → Type 0
ComeAfterParents tree = (number : ℕ) → 1 ≤ number → number < length tree → (node tree number).parent.0 < number

-- The allocators of a tree, in order of number. The first is the root, which is its own parent and reserves nothing; every other one comes
-- after its parent
pub record IsFixedTree (tree : List Fixed) : Type 0 where
  pub some : 1 ≤ length tree
  pub few : length tree ≤ MOST_ALLOCATORS
  pub root : ((node tree 0).parent.0 ≡ 0) × ((node tree 0).reservation ≡ 0)
  pub parents : ComeAfterParents tree
  pub within : All ReservesWithinLimit tree

-- the allocators of a given tree, of which the first has this number
abbrev pub given_nodes : ℕ → List Fixed → List TreeNode
given_nodes number [] = []
given_nodes number (fixed ∷ tree) = record {
  number = record { 0 = number };
  parent = option_map (λ parent. record { 0 = parent }) (parent_of number fixed);
  reservation = fixed.reservation;
  limit = fixed.limit;
  closed = false;
} ∷ given_nodes (suc number) tree

-- what an allocator of a given tree holds where nothing is charged: what its children reserve
abbrev pub held_uncharged : List Fixed → ℕ → ℕ
held_uncharged tree number = held_of (given_nodes 0 tree) [] number

-- how much may be asked for at most
pub record IsWithinBudget (budget : Budget) : Type 0 where
  pub bytes : budget.bytes ≤ MOST_BYTES
  pub turns : budget.turns ≤ MOST_TURNS

-- the words of a tree in which nothing is charged: each allocator holds what its children count for
pub record AreOpeningWords (tree : List Fixed) (words : List ℕ) : Type 0 where
  pub wide : length words ≡ word_count (length tree)
  pub number : slice_index words number_word ≡ 1
  pub held : (number : ℕ) → number < length tree → slice_index words (held_word number) ≡ sum_by (child_count number) (rows_of tree 0 words)
  pub fixed : (number : ℕ) → number < length tree → fixed_in number words ≡ node tree number
  pub peaks : (number : ℕ) → slice_index words (peak_word number) ≡ 0

-- what the allocators below this number hold
abbrev pub held_below : List ℕ → ℕ → ℕ
held_below words zero = 0
held_below words (suc number) = held_below words number + slice_index words (held_word number)

-- the words where the allocators from this number on are counted, each at its parent; all that is held then is reserved by one of them
pub record AreFilledFrom (tree : List Fixed) (from : ℕ) (words : List ℕ) : Type 0 where
  pub wide : length words ≡ word_count (length tree)
  pub number : slice_index words number_word ≡ 1
  pub held : (number : ℕ) → number < length tree → slice_index words (held_word number) ≡ sum_by (child_count number)
      (rows_of (drop from tree) from words)
  pub fixed : (number : ℕ) → from ≤ number → number < length tree → fixed_in number words ≡ node tree number
  pub peaks : (number : ℕ) → slice_index words (peak_word number) ≡ 0
  pub reserved : held_below words from ≤ sum (reservations (drop from tree))
