-- The account that the words and the views show.
use Rattle.std.specs.Prelude.{◌≡◌, ℕ, zero, suc, ◌+◌, ◌<◌, true, List, [], ◌∷◌, ◌++◌, slice_index, slice_index_or, Option, Some, None}
use Rattle.acct_core.specs.declared.row.Row.{Row}
use Rattle.acct_core.specs.Claims.{Claim, Account, account}
use Rattle.acct_words.specs.declared.fixed.Fixed.{Fixed}
use Rattle.acct_words.specs.Views.{Chunk, View}
use Rattle.acct_words.specs.Places.{held_word, limit_word, reservation_word, parent_word}

-- the allocator that stands for all numbers without one
abbrev pub no_node : Fixed
no_node = record { parent = record { 0 = 0 }; reservation = 0; limit = 0 }

-- the allocator of the number n
abbrev pub node : List Fixed → ℕ → Fixed
node tree number = slice_index_or tree number no_node

-- the parent of n, which the root doesn't have
abbrev pub parent_of : ℕ → Fixed → Option ℕ
parent_of zero fixed = None
parent_of (suc number) fixed = Some fixed.parent.0

-- the row of n, with what it holds and its limit
abbrev pub row_of : ℕ → Fixed → ℕ → ℕ → Row
row_of number fixed held limit = record {
  shape = record {
    made = true;
    is_open = true;
    parent = parent_of number fixed;
    reservation =
        fixed.reservation;
  };
  limit = limit;
  held = held;
  uses = 0;
}

-- what is fixed of the allocator n, as its words say
abbrev pub fixed_in : ℕ → List ℕ → Fixed
fixed_in number words = record {
  parent = record { 0 = slice_index words (parent_word number) };
  reservation = slice_index words (reservation_word number);
  limit = slice_index words (limit_word number);
}

-- the rows that the words show, from the number n on
abbrev pub rows_of : List Fixed → ℕ → List ℕ → List Row
rows_of [] number words = []
rows_of (fixed ∷ tree) number words = row_of number fixed (slice_index words (held_word number)) (slice_index words (limit_word number)) ∷
    rows_of tree (number + 1) words

-- the charges of chunks
abbrev pub charges_of : List Chunk → List Claim
charges_of [] = []
charges_of (chunk ∷ chunks) = chunk.charges ++ charges_of chunks

-- the claims that the views show
abbrev pub claims_of : List View → List Claim
claims_of [] = []
claims_of (view ∷ views) = (charges_of view.own.chunks ++ charges_of view.offer.chunks) ++ claims_of views

-- the account that words and views show
abbrev pub shown : List Fixed → List ℕ → List View → Account
shown tree words views = account (rows_of tree 0 words) (claims_of views)

-- an allocator of which this is fixed comes after its parent, if it has one
abbrev pub ComesAfterParent : ℕ → Fixed → Type 0
ComesAfterParent number fixed = (parent : ℕ) → parent_of number fixed ≡ Some parent → parent < number

-- each allocator comes after its parent
abbrev pub HasParentsBefore : List Fixed → Type 0
HasParentsBefore tree = (number : ℕ) → ComesAfterParent number (node tree number)
