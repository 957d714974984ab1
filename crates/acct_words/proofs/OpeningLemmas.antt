-- The rule at the opening.
use Rattle.std.proofs.Common.{zero, suc, ◌≡◌, ℕ, ◌<◌, ◌≤◌, true, false, List, [], ◌∷◌, length, Some, None, refl, sym, ap, ◌∙◌, subst}
use Rattle.std.proofs.Common.{slice_index, arith, All, ⊎_elim}
use mathlib.Core.Option.{some, some-injective, some-ne-none}
use lib.ListN.{get_elem?}
use Rattle.std.proofs.lemmas.List.{get_or_past}
use Rattle.std.proofs.lemmas.List.Elements.{All-nil}
use Rattle.std.proofs.lemmas.Bool.{cases_lt}
use Rattle.atomic_table.specs.Table.{opening}
use Rattle.acct_core.specs.declared.row.Row.{Row}
use Rattle.acct_core.specs.Claims.{account}
use Rattle.acct_core.specs.Lawful.{IsLawfulFixedTree}
use Rattle.acct_core.specs.NodeTree.{IsOpen, IsNodeTree}
use Rattle.acct_core.specs.Rows.{blank, row, shapes}
use Rattle.acct_words.specs.declared.fixed.Fixed.{Fixed}
use Rattle.acct_words.specs.declared.fixed.Opening.{Opening}
use Rattle.acct_words.specs.declared.rule.Said.{Said}
use Rattle.acct_words.specs.Views.{View}
use Rattle.acct_words.specs.Entries.{Entry, InHistory, peak_shown}
use Rattle.acct_words.specs.Places.{peak_word}
use Rattle.acct_words.specs.Rows.{node, parent_of, rows_of, HasParentsBefore}
use Rattle.acct_words.specs.Rule.{start_of, first, IsSoundTable, IsBounded, IsNumbered, IsGoodChunk, IsGoodView, IsKnown}
use Rattle.acct_words.specs.Openings.{AreOpeningWords, IsFixedTree, IsWithinBudget}
use Rattle.acct_words.proofs.FillLemmas.{parents_before, reservations_small}
use Rattle.acct_words.proofs.RowLemmas.{rows_of-length, rows_of-at}
use Rattle.acct_core.proofs.FixedTreeLemmas.{given_fixed}
use Rattle.acct_words.proofs.KeptLemmas.{good_nothing}

module _ (tree : List Fixed) (words : List ℕ) (parents : HasParentsBefore tree) where
  abbrev rows : List Row
  rows = rows_of tree 0 words

  -- a row that was made is one of the tree
  row_is : (n : ℕ) → ((shapes rows n).made ≡ true) → (n < length tree) × ((shapes rows n).parent ≡ parent_of n (node tree n))
  row_is n made = ⊎_elim (λ (h : n < length tree). (h, ap (λ (r : Row). r.shape.parent) (rows_of-at tree 0 n n words h (omega arith))))
      (λ (h : length tree ≤ n). let e : row rows n ≡ blank = get_or_past rows n blank (let l = rows_of-length tree 0 words in
      omega arith) in let f = sym (ap (λ (r : Row). r.shape.made) e) ∙ made in absurd cc)
      (cases_lt n (length tree))

  -- a number of the tree was made and is open
  row_made : (n : ℕ) → n < length tree → ((shapes rows n).made ≡ true) × ((shapes rows n).is_open ≡ true)
  row_made n h = let e = rows_of-at tree 0 n n words h (omega arith) in
      (ap (λ (r : Row). r.shape.made) e, ap (λ (r : Row). r.shape.is_open) e)

  -- a parent is one of the tree
  parent_is : (n p : ℕ) → (shapes rows n).parent ≡ Some p → (n < length tree) × (p < n)
  parent_is n p e = ⊎_elim (λ (h : n < length tree).
      (h, parents n p (sym (ap (λ (r : Row). r.shape.parent) (rows_of-at tree 0 n n words h (omega arith))) ∙ e)))
      (λ (h : length tree ≤ n). let b : row rows n ≡ blank = get_or_past rows n blank (let l = rows_of-length tree 0 words in
      omega arith) in let f = sym (ap (λ (r : Row). r.shape.parent) b) ∙ e in absurd cc)
      (cases_lt n (length tree))

  -- an open number was made
  open_made : (n : ℕ) → IsOpen (shapes rows) n → (shapes rows n).made ≡ true
  open_made n o = ⊎_elim (λ (h : n < length tree). (row_made n h).0)
      (λ (h : length tree ≤ n). let b : row rows n ≡ blank = get_or_past rows n blank (let l = rows_of-length tree 0 words in
      omega arith) in let f = sym (ap (λ (r : Row). r.shape.is_open) b) ∙ o in absurd cc)
      (cases_lt n (length tree))

  -- the root alone has no parent
  root_is : (n : ℕ) → parent_of n (node tree n) ≡ None → n ≡ 0
  root_is zero e = refl
  root_is (suc n) e = absurd cc

  pub node_tree : IsNodeTree (shapes rows)
  node_tree = record {
    made = open_made;
    root = λ n made none. root_is n (sym (row_is n made).1 ∙ none);
    smaller = λ n p e. (parent_is n p e).1;
    made_parent = λ n p e. (let q = parent_is n p e in (row_made p (omega arith)).0);
    open_parent = λ n p o e. (let q = parent_is n p e in (row_made p (omega arith)).1);
  }

  -- a closed number holds nothing
  closed_empty : (n : ℕ) → (shapes rows n).is_open ≡ false → (row rows n).held ≡ 0
  closed_empty n c = ⊎_elim (λ (h : n < length tree). let f = sym (row_made n h).1 ∙ c in absurd cc)
      (λ (h : length tree ≤ n). ap (λ (r : Row). r.held) (get_or_past rows n blank (let l = rows_of-length tree 0 words in omega arith)))
      (cases_lt n (length tree))

  -- the tree is lawful where each allocator holds what its children count for
  pub opening_lawful : AreOpeningWords tree words → IsLawfulFixedTree (account rows [])
  opening_lawful o = given_fixed rows (record {
    tree = node_tree;
    opened = λ n made. (row_made n (row_is n made).0).1;
    held = λ n opened. (let h = (row_is n (open_made n opened)).0 in
        ap (λ (r : Row). r.held) (rows_of-at tree 0 n n words h (omega arith)) ∙ o.held n h);
    closed = closed_empty;
  })

-- the rule at the opening
pub opening_sound : (o : Opening) (words : List ℕ) → IsFixedTree o.nodes.items → IsWithinBudget o.budget →
    AreOpeningWords o.nodes.items words →
    IsSoundTable {S = Said} (start_of o) (opening words [] (first (start_of o)))
opening_sound o words t c w = record {
  history = [];
  layout = record {
    small = record {
      few = t.few;
      bytes = c.bytes;
      turns = (let h = c.turns in omega arith);
      reservations =
          reservations_small o.nodes.items t;
    };
    wide = w.wide;
    fixed = w.fixed;
  };
  accounts = opening_lawful o.nodes.items words (parents_before o.nodes.items t.parents) w;
  steps = record {
    placed = λ f. refl;
    legal = record {
      bounded = All-nil (IsBounded o.nodes.items []);
      bytes = omega arith;
      turns = omega arith;
      drawn = All-nil (IsNumbered []);
      numbers = λ n. omega arith;
    };
  };
  tokens = good_first;
  known = known_first;
  budget = record { bytes = omega arith; turns = omega arith; sizes = omega arith };
  numbers = record { next = w.number; drawn = λ n. omega arith; fresh = λ n h. refl };
  peaks = record {
    reached = λ n h. All-nil (λ (x : Entry). peak_shown n x ≤ slice_index words (peak_word n));
    bounded = λ n h. (let z = w.peaks n in omega arith);
  };
}
  where
    good_first : (id : ℕ) (v : View) → get_elem? (first (start_of o) ∷ []) id ≡ some v → IsGoodView [] v
    good_first zero v e = subst (IsGoodView []) (some-injective (first (start_of o)) v e) (
      record { own_steps = All-nil (InHistory []); observed = All-nil (InHistory []); chunks = All-nil IsGoodChunk },
      good_nothing [],
    )
    good_first (suc id) v e = absurd (some-ne-none v (sym e))

    known_first : (id : ℕ) (v : View) → get_elem? (first (start_of o) ∷ []) id ≡ some v → All (IsKnown (start_of o)) v.known
    known_first zero v e = subst (λ (y : View). All (IsKnown (start_of o)) y.known) (some-injective (first (start_of o)) v e)
        (All-nil (IsKnown (start_of o)))
    known_first (suc id) v e = absurd (some-ne-none v (sym e))
