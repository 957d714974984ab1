-- What a load of a held number tells.
use Rattle.std.proofs.Common.{suc, ◌≡◌, ℕ, ◌+◌, ◌<◌, ◌≤◌, Bool, true, false, cond, ◌&&◌, ◌==◌, is_none, List, [], ◌∷◌, ◌++◌, length}
use Rattle.std.proofs.Common.{map, slice_index, refl, ap, subst, arith, sum_by}
use mathlib.Core.Option.{some, none}
use lib.ListN.{get_elem?}
use Rattle.std.specs.Option.{option_map}
use Rattle.std.proofs.lemmas.List.Elements.{All-weaker}
use Rattle.std.proofs.lemmas.List.Sums.{sum-map, sum_by_push}
use Rattle.atomic_table.specs.Table.{State, Me, Allows, step, keeps}
use Rattle.mem_model.specs.declared.tree_node.TreeNode.{TreeNode}
use Rattle.mem_model.specs.Charge.{charged_at}
use Rattle.mem_model.specs.Held.{held_of}
use Rattle.mem_model.specs.WorstCase.{worst_case}
use Rattle.acct_core.specs.declared.row.Row.{Row}
use Rattle.acct_core.specs.declared.shape.Shape.{Shape}
use Rattle.acct_core.specs.AtRest.{tree_nodes}
use Rattle.acct_core.specs.Balance.{child_count}
use Rattle.acct_core.specs.Claims.{Claim, own_charge}
use Rattle.acct_core.specs.NodeTree.{IsOpen}
use Rattle.acct_core.specs.Phases.{Phase, charged, size_of, pending_addition, pending_subtraction}
use Rattle.acct_core.specs.Phases.Phase.{Free, In, Up, Held, Failed, Down, Bounced}
use Rattle.acct_core.specs.Rows.{row, shapes}
use Rattle.acct_core.proofs.FitsLemmas.{ClaimFits}
use Rattle.acct_core.proofs.FixedTreeLemmas.{held_law}
use Rattle.acct_core.proofs.RestLemmas.{held_of-rows}
use Rattle.acct_core.proofs.SumLemmas.{sum_by-le_each}
use Rattle.acct_words.specs.declared.fixed.Fixed.{Fixed}
use Rattle.acct_words.specs.declared.rule.Said.{Said}
use Rattle.acct_words.specs.Entries.StepKind.{LoadWord}
use Rattle.acct_words.specs.Entries.{begun, forgotten}
use Rattle.acct_words.specs.Views.{Start, View}
use Rattle.acct_words.specs.Places.{held_word, limit_word}
use Rattle.acct_words.specs.Bodies.{of_view, total, made, bytes_left, chunk_sizes}
use Rattle.acct_words.specs.Rows.{node, parent_of, rows_of, claims_of}
use Rattle.acct_words.specs.Moves.{reading}
use Rattle.acct_words.specs.Openings.{given_nodes, held_uncharged}
use Rattle.acct_words.specs.Rule.{IsSoundTable, KnowsHistory, reservations}
use Rattle.acct_words.specs.Plays.{entry, stepping, knowing, IsAllGivenBack, TellsHeld, Looks, Meets}
use Rattle.acct_words.proofs.ViewLemmas.{at_most}
use Rattle.acct_words.proofs.RowLemmas.{rows_of-at, limits_of}
use Rattle.acct_words.proofs.ClaimLemmas.{claims_of-sum}
use Rattle.acct_words.proofs.AccountLemmas.{row_open, held_bounded}
use Rattle.acct_words.proofs.BoundLemmas.{its_size, views_bound, held_small}
use Rattle.acct_words.proofs.KeptLemmas.{step_legal, known_more}
use Rattle.acct_words.proofs.StepLemmas.{at_level, comes_after}
use Rattle.acct_words.proofs.LoadLemmas.{IsLoad, load_step, load_kept, reading_owed}

-- the allocators that the rows show are those that were given
pub given_nodes-rows : (tree : List Fixed) (n : ℕ) (words : List ℕ) →
    ((i : ℕ) → i < length tree → slice_index words (limit_word (n + i)) ≡ (node tree i).limit) →
    tree_nodes n (rows_of tree n words) ≡ given_nodes n tree
given_nodes-rows [] n words limits = refl
given_nodes-rows (fixed ∷ tree) n words limits =
    let here : slice_index words (limit_word n) ≡ fixed.limit =
    subst (λ (m : ℕ). slice_index words (limit_word m) ≡ fixed.limit) (zero_more n) (limits 0 (omega arith)) in
    let later : tree_nodes (suc n) (rows_of tree (suc n) words) ≡ given_nodes (suc n) tree =
    given_nodes-rows tree (suc n) words (λ i h. subst (λ (m : ℕ). slice_index words (limit_word m) ≡ (node tree i).limit)
    (one_more n i) (limits (suc i) (omega arith))) in
    let behind : tree_nodes (suc n) (rows_of tree (n + 1) words) ≡ given_nodes (suc n) tree =
    subst (λ (m : ℕ). tree_nodes (suc n) (rows_of tree m words) ≡ given_nodes (suc n) tree) (suc_is n) later in
    λ j. record {
      number = record { 0 = n };
      parent = option_map (λ (p : ℕ). record { 0 = p }) (parent_of n fixed);
      reservation = fixed.reservation;
      limit = here j;
      closed = false;
    } ∷ behind j
  where
    zero_more : (m : ℕ) → m + 0 ≡ m
    zero_more m = omega arith

    one_more : (m i : ℕ) → m + suc i ≡ suc m + i
    one_more m i = omega arith

    suc_is : (m : ℕ) → suc m ≡ m + 1
    suc_is m = omega arith

-- what a claim is charged, and what it has pending, is at most its size
small_charge : (n : ℕ) (c : Claim) → own_charge n c ≤ size_of c.phase
small_charge n c = by (c.node == n) (is_none c.under) c.phase
  where
    by : (a b : Bool) (phase : Phase) → cond (a && b) (charged phase) 0 ≤ size_of phase
    by false b phase = omega arith
    by true false phase = omega arith
    by true true Free = omega arith
    by true true In = omega arith
    by true true (Up size next pending forced steps) = omega arith
    by true true (Held size forced steps) = omega arith
    by true true (Failed size forced steps) = omega arith
    by true true (Down size next pending) = omega arith
    by true true Bounced = omega arith

small_pair : (b : Bool) (pending size : ℕ) → pending ≤ size → cond b pending 0 ≤ size
small_pair true pending size h = h
small_pair false pending size h = omega arith

small_subtraction : (n : ℕ) (shape : ℕ → Shape) (c : Claim) → ClaimFits shape c.node c.under c.phase →
    pending_subtraction n c.phase ≤ size_of c.phase
small_subtraction n shape c = by c.phase
  where
    by : (phase : Phase) → ClaimFits shape c.node c.under phase → pending_subtraction n phase ≤ size_of phase
    by (Down size next pending) f = small_pair (next == n) pending size f.4
    by Free f = omega arith
    by In f = omega arith
    by (Up size next pending forced steps) f = omega arith
    by (Held size forced steps) f = omega arith
    by (Failed size forced steps) f = omega arith
    by Bounced f = omega arith

small_addition : (n : ℕ) (shape : ℕ → Shape) (c : Claim) → ClaimFits shape c.node c.under c.phase →
    pending_addition n c.phase ≤ size_of c.phase
small_addition n shape c = by c.phase
  where
    by : (phase : Phase) → ClaimFits shape c.node c.under phase → pending_addition n phase ≤ size_of phase
    by (Up size next pending forced steps) f = small_pair (next == n) pending size f.4
    by Free f = omega arith
    by In f = omega arith
    by (Down size next pending) f = omega arith
    by (Held size forced steps) f = omega arith
    by (Failed size forced steps) f = omega arith
    by Bounced f = omega arith

module _ (start : Start) (s : State Said View) (k : IsSoundTable start s) where
  abbrev rows : List Row
  rows = rows_of start.tree 0 s.words

  abbrev claims : List Claim
  claims = claims_of s.views

  -- where no chunk has bytes, an open node holds what its children count for
  rows_hold : total chunk_sizes s.views ≡ 0 → (n : ℕ) → IsOpen (shapes rows) n → (row rows n).held ≡ sum_by (child_count n) rows
  rows_hold empty n opened =
      let h = held_law rows claims k.accounts in
      let fits = λ (c : Claim). ClaimFits (shapes rows) c.node c.under c.phase in
      let b = h.balance n opened in
      let t = claims_of-sum its_size s.views in
      let u = views_bound s.views (λ j x g. (let o = k.tokens j x g in (o.0.chunks, o.1.chunks))) in
      let e = sum_by-le_each (own_charge n) its_size claims (All-weaker fits (λ (c : Claim). own_charge n c ≤ its_size c)
      (λ c f. small_charge n c) claims h.claims) in
      let p = sum_by-le_each (λ (c : Claim). pending_addition n c.phase) its_size claims
      (All-weaker fits (λ (c : Claim). pending_addition n c.phase ≤ its_size c) (λ c f. small_addition n (shapes rows) c f) claims
      h.claims) in
      let q = sum_by-le_each (λ (c : Claim). pending_subtraction n c.phase) its_size claims
      (All-weaker fits (λ (c : Claim). pending_subtraction n c.phase ≤ its_size c) (λ c f. small_subtraction n (shapes rows) c f) claims
      h.claims) in
      omega arith

  -- and the tree holds what it does uncharged
  uncharged_holds : total chunk_sizes s.views ≡ 0 → (m : ℕ) → m < length start.tree →
      slice_index s.words (held_word m) ≡ held_uncharged start.tree m
  uncharged_holds empty m there =
      let h = held_law rows claims k.accounts in
      let a = ap (λ (r : Row). r.held) (rows_of-at start.tree 0 m m s.words there (omega arith)) in
      let b = rows_hold empty m (row_open start.tree s.words (limits_of start.tree s.words k.layout.fixed) m there) in
      let c = held_of-rows [] 0 rows (record {
        made = h.tree.made;
        smaller = λ i p e. (let l = h.tree.smaller i p e in omega arith);
        balance = λ i opened. subst (λ (n : ℕ). (row rows i).held ≡ charged_at [] n + sum_by (child_count n) rows) (zero_before i)
            (let o = rows_hold empty i opened in omega arith);
      }) m in
      let d = ap (λ (nodes : List TreeNode). held_of nodes [] m) (given_nodes-rows start.tree 0 s.words
      (λ i l. subst (λ (n : ℕ). slice_index s.words (limit_word n) ≡ (node start.tree i).limit) (zero_before i)
      (limits_of start.tree s.words k.layout.fixed i l))) in
      omega arith
    where
      zero_before : (i : ℕ) → i ≡ 0 + i
      zero_before i = omega arith

  -- where a token has begun all that was begun and has given it back, no chunk has bytes
  none_left : (id : ℕ) (v : View) → get_elem? s.views id ≡ some v → IsAllGivenBack start.bytes v.own → total chunk_sizes s.views ≡ 0
  none_left id v at g =
      let a = at_most (of_view bytes_left) s.views id v at in
      let b = at_most (of_view (made begun)) s.views id v at in
      let c = at_most (of_view (made forgotten)) s.views id v at in
      let d = k.steps.placed begun in
      let e = k.steps.placed forgotten in
      let x = g.alone in
      let y = g.given_back in
      let p = k.budget.bytes in
      let q = k.budget.sizes in
      omega arith

-- what a level holds is read, and the level is known
pub meets_allowed : (slots id : ℕ) (me : Me Said View) (m : ℕ) → m < length me.0.start.tree →
    Allows (IsSoundTable me.0.start) slots id me (held_word m) (λ n. n) (Meets (step slots (held_word m) 0 0 none) me)
meets_allowed slots id me m there s k _ at _ =
    let found : ℕ = slice_index s.words (held_word m) in
    let e = entry (length k.history) (held_word m) LoadWord found in
    let f = node me.0.start.tree m in
    let w = stepping reading (knowing m f me.0) e in
    let o = reading_owed me.0.start s id me.0 k at (held_word m) in
    let owed : IsLoad me.0.start s s.homes id me.0 w k at (held_word m) LoadWord = record {
      quiet = o.quiet;
      claims = o.claims;
      made = o.made;
      bytes = o.bytes;
      turns = o.turns;
      sizes = o.sizes;
      numbers = o.numbers;
      good = o.good;
      known = known_more me.0.start m me.0.known there (k.known id me.0 at);
    } in (
      w,
      keeps,
      tt,
      load_kept me.0.start s s.homes id me.0 w k at (held_word m) LoadWord owed,
      (
        at_level LoadWord (λ level fixed. reading) m found me.0 w (record {
          fixed = f;
          made = (length k.history, refl);
          after_parent = comes_after me.0.start s k m there;
        }),
        refl,
      ),
    )

-- what a level holds is read
pub looks_allowed : (slots id : ℕ) (me : Me Said View) (m : ℕ) → m < length me.0.start.tree →
    Allows (IsSoundTable me.0.start) slots id me (held_word m) (λ n. n) (Looks (step slots (held_word m) 0 0 none) me)
looks_allowed slots id me m there s k _ at _ =
    let found : ℕ = slice_index s.words (held_word m) in
    let e = entry (length k.history) (held_word m) LoadWord found in
    let w = stepping reading me.0 e in
    let owed = reading_owed me.0.start s id me.0 k at (held_word m) in
    let known : KnowsHistory w = record {
      history = k.history ++ e ∷ [];
      legal = step_legal me.0.start s s.homes id me.0 w k at (held_word m) found LoadWord
          (load_step me.0.start s s.homes id me.0 w k at (held_word m) LoadWord owed);
      own_steps = owed.good.0.own_steps;
      observed = owed.good.0.observed;
    } in
    let within : found ≤ worst_case (map begun (k.history ++ e ∷ [])) (reservations me.0.start.tree) =
    (let a = held_bounded me.0.start.tree s.words s.views m there k.accounts in
    let t = claims_of-sum its_size s.views in
    let u = views_bound s.views (λ j x g. (let o = k.tokens j x g in (o.0.chunks, o.1.chunks))) in
    let p = k.budget.sizes in
    let q = sum-map begun (k.history ++ e ∷ []) in
    let r = sum_by_push begun k.history e in omega arith) in
    let tells : TellsHeld m found me.0 w = record {
      small = held_small me.0.start s k m there;
      bound = record {
        known = known;
        bound = within;
      };
      uncharged = λ g. uncharged_holds me.0.start s k (none_left me.0.start s k id me.0 at g) m there;
    } in (
      w,
      keeps,
      tt,
      load_kept me.0.start s s.homes id me.0 w k at (held_word m) LoadWord owed,
      (
        (length k.history, refl),
        refl,
        λ level same. subst (λ (l : ℕ). TellsHeld l found me.0 w) (same_level level same) tells,
      ),
    )
  where
    same_level : (level : ℕ) → held_word m ≡ held_word level → m ≡ level
    same_level level same = omega arith
