-- Closing an allocator, on rows.
use Rattle.std.proofs.Common.{◌≡◌, ◌≢◌, ℕ, zero, suc, ◌+◌, ◌<◌, ◌≤◌, List, [], ◌∷◌, All, length, get_or}
use Rattle.std.proofs.Common.{set, true, false, cond, eqb, Option, Some, None, is_some, Result, Ok, refl, sym, ap, subst, ◌∙◌, arith}
use Rattle.std.proofs.Common.{inl, inr, add-zero, sum_by, count_by, ne_eqb, eq-eqb}
use Rattle.std.specs.List.{Contains}
use Rattle.std.proofs.Math.ListN.{length-set}
use Rattle.std.proofs.lemmas.Bool.{cases_Bool, lt-ltb, true≢false}
use Rattle.std.proofs.lemmas.List.Sums.{sum_by-cons}
use Rattle.mem_num.specs.declared.alloc_id.AllocId.{AllocId}
use Rattle.mem_num.specs.declared.not_closed.NotClosed.{NotClosed}
use Rattle.mem_model.specs.declared.tree_node.TreeNode.{TreeNode}
use Rattle.mem_model.specs.Balance.{Balances, ExceedsByAmount, amount_for, lowered}
use Rattle.mem_model.specs.Charge.{charged_at}
use Rattle.mem_model.specs.Chunk.{Chunk, charges_of, has_ledger}
use Rattle.mem_model.specs.Ledgers.{count_of}
use Rattle.mem_model.specs.Close.{close_result, closed_where, with_closed}
use Rattle.mem_model.specs.Held.{counted_children}
use Rattle.mem_model.specs.LawfulState.{IsLawfulState}
use Rattle.mem_model.specs.MeasuredTree.{MeasuredTree}
use Rattle.mem_model.specs.Reservation.{counted_at_parent}
use Rattle.mem_model.specs.TreeNode.{is_number, is_open_child}
use Rattle.mem_model.specs.TreeState.{TreeState, CallResult, uses_of, is_open, ledgers_of, children_of}
use Rattle.mem_model.proofs.BalanceLemmas.{counted_for, counted_none, sum_by-but_one, apart, parent_of, HasParent, exceeds_none, open_child}
use Rattle.mem_model.proofs.CoverLemmas.{charged-none}
use Rattle.mem_model.proofs.HeldLemmas.{Rises}
use Rattle.mem_model.proofs.LawfulCloseLemmas.{lawful-close}
use Rattle.mem_model.proofs.OpenLemmas.{none_counted}
use Rattle.mem_model.proofs.CallResultLemmas.{close-unused}
use Rattle.mem_model.proofs.RequestLemmas.{and_no}
use Rattle.alloc_tree.specs.declared.row.Row.{Row}
use Rattle.alloc_tree.specs.declared.solo_tree.SoloTree.TheInside.{Inside}
use Rattle.alloc_tree.specs.Fields.{IsSoundSolo, state_of, tree_of}
use Rattle.alloc_tree.specs.Rows.{row_at, held_by, peaks_in, uses_in, nodes_in, nodes_from, row_node, if_open, IsOpenAt, ChangesUses}
use Rattle.alloc_tree.specs.Walk.{KeepsNodes}
use Rattle.alloc_tree.proofs.DoneLemmas.{IsDone, done, tree_is, balance_same}
use Rattle.alloc_tree.proofs.LookLemmas.{row_uses}
use Rattle.alloc_tree.proofs.OpenLemmas.{is_open_row}
use Rattle.alloc_tree.proofs.RowLemmas.{made_node, row_of_node, kept-same, row_at-other}
use Rattle.alloc_tree.proofs.UseLemmas.{uses_less}

-- a row that is closed
abbrev pub shut : Row → Row
shut row = record row { closed = true }

-- numbers before the first row aren't closed
closed_before : (first k : ℕ) (rows : List (Option Row)) → k < first → with_closed k (nodes_from first rows) ≡ nodes_from first rows
unfolding nodes_from
closed_before first k [] before = refl
closed_before first k (None ∷ rows) before = closed_before (suc first) k rows (omega (arith, before))
closed_before first k (Some row ∷ rows) before =
    let other : eqb first k ≡ false = ne_eqb first k (λ same. omega (arith, same, before)) in
    rw other (ap (λ xs. row_node first row ∷ xs) (closed_before (suc first) k rows (omega (arith, before))))

close_from : (first n k : ℕ) (rows : List (Option Row)) (row : Row) → first + n ≡ k → row_at rows n ≡ Some row
    → nodes_from first (set rows n (Some (shut row))) ≡ with_closed k (nodes_from first rows)
unfolding nodes_from
close_from first n k [] row at is = absurd cc
close_from first zero k (None ∷ rows) row at is = absurd cc
close_from first zero k (Some r ∷ rows) row at is =
    let here : r ≡ row = cc in
    let number : eqb first k ≡ true = eq-eqb first k (omega (arith, at)) in
    rw (number, closed_before (suc first) k rows (omega (arith, at)))
    (ap (λ (x : Row). row_node first (shut x) ∷ nodes_from (suc first) rows) (sym here))
close_from first (suc n) k (None ∷ rows) row at is = close_from (suc first) n k rows row (omega (arith, at)) is
close_from first (suc n) k (Some r ∷ rows) row at is =
    let other : eqb first k ≡ false = ne_eqb first k (λ same. omega (arith, same, at)) in
    rw other (ap (λ xs. row_node first r ∷ xs) (close_from (suc first) n k rows row (omega (arith, at)) is))

-- a row that is closed is a node that is closed
nodes_closed : (rows : List (Option Row)) (n : ℕ) (row : Row) → row_at rows n ≡ Some row
    → nodes_in (set rows n (Some (shut row))) ≡ with_closed n (nodes_in rows)
nodes_closed rows n row is = close_from 0 n n rows row (omega arith) is

-- a sum over the same nodes, but for one that is closed
sum_closed : (f : TreeNode → ℕ) (nodes : List TreeNode) (n : ℕ)
    → sum_by f (with_closed n nodes) ≡ sum_by (λ node. f (closed_where n node)) nodes
sum_closed f [] n = refl
sum_closed f (x ∷ xs) n = omega (
  arith,
  sum_closed f xs n,
  sum_by-cons f (closed_where n x) (with_closed n xs),
  sum_by-cons (λ node. f (closed_where n node)) x xs,
)

-- what a closed node weighs no more
closed_weight : (f : TreeNode → ℕ) (nodes : List TreeNode) (e : TreeNode) → Rises nodes → Contains nodes e
    → f (record e { closed = true }) ≡ 0 → sum_by f nodes ≡ sum_by f (with_closed e.number.0 nodes) + f e
closed_weight f nodes e rises place none =
    let n = e.number.0 in
    let k = place.0 in
    let g : TreeNode → ℕ = λ node. f (closed_where n node) in
    let others : (i : ℕ) → i < length nodes → i ≢ k → f (get_or nodes i e) ≡ g (get_or nodes i e) =
    λ i inside ne. (
    let off : eqb (get_or nodes i e).number.0 n ≡ false =
    subst (λ (x : TreeNode). eqb (get_or nodes i e).number.0 x.number.0 ≡ false) place.2
    (apart nodes i k e rises inside place.1 ne) in
    rw off refl) in
    let sums : sum_by f nodes + g e ≡ sum_by g nodes + f e =
    subst (λ (x : TreeNode). sum_by f nodes + g x ≡ sum_by g nodes + f x) place.2 (sum_by-but_one f g nodes k e place.1 others) in
    let here : eqb n n ≡ true = eq-eqb n n refl in
    let zero' : g e ≡ 0 = rw here none in
    omega (arith, sums, zero', sum_closed f nodes n)

-- no ledgers, no charges: an owner has a ledger
uncharged : (chunks : List Chunk) (n : ℕ) → All (λ chunk. 1 ≤ count_of chunk.ledgers chunk.owner.0) chunks
    → count_by (has_ledger n) chunks ≡ 0 → charged_at (charges_of chunks) n ≡ 0
uncharged chunks n owned none = charged-none n chunks (λ k d within own.
    let ledgers = (get_or chunks k d).ledgers in
    let some : 1 ≤ count_of ledgers n = subst (λ m. 1 ≤ count_of ledgers m) own (owned k d within) in
    true≢false (sym (lt-ltb 0 (count_of ledgers n) (omega arith)) ∙ none_counted (has_ledger n) chunks none k d within))

-- a closed node is no open child
no_child : (n : ℕ) (e : TreeNode) → is_open_child n (record e { closed = true }) ≡ false
no_child n e = and_no (is_number n e.parent)

-- what is told of a row that is there and isn't closed
told_by : (found : Option Row) (row : Row) → if_open found ≡ Some row → (found ≡ Some row) × (row.closed ≡ false)
told_by None row is = absurd cc
told_by (Some r) row is = elim (cases_Bool r.closed) [
  | inl shut' ↦ absurd (let none : None ≡ Some row = sym (rw shut' refl) ∙ is in cc)
  | inr open_ ↦ (let both : Some r ≡ Some row = sym (rw open_ refl) ∙ is in let same : r ≡ row = cc in
      (both, subst (λ (x : Row). x.closed ≡ false) same open_))
]

-- what `get_open` tells of the tree that is seen
pub open_is : (f : Inside) {tree : MeasuredTree} (n : ℕ) (found : Option Row) → tree_of f ≡ tree
    → if_open (row_at f.rows n) ≡ found → is_open tree.state n ≡ is_some found
open_is f n found view is = ap (λ (t : MeasuredTree). is_open t.state n) (sym view) ∙ is_open_row f.rows n ∙ ap is_some is

pub uses_are : {f : Inside} {tree : MeasuredTree} (sound : IsSoundSolo f) (n : ℕ) (row : Row) → tree_of f ≡ tree
    → if_open (row_at f.rows n) ≡ Some row → row.uses ≡ uses_of tree.state n
uses_are {f = f} sound n row view is =
    row_uses f.rows (state_of f) n row sound.numbers (told_by (row_at f.rows n) row is).0
    ∙ ap (λ (t : MeasuredTree). uses_of t.state n) view

-- the rows once an allocator without uses was closed there, before its parent knows
pub record IsShut (f : Inside) (at : AllocId) (row : Row) (new : List (Option Row)) : Type 0 where
  pub sound : IsSoundSolo f
  pub was_open : is_open (state_of f) at.0 ≡ true
  pub unused : uses_of (state_of f) at.0 ≡ 0
  pub nodes : nodes_in new ≡ with_closed at.0 (nodes_in f.rows)
  pub lawful : IsLawfulState (record (state_of f) { nodes = nodes_in new })
  pub held : held_by new ≡ held_by f.rows
  pub peaks : peaks_in new ≡ peaks_in f.rows
  pub uses : uses_in new ≡ uses_in f.rows
  pub length : length new ≡ length f.rows
  pub exceeds : ExceedsByAmount (nodes_in new) (charges_of f.chunks) (held_by new) row.parent row.reservation
  pub children : (n : ℕ) → uses_of (state_of f) n ≡ uses_of (record (state_of f) { nodes = nodes_in new }) n + cond
      (is_number n row.parent) 1 0
  pub parent_open : (p : AllocId) → row.parent ≡ Some p → IsOpenAt new p.0

module _ {f : Inside} (sound : IsSoundSolo f) (at : AllocId) (row : Row) (is_row : if_open (row_at f.rows at.0) ≡ Some row)
    (none : row.uses ≡ 0) where
  -- the row that was read, which stands for an open node
  is : row_at f.rows at.0 ≡ Some row
  is = (told_by (row_at f.rows at.0) row is_row).0

  open_ : row.closed ≡ false
  open_ = (told_by (row_at f.rows at.0) row is_row).1

  place : Contains (nodes_in f.rows) (row_node at.0 row)
  place = made_node f.rows at.0 row is

  unused : uses_of (state_of f) at.0 ≡ 0
  unused = sym (uses_are sound at.0 row refl is_row) ∙ none

  -- an allocator without uses holds nothing
  holds_nothing : held_by f.rows at.0 ≡ 0
  holds_nothing =
      let state = state_of f in
      let n = at.0 in
      let sum : ledgers_of state n + children_of state n ≡ 0 = unused in
      let charges : charged_at (charges_of f.chunks) n ≡ 0 = uncharged f.chunks n (λ k d within. (sound.lawful.chunks k d within).owner)
      (omega (arith, sum)) in
      let children = counted_none (held_by f.rows) (nodes_in f.rows) n
      (none_counted (is_open_child n) (nodes_in f.rows) (omega (arith, sum))) in
      omega (arith, sound.numbers.held n, charges, children)

  -- what the node weighs as an open child, and no more
  weighs : (weight : TreeNode → ℕ) (amount n : ℕ) → ((e : TreeNode) → is_open_child n e ≡ false → weight e ≡ 0)
      → weight (row_node at.0 row) ≡ cond (is_open_child n (row_node at.0 row)) amount 0
      → sum_by weight (nodes_in f.rows) ≡ sum_by weight (with_closed at.0 (nodes_in f.rows)) + cond (is_number n row.parent) amount 0
  weighs weight amount n no_weight weight_is =
      let e = row_node at.0 row in
      let gone : weight (record e { closed = true }) ≡ 0 = no_weight (record e { closed = true }) (no_child n e) in
      closed_weight weight (nodes_in f.rows) e sound.lawful.tree.ordered place gone
      ∙ ap (λ (m : ℕ). sum_by weight (with_closed at.0 (nodes_in f.rows)) + m)
      (weight_is ∙ ap (λ b. cond b amount 0) (open_child n e open_))

  shut_parent : (p : AllocId) → row.parent ≡ Some p → IsOpenAt (set f.rows at.0 (Some (shut row))) p.0
  shut_parent p up =
      let e = row_node at.0 row in
      let found = parent_of (nodes_in f.rows) e p sound.lawful.tree place open_ up in
      let parent : HasParent (nodes_in f.rows) e found.0 = found.1 in
      let number : Some p ≡ Some found.0.number = sym up ∙ parent.number in
      let same : found.0.number ≡ p = cc in
      let older : found.0.number.0 < at.0 = parent.older in
      let its = row_of_node f.rows found.0 parent.among in
      let p_row : row_at f.rows p.0 ≡ Some its.0 = subst (λ (q : AllocId). row_at f.rows q.0 ≡ Some its.0) same its.1 in
      let apart' : p.0 ≢ at.0 = λ e'. omega (arith, e', older, ap (λ (q : AllocId). q.0) same) in (
        its.0,
        row_at-other f.rows at.0 p.0 (Some (shut row)) apart' ∙ p_row,
        sym (ap (λ (x : TreeNode). x.closed) its.2)
            ∙ parent.is_open,
      )

  shut_rows : (new : List (Option Row)) → new ≡ set f.rows at.0 (Some (shut row)) → IsShut f at row new
  shut_rows new new_is = subst (IsShut f at row) (sym new_is) (
      let state = state_of f in
      let put = set f.rows at.0 (Some (shut row)) in
      let nodes : nodes_in put ≡ with_closed at.0 (nodes_in f.rows) = nodes_closed f.rows at.0 row is in
      let held : held_by put ≡ held_by f.rows = kept-same (λ r. r.held) f.rows at.0 row (shut row) is refl in
      let reserves : counted_at_parent row.reservation (held_by f.rows at.0) ≡ row.reservation = omega (arith, holds_nothing) in
      let counted : (n : ℕ) → counted_children (held_by f.rows) (nodes_in f.rows) n
      ≡ counted_children (held_by f.rows) (with_closed at.0 (nodes_in f.rows)) n + amount_for row.parent row.reservation n =
      λ n. weighs (counted_for (held_by f.rows) n) row.reservation n (λ e no. rw no refl)
      (ap (λ (m : ℕ). cond (is_open_child n (row_node at.0 row)) m 0) reserves) in
      record {
        sound = sound;
        was_open = open_is f at.0 (Some row) refl is_row;
        unused = unused;
        nodes = nodes;
        lawful = subst (λ ns. IsLawfulState (record state { nodes = ns })) (sym nodes) (lawful-close state at.0 sound.lawful unused);
        held = held;
        peaks = kept-same (λ r. r.peak) f.rows at.0 row (shut row) is refl;
        uses = kept-same (λ r. r.uses) f.rows at.0 row (shut row) is refl;
        length = length-set f.rows at.0 (Some (shut row));
        exceeds = subst (λ ns. ExceedsByAmount ns (charges_of f.chunks) (held_by put) row.parent row.reservation) (sym nodes)
            (subst (λ g. ExceedsByAmount (with_closed at.0 (nodes_in f.rows)) (charges_of f.chunks) g row.parent row.reservation)
            (sym held) (λ n. omega (arith, sound.numbers.held n, counted n)));
        children = λ n. omega (
          arith,
          weighs (λ node. cond (is_open_child n node) 1 0) 1 n (λ e no. rw no refl) refl,
          ap (λ ns. count_by (is_open_child n) ns) nodes,
        );
        parent_open = shut_parent;
      })

-- what was read and put says so
pub shut_read : {f : Inside} (sound : IsSoundSolo f) (at : AllocId) {found : Option Row} {row : Row} {new : List (Option Row)}
    → found ≡ if_open (row_at f.rows at.0) → found ≡ Some row → row.uses ≤ 0 → new ≡ set f.rows at.0 (Some (shut row))
    → IsShut f at row new
shut_read sound at {row = row} {new = new} read is none put = shut_rows sound at row (sym read ∙ is) (omega (arith, none)) new put

-- what closing an allocator that nothing uses leaves
abbrev closed_as : TreeState → List TreeNode → CallResult (Result (Unit {0}) NotClosed)
closed_as state nodes = record { answer = Ok tt; state = record state { nodes = nodes }; samples = [] }

module _ {f : Inside} {at : AllocId} {row : Row} {shut_ : List (Option Row)} (h : IsShut f at row shut_) where
  -- a closed child leaves its reservation to be taken back at its parent
  pub gives_back : (next : Option AllocId) → row.parent ≡ next
      → ExceedsByAmount (nodes_in shut_) (charges_of f.chunks) (held_by shut_) next row.reservation
  gives_back next up = subst (λ (q : Option AllocId). ExceedsByAmount (nodes_in shut_) (charges_of f.chunks)
      (held_by shut_) q row.reservation) up h.exceeds

  -- and a use
  counts : (next : Option AllocId) → row.parent ≡ next → (n : ℕ)
      → uses_of (state_of f) n ≡ uses_of (record (state_of f) { nodes = nodes_in shut_ }) n + cond (is_number n next) 1 0
  counts next up n = h.children n
      ∙ ap (λ (q : Option AllocId). uses_of (record (state_of f) { nodes = nodes_in shut_ }) n + cond (is_number n q) 1 0) up

  pub parent_counts : (p : AllocId) → row.parent ≡ Some p → 1 ≤ uses_in f.rows p.0
  parent_counts p up =
      let one : ◌≡◌ {A = ℕ} (cond (eqb p.0 p.0) 1 0) 1 = rw (eq-eqb p.0 p.0 refl) refl in
      omega (arith, counts (Some p) up p.0, one, h.sound.numbers.uses p.0)

  -- rows that have the nodes, hold what is charged, and count the uses that are left
  closed_by : (new : List (Option Row)) → nodes_in new ≡ nodes_in shut_ → length new ≡ length shut_
      → peaks_in new ≡ peaks_in shut_ → Balances (nodes_in shut_) (charges_of f.chunks) (held_by new)
      → ((n : ℕ) → uses_in new n ≡ uses_of (record (state_of f) { nodes = nodes_in shut_ }) n)
      → IsDone (tree_of f) (close_result (state_of f) at) (record f { rows = new }) (Ok tt)
  closed_by new nodes places peaks held uses =
      let state = state_of f in
      let call = close-unused state at h.was_open h.unused ∙ ap (closed_as state) (sym h.nodes) in
      done f (record f { rows = new }) call (tree_is (record f { rows = new }) nodes refl) (places ∙ h.length ∙ h.sound.places) h.lawful
      (record { held = held; uses = uses }) (peaks ∙ h.peaks)

  -- a child was closed: its parent took its reservation back, and counts it no more
  pub closed_at_parent : (lower new : List (Option Row)) (p : AllocId) → row.parent ≡ Some p → KeepsNodes shut_ lower
      → peaks_in lower ≡ peaks_in shut_
      → Balances (nodes_in shut_) (charges_of f.chunks) (held_by lower) → ChangesUses lower new (lowered (uses_in lower) p.0 1)
      → IsDone (tree_of f) (close_result (state_of f) at) (record f { rows = new }) (Ok tt)
  closed_at_parent lower new p up kept peaks balance uses =
      let charges = charges_of f.chunks in
      closed_by new (uses.nodes ∙ kept.nodes) (uses.length ∙ kept.length) (uses.peaks ∙ peaks)
      (balance_same (nodes_in shut_) charges charges (held_by lower) (held_by new) balance uses.held (λ n. refl))
      (uses_less lower new p.0 (uses_of (state_of f)) (uses_of (record (state_of f) { nodes = nodes_in shut_ })) uses
      (λ n. ap (λ (g : ℕ → ℕ). g n) (kept.uses ∙ h.uses) ∙ h.sound.numbers.uses n) (counts (Some p) up))

  -- the root was closed
  pub closed_root : row.parent ≡ None → IsDone (tree_of f) (close_result (state_of f) at) (record f { rows = shut_ }) (Ok tt)
  closed_root root =
      closed_by shut_ refl refl refl (exceeds_none (nodes_in shut_) (charges_of f.chunks) (held_by shut_) row.reservation
      (gives_back None root))
      (λ n. ap (λ (g : ℕ → ℕ). g n) h.uses ∙ h.sound.numbers.uses n ∙ counts None root n
      ∙ add-zero (uses_of (record (state_of f) { nodes = nodes_in shut_ }) n))
