-- Making a child, on rows.
use Rattle.std.proofs.Common.{◌≡◌, ◌≢◌, ℕ, zero, suc, ◌+◌, ◌<◌, ◌≤◌, List, [], ◌∷◌, ◌++◌}
use Rattle.std.proofs.Common.{length, get_or, set, true, cond, eqb, Option, Some, None, IsSome, Result, Ok, Err, refl, sym, ap, subst}
use Rattle.std.proofs.Common.{◌∙◌, arith, count_by, sum_by, ◌&&◌}
use Rattle.std.specs.List.{Contains}
use Rattle.std.specs.Option.{option_map_or}
use Rattle.std.proofs.Math.ListN.{length-set}
use Rattle.std.proofs.lemmas.Bool.{le-ltb, lt-ltb}
use Rattle.std.proofs.lemmas.List.Sums.{sum_by-cons, sum_by_push}
use Rattle.mem_num.specs.declared.bounds.TheConstants.{MAX_LIMIT, MAX_RESERVATION, MOST_ALLOCATORS}
use Rattle.mem_num.specs.declared.alloc_id.AllocId.{AllocId}
use Rattle.mem_num.specs.declared.full.Full.{Full}
use Rattle.mem_num.specs.declared.child_refused.ChildRefused.{ChildRefused}
use Rattle.mem_num.specs.declared.child_refused.ChildRefused.TheVariants.{Nodes, Full as NoRoom}
use Rattle.mem_model.specs.declared.charge.Charge.{Charge}
use Rattle.mem_model.specs.declared.tree_node.TreeNode.{TreeNode}
use Rattle.mem_model.specs.Balance.{Balances, raised}
use Rattle.mem_model.specs.Charge.{amount_at}
use Rattle.mem_model.specs.Child.{child_result, child_node, child_answer, after_child}
use Rattle.mem_model.specs.Chunk.{charges_of}
use Rattle.mem_model.specs.Held.{counted_children}
use Rattle.mem_model.specs.LawfulState.{IsLawfulState}
use Rattle.mem_model.specs.PeakSample.{request_sample}
use Rattle.mem_model.specs.Reservation.{counted_at_parent}
use Rattle.mem_model.specs.TreeNode.{is_open_child}
use Rattle.mem_model.specs.TreeState.{TreeState, CallResult, uses_of, is_open, charges_in}
use Rattle.mem_model.proofs.BalanceLemmas.{counted_for, and_true}
use Rattle.mem_model.proofs.LawfulLemmas.{lawful-push_child, lawful-spend_number}
use Rattle.mem_model.proofs.CallResultLemmas.{child-past, child-made}
use Rattle.alloc_tree.specs.declared.row.Row.{Row}
use Rattle.alloc_tree.specs.declared.solo_tree.SoloTree.TheInside.{Inside}
use Rattle.alloc_tree.specs.Fields.{IsSoundSolo, state_of, tree_of}
use Rattle.alloc_tree.specs.Placed.{child_row}
use Rattle.alloc_tree.specs.Rows.{row_at, kept_of, held_by, uses_in, nodes_in, nodes_from, row_node, IsOpenAt, ChangesUses}
use Rattle.alloc_tree.specs.Walk.{KeepsNodes, AnswersRequest}
use Rattle.alloc_tree.proofs.DoneLemmas.{IsDone, done, tree_is, balance_same}
use Rattle.alloc_tree.proofs.UseLemmas.{uses_more}
use Rattle.alloc_tree.proofs.LowerLemmas.{stays_open}
use Rattle.alloc_tree.proofs.StateLemmas.{open_in, made_in}
use Rattle.alloc_tree.proofs.RowLemmas.{made_node, kept_as, row_at-other}

-- rows without an allocator are no nodes
no_nodes : (first : ℕ) (rows : List (Option Row)) → ((m : ℕ) → row_at rows m ≡ None) → nodes_from first rows ≡ []
unfolding nodes_from
no_nodes first [] none = refl
no_nodes first (None ∷ rows) none = no_nodes (suc first) rows (λ m. none (suc m))
no_nodes first (Some row ∷ rows) none = absurd (let here : Some row ≡ None = none 0 in cc)

put_from : (first n k : ℕ) (rows : List (Option Row)) (row : Row) → first + n ≡ k → n < length rows
    → ((m : ℕ) → n ≤ m → row_at rows m ≡ None)
    → nodes_from first (set rows n (Some row)) ≡ nodes_from first rows ++ row_node k row ∷ []
unfolding nodes_from
put_from first n k [] row at within none = absurd (omega (arith, within))
put_from first zero k (None ∷ rows) row at within none =
    let number : first ≡ k = omega (arith, at) in
    let rest : nodes_from (suc first) rows ≡ [] = no_nodes (suc first) rows (λ m. none (suc m) (omega arith)) in
    rw rest (ap (λ m. row_node m row ∷ []) number)
put_from first zero k (Some old ∷ rows) row at within none = absurd (let here : Some old ≡ None = none 0 (omega arith) in cc)
put_from first (suc n) k (None ∷ rows) row at within none = put_from (suc first) n k rows row (omega (arith, at)) (omega (arith, within))
    (λ m le. none (suc m) (omega (arith, le)))
put_from first (suc n) k (Some old ∷ rows) row at within none =
    ap (λ xs. row_node first old ∷ xs) (put_from (suc first) n k rows row (omega (arith, at)) (omega (arith, within))
    (λ m le. none (suc m) (omega (arith, le))))

-- a row behind all others is a node behind all others
nodes_put : (rows : List (Option Row)) (n : ℕ) (row : Row) → n < length rows → ((m : ℕ) → n ≤ m → row_at rows m ≡ None)
    → nodes_in (set rows n (Some row)) ≡ nodes_in rows ++ row_node n row ∷ []
nodes_put rows n row within none = put_from 0 n n rows row (omega arith) within none

-- no allocator was made with a number that wasn't given
module _ (state : TreeState) (rows : List (Option Row)) (lawful : IsLawfulState state) (nodes : nodes_in rows ≡ state.nodes) (m : ℕ)
    (later : state.next ≤ m) where
  unmade_by : (found : Option Row) → row_at rows m ≡ found → found ≡ None
  unmade_by None is = refl
  unmade_by (Some row) is = absurd (
      let node = row_node m row in
      let place : Contains state.nodes node = subst (λ ns. Contains ns node) nodes (made_node rows m row is) in
      let number : (get_or state.nodes place.0 node).number.0 ≡ m = ap (λ (x : TreeNode). x.number.0) place.2 in
      let given : (get_or state.nodes place.0 node).number.0 < state.next = (lawful.nodes place.0 node place.1).given in
      omega (arith, number, given, later))

  unmade : row_at rows m ≡ None
  unmade = unmade_by (row_at rows m) refl

-- a child behind all others weighs what it counts for at its parent
weight_push : (weight : TreeNode → ℕ) (nodes : List TreeNode) (child : TreeNode) (parent : AllocId) (n amount : ℕ)
    → weight child ≡ cond (is_open_child n child) amount 0
    → is_open_child n child ≡ (eqb parent.0 n && true)
    → sum_by weight (nodes ++ child ∷ []) ≡ sum_by weight nodes + cond (eqb parent.0 n) amount 0
weight_push weight nodes child parent n amount is open_ =
    omega (arith, is ∙ ap (λ b. cond b amount 0) (open_ ∙ and_true (eqb parent.0 n)), sum_by_push weight nodes child)

-- the reservation of a child that holds nothing, and one open child more
module _ (held : ℕ → ℕ) (nodes : List TreeNode) (state : TreeState) (parent : AllocId) (reservation limit n : ℕ) where
  counted_push : held state.next ≡ 0
      → counted_children held (nodes ++ child_node state parent reservation limit ∷ []) n
      ≡ counted_children held nodes n + cond (eqb parent.0 n) reservation 0
  counted_push none =
      let child = child_node state parent reservation limit in
      let empty : counted_at_parent reservation (held state.next) ≡ reservation = omega (arith, none) in
      weight_push (counted_for held n) nodes child parent n reservation (ap (λ (m : ℕ). cond (is_open_child n child) m 0) empty) refl

  children_push : count_by (is_open_child n) (nodes ++ child_node state parent reservation limit ∷ [])
      ≡ count_by (is_open_child n) nodes + cond (eqb parent.0 n) 1 0
  children_push = weight_push (λ node. cond (is_open_child n node) 1 0) nodes (child_node state parent reservation limit) parent n 1 refl
      refl

-- a child, by the level that refuses its reservation
abbrev made_by : TreeState → AllocId → ℕ → ℕ → Option TreeNode → CallResult (Result AllocId ChildRefused)
made_by state parent reservation limit refusing =
    let request : Charge = record { at = parent; amount = reservation } in
    record {
      answer = child_answer state request refusing;
      state = after_child state (child_node state parent reservation limit) refusing;
      samples = request_sample state.nodes (charges_in state) request ∷ [];
    }

module _ {f : Inside} (sound : IsSoundSolo f) (parent : AllocId) (reservation limit calls : ℕ) (within : reservation ≤ limit)
    (open_ : is_open (state_of f) parent.0 ≡ true) where
  -- a number that is past the last
  pub past_the_last : MOST_ALLOCATORS ≤ f.next
      → IsDone (tree_of f) (child_result (state_of f) parent reservation limit) (record f { next = f.next + 1; calls = calls })
      (Err (Nodes f.next))
  past_the_last many =
      done f (record f { next = f.next + 1; calls = calls })
      (child-past (state_of f) parent reservation limit within open_ (le-ltb f.next MOST_ALLOCATORS many)) refl sound.places
      (lawful-spend_number (state_of f) sound.lawful) (record { held = sound.numbers.held; uses = sound.numbers.uses }) refl

  -- a reservation that was refused has spent its number
  pub reservation_refused : (charged : List (Option Row)) (full : Full) → f.next < MOST_ALLOCATORS → KeepsNodes f.rows charged
      → AnswersRequest (charges_of f.chunks) (record { at = parent; amount = reservation }) f.rows charged (Err full)
      → IsDone (tree_of f) (child_result (state_of f) parent reservation limit)
      (record f { rows = charged; next = f.next + 1; calls = calls }) (Err (NoRoom full))
  reservation_refused charged full few kept answers =
      let state = state_of f in
      let spent : Inside = record f { rows = charged; next = f.next + 1; calls = calls } in
      let call = child-made state parent reservation limit within open_ (lt-ltb f.next MOST_ALLOCATORS few)
      ∙ ap (made_by state parent reservation limit) answers.refusal.1 in
      let whole = done f spent call (tree_is spent kept.nodes refl) (kept.length ∙ sound.places) (lawful-spend_number state sound.lawful)
      (record { held = answers.held; uses = λ n. ap (λ (g : ℕ → ℕ). g n) kept.uses ∙ sound.numbers.uses n }) answers.peaks in
      record { sound = whole.sound; told = ap (λ e. Err (NoRoom e)) answers.refusal.2 ∙ whole.told; after = whole.after }

  -- a child that was made
  pub child_was_made : (charged new : List (Option Row)) → reservation ≤ MAX_RESERVATION
      → limit ≤ MAX_LIMIT → f.next < MOST_ALLOCATORS
      → KeepsNodes f.rows charged
      → AnswersRequest (charges_of f.chunks) (record { at = parent; amount = reservation }) f.rows charged (Ok tt)
      → ChangesUses (set charged f.next (Some (child_row parent reservation limit))) new
      (raised (uses_in (set charged f.next (Some (child_row parent reservation limit)))) parent.0 1)
      → IsDone (tree_of f) (child_result (state_of f) parent reservation limit)
      (record f { rows = new; next = f.next + 1; calls = calls }) (Ok (record { 0 = f.next }))
  child_was_made charged new small limited few kept answers uses =
      let state = state_of f in
      let charges = charges_of f.chunks in
      let request : Charge = record { at = parent; amount = reservation } in
      let child = child_node state parent reservation limit in
      let row = child_row parent reservation limit in
      let put = set charged f.next (Some row) in
      let inside : f.next < length charged = omega (arith, kept.length, sound.places, few) in
      let none : (m : ℕ) → f.next ≤ m → row_at charged m ≡ None = unmade state charged sound.lawful kept.nodes in
      let nothing : (field : Row → ℕ)
      → kept_of field charged f.next ≡ 0 = λ field. ap (λ r. option_map_or field r 0) (none f.next (omega arith)) in
      let keeps : (field : Row → ℕ) → field row ≡ 0 → kept_of field put ≡ kept_of field charged =
      λ field zero'. kept_as field charged f.next row (kept_of field charged) inside (zero' ∙ sym (nothing field)) (λ m other. refl) in
      let nodes : nodes_in new ≡ nodes_in f.rows ++ child ∷ [] = uses.nodes ∙ nodes_put charged f.next row inside none
      ∙ ap (λ ns. ns ++ child ∷ []) kept.nodes in
      let held : held_by new ≡ held_by charged = uses.held ∙ keeps (λ r. r.held) refl in
      let after : TreeState = record state { nodes = state.nodes ++ child ∷ []; next = f.next + 1 } in
      let made : Inside = record f { rows = new; next = f.next + 1; calls = calls } in
      let call = child-made state parent reservation limit within open_ (lt-ltb f.next MOST_ALLOCATORS few)
      ∙ ap (made_by state parent reservation limit) answers.refusal in
      let balance : Balances after.nodes charges (held_by charged) =
      λ n. answers.held n ∙ omega (
        arith,
        sum_by-cons (amount_at n) request charges,
        counted_push (held_by charged) state.nodes state parent reservation limit n (nothing (λ r. r.held)),
      ) in
      done f made call (tree_is made nodes refl) (uses.length ∙ length-set charged f.next (Some row) ∙ kept.length ∙ sound.places)
      (lawful-push_child state parent reservation limit sound.lawful open_ few within small limited)
      (record {
        held = balance_same after.nodes charges charges (held_by charged) (held_by new) balance held (λ n. refl);
        uses = uses_more put new parent.0 (uses_of state) (uses_of after) uses
            (λ n. ap (λ (g : ℕ → ℕ). g n) (keeps (λ r. r.uses) refl ∙ kept.uses) ∙ sound.numbers.uses n)
            (λ n. omega (arith, children_push (held_by charged) state.nodes state parent reservation limit n));
      })
      (uses.peaks ∙ keeps (λ r. r.peak) refl ∙ answers.peaks)

-- a parent is there, and has as many uses, where a row was put behind all others
pub parent_beside : {f : Inside} (sound : IsSoundSolo f) (charged : List (Option Row)) (m : ℕ) (row : Row)
    → is_open (state_of f) m ≡ true → KeepsNodes f.rows charged
    → IsSome (row_at (set charged f.next (Some row)) m) × (uses_in (set charged f.next (Some row)) m ≡ uses_in f.rows m)
parent_beside {f = f} sound charged m row is_open' kept =
    let open_ : IsOpenAt charged m = stays_open f.rows charged m kept (open_in f m is_open') in
    let other : m ≢ f.next =
    λ same. (let both : Some open_.0 ≡ None = sym open_.1
    ∙ unmade (state_of f) charged sound.lawful kept.nodes m (omega (arith, same)) in absurd cc) in
    let same : row_at (set charged f.next (Some row)) m ≡ row_at charged m = row_at-other charged f.next m (Some row) other in (
      subst IsSome (sym same) (made_in charged m open_),
      ap (λ r. option_map_or (λ (x : Row). x.uses) r 0) same
          ∙ ap (λ (g : ℕ → ℕ). g m) kept.uses,
    )
