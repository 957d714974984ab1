-- A tree whose limits carry all that is asked for gives each buffer and makes each child.
use Rattle.std.specs.Prelude.{◌≡◌, ◌≢◌, ◌≤◌, ◌<◌, ◌+◌, ℕ, ◌==◌, true, false, not, nat_lt, nat_le, List, [], ◌∷◌, ◌++◌, get_or, sum_by, All}
use Rattle.std.specs.Prelude.{Option, Some, None, Result, cond, ⊤, refl}
use Rattle.std.proofs.Common.{arith, sym, ap, ◌∙◌}
use Rattle.std.proofs.lemmas.Bool.{cond_both, cond-true, cond-false, not-false, le-ltb, ne_eqb, eq-eqb}
use Rattle.std.proofs.lemmas.List.Elements.{All-push, All-weaker, All-filter}
use Rattle.std.proofs.lemmas.List.Sums.{sum_by-append, sum_by-cons}
use Rattle.mem_num.specs.Rounded.{rounded_size}
use Rattle.mem_num.specs.declared.bounds.TheConstants.{LARGEST, MOST_ALLOCATORS}
use Rattle.mem_num.specs.declared.rounding.Rounding.TheVariants.{Power}
use Rattle.mem_num.specs.declared.alloc_id.AllocId.{AllocId}
use Rattle.mem_num.specs.declared.buffer_ref.Ref.{Ref}
use Rattle.mem_num.specs.declared.buffer_refused.BufferRefused.{BufferRefused}
use Rattle.mem_num.specs.declared.child_refused.ChildRefused.{ChildRefused}
use Rattle.mem_model.specs.declared.charge.Charge.{Charge}
use Rattle.mem_model.specs.declared.tree_node.TreeNode.{TreeNode}
use Rattle.mem_model.specs.Bound.{all_of}
use Rattle.mem_model.specs.Calls.{CallBy, Child, Close, Grant, Retain, Transfer, Release, CallAnswer, ToChild, ToGrant, answered}
use Rattle.mem_model.specs.Child.{child_node, child_answer, after_child, child_result}
use Rattle.mem_model.specs.Chunk.{Chunk, charge_of, charges_of, new_chunk}
use Rattle.mem_model.specs.Grant.{charge_answer, after_charge, grant_result}
use Rattle.mem_model.specs.Held.{held_of}
use Rattle.mem_model.specs.PeakSample.{request_sample}
use Rattle.mem_model.specs.Request.{lowest, is_level, levels_of, is_past_limit, refusing_level}
use Rattle.mem_model.specs.TreeNode.{IsAllocatorTree}
use Rattle.mem_model.specs.TreeState.{TreeState, CallResult, charges_in, is_open}
use Rattle.mem_model.proofs.BoundLemmas.{held_of_bound, all_of_cons}
use Rattle.mem_model.proofs.RequestLemmas.{filter_none}
use Rattle.query_model.specs.SequentialCalls.{full_in}
use Rattle.query_model.proofs.GrownTreeLemmas.{grown-tree}
use Rattle.query_model.proofs.WithinLemmas.{sum_by-map}

-- the bytes that a call asks for
abbrev pub asked_by : {R : Type 0} → CallBy R → ℕ
asked_by (Child parent reservation limit) = reservation
asked_by (Close at) = 0
asked_by (Grant at request) = rounded_size Power request
asked_by (Retain of target) = 0
asked_by (Transfer of target) = 0
asked_by (Release of) = 0

-- a call of a query, whose children have such limits: it closes nothing, and asks for no buffer at the root
abbrev pub IsRoomy : {R : Type 0} → ℕ → CallBy R → Type 0
IsRoomy most (Child parent reservation limit) = most ≤ limit
IsRoomy most (Close at) = ⊥
IsRoomy most (Grant at request) = at.0 ≢ 0
IsRoomy most (Retain of target) = ⊤
IsRoomy most (Transfer of target) = ⊤
IsRoomy most (Release of) = ⊤

-- a chunk whose number was drawn has the size of its number
pub record IsSized (size_at : ℕ → ℕ) (drawn : ℕ) (chunk : Chunk) : Type 0 where
  pub given : chunk.number ≤ drawn
  pub size : chunk.size ≡ size_at chunk.number

-- a tree whose limits are at least `most`, and whose chunks and reservations come to no more than `done`
pub record IsWithin (size_at : ℕ → ℕ) (most done : ℕ) (state : TreeState) : Type 0 where
  pub tree : IsAllocatorTree state.nodes
  pub numbers : All (λ node. node.number.0 < state.next) state.nodes
  pub limits : All (λ node. most ≤ node.limit) state.nodes
  pub chunks : All (IsSized size_at state.drawn) state.chunks
  pub sums : sum_by (λ chunk. chunk.size) state.chunks + sum_by (λ node. node.reservation) state.nodes ≤ done

-- a call isn't refused for want of room, and leaves such a tree
pub record Fits (most done : ℕ) (result : CallResult CallAnswer) : Type 0 where
  pub answer : full_in result.answer ≡ None
  pub size_at : ℕ → ℕ
  pub after : IsWithin size_at most done result.state

-- what is within a bound is within a greater one
pub later : (size_at : ℕ → ℕ) (most done more : ℕ) (state : TreeState) → IsWithin size_at most done state
    → IsWithin size_at most (done + more) state
later size_at most done more state h =
    record { tree = h.tree; numbers = h.numbers; limits = h.limits; chunks = h.chunks; sums = omega (arith, h.sums) }

-- all that a tree could hold at once, by its chunks
all_of-sizes : (nodes : List TreeNode) (chunks : List Chunk) →
    all_of nodes (charges_of chunks) ≡ sum_by (λ chunk. chunk.size) chunks + sum_by (λ node. node.reservation) nodes
all_of-sizes nodes chunks =
    ap (λ n. n + sum_by (λ node. node.reservation) nodes) (sum_by-map (λ charge. charge.amount) charge_of chunks)

-- a request that all limits carry is refused by no level
never-refused : (size_at : ℕ → ℕ) (most done : ℕ) (state : TreeState) (request : Charge) → IsWithin size_at most done state
    → done + request.amount ≤ most → refusing_level state.nodes (charges_in state) request ≡ None
never-refused size_at most done state request h room =
    let charges = request ∷ charges_in state in
    let total : all_of state.nodes charges ≤ most =
    (let a = all_of_cons state.nodes (charges_in state) request in let b = all_of-sizes state.nodes state.chunks in
    omega (arith, a, b, h.sums, room)) in
    let none : All (λ node. is_past_limit state.nodes charges node ≡ false) state.nodes = λ k d within.
    let node = get_or state.nodes k d in
    let held = held_of_bound state.nodes charges node.number.0 h.tree in
    let limit : most ≤ node.limit = h.limits k d within in
    le-ltb node.limit (held_of state.nodes charges node.number.0) (omega (arith, held, limit, total)) in
    ap lowest (filter_none (is_past_limit state.nodes charges) (levels_of state.nodes (charges_in state) request)
    (All-filter (is_level state.nodes (charges_in state) request)
    (λ node. is_past_limit state.nodes charges node ≡ false) state.nodes none))

-- sizes by number, with one more
abbrev size_with : (ℕ → ℕ) → ℕ → ℕ → ℕ → ℕ
size_with size_at number size n = cond (n == number) size (size_at n)

-- the tree with a chunk more, of the next number
within-chunk : (size_at : ℕ → ℕ) (most done : ℕ) (state : TreeState) (size : ℕ) (owner : AllocId) → IsWithin size_at most done state
    → IsWithin (size_with size_at (state.drawn + 1) size) most (done + size)
    (record state { chunks = state.chunks ++ new_chunk (state.drawn + 1) size owner ∷ []; drawn = state.drawn + 1 })
within-chunk size_at most done state size owner h =
    let chunk = new_chunk (state.drawn + 1) size owner in
    let sizes = size_with size_at (state.drawn + 1) size in
    record {
      tree = h.tree;
      numbers = h.numbers;
      limits = h.limits;
      chunks = All-push (IsSized sizes (state.drawn + 1)) state.chunks chunk
          (All-weaker (IsSized size_at state.drawn) (IsSized sizes (state.drawn + 1)) (λ old sized. record {
            given = omega (arith, sized.given);
            size = sized.size ∙ sym (cond-false (old.number == state.drawn + 1) size (size_at old.number)
                (ne_eqb old.number (state.drawn + 1) (λ same. omega (arith, same, sized.given))));
          }) state.chunks h.chunks)
          (record {
            given = omega arith;
            size = sym (cond-true ((state.drawn + 1) == (state.drawn + 1)) size (size_at (state.drawn + 1))
                (eq-eqb (state.drawn + 1) (state.drawn + 1) refl));
          });
      sums = (let a = sum_by-append (λ (c : Chunk). c.size) state.chunks (chunk ∷ []) in
          let b = sum_by-cons (λ (c : Chunk). c.size) chunk [] in omega (arith, a, b, h.sums));
    }

-- a buffer
charge-fits : (size_at : ℕ → ℕ) (most done : ℕ) (state : TreeState) (request : Charge) (refusing : Option TreeNode)
    → refusing ≡ None → IsWithin size_at most done state → Fits most (done + request.amount) (answered ToGrant
    (record {
      answer = charge_answer state request refusing;
      state = after_charge state request refusing;
      samples = request_sample state.nodes (charges_in state) request ∷ [];
    }))
charge-fits size_at most done state request (Some level) none h = absurd cc
charge-fits size_at most done state request None none h = record {
  answer = refl;
  size_at = size_with size_at (state.drawn + 1) request.amount;
  after = within-chunk size_at most done state request.amount request.at h;
}

-- a request for a buffer
pub grant-fits : (size_at : ℕ → ℕ) (most done : ℕ) (state : TreeState) (at : AllocId) (request : ℕ) → IsWithin size_at most done state
    → done + rounded_size Power request ≤ most
    → Fits most (done + rounded_size Power request) (answered ToGrant (grant_result state at request))
unfolding grant_result
grant-fits size_at most done state at request h room =
    let size = rounded_size Power request in
    let P : CallResult (Result Ref BufferRefused) → Type 0 = λ result. Fits most (done + size) (answered ToGrant result) in
    let kept = later size_at most done size state h in
    cond_both (nat_lt LARGEST size) _ _ P (λ _. record { answer = refl; size_at = size_at; after = kept }) (λ _.
    cond_both (not (is_open state at.0)) _ _ P (λ _. record { answer = refl; size_at = size_at; after = kept }) (λ _.
    cond_both (size == 0) _ _ P (λ _. record { answer = refl; size_at = size_at; after = kept }) (λ _.
    charge-fits size_at most done state (record { at = at; amount = size })
    (refusing_level state.nodes (charges_in state) (record { at = at; amount = size }))
    (never-refused size_at most done state (record { at = at; amount = size }) h room) h)))

-- an allocator's number is spent
within-number : (size_at : ℕ → ℕ) (most done : ℕ) (state : TreeState) → IsWithin size_at most done state
    → IsWithin size_at most done (record state { next = state.next + 1 })
within-number size_at most done state h = record {
  tree = h.tree;
  numbers = All-weaker (λ (node : TreeNode). node.number.0 < state.next) (λ node. node.number.0 < state.next + 1)
      (λ node given. omega (arith, given)) state.nodes h.numbers;
  limits = h.limits;
  chunks = h.chunks;
  sums = h.sums;
}

-- a child more, of an open parent
within-child : (size_at : ℕ → ℕ) (most done : ℕ) (state : TreeState) (parent : AllocId) (reservation limit : ℕ)
    → IsWithin size_at most done state
    → is_open state parent.0 ≡ true → most ≤ limit → IsWithin size_at most (done + reservation)
    (record state { nodes = state.nodes ++ child_node state parent reservation limit ∷ []; next = state.next + 1 })
within-child size_at most done state parent reservation limit h open_ roomy =
    let child = child_node state parent reservation limit in
    record {
      tree = grown-tree state.nodes child parent h.tree refl open_ h.numbers;
      numbers = All-push (λ (node : TreeNode). node.number.0 < state.next + 1) state.nodes child
          (within-number size_at most done state h).numbers (omega arith);
      limits = All-push (λ (node : TreeNode). most ≤ node.limit) state.nodes child h.limits roomy;
      chunks = h.chunks;
      sums = (let a = sum_by-append (λ (node : TreeNode). node.reservation) state.nodes (child ∷ []) in
          let b = sum_by-cons (λ (node : TreeNode). node.reservation) child [] in omega (arith, a, b, h.sums));
    }

-- a child whose reservation no level refuses
made-fits : (size_at : ℕ → ℕ) (most done : ℕ) (state : TreeState) (parent : AllocId) (reservation limit : ℕ) (refusing : Option TreeNode)
    → refusing ≡ None → IsWithin size_at most done state → is_open state parent.0 ≡ true → most ≤ limit
    → Fits most (done + reservation) (answered ToChild (record {
      answer = child_answer state (record { at = parent; amount = reservation }) refusing;
      state = after_child state (child_node state parent reservation limit) refusing;
      samples = request_sample state.nodes (charges_in state) (record { at = parent; amount = reservation }) ∷ [];
    }))
made-fits size_at most done state parent reservation limit (Some level) none h open_ roomy = absurd cc
made-fits size_at most done state parent reservation limit None none h open_ roomy =
    record { answer = refl; size_at = size_at; after = within-child size_at most done state parent reservation limit h open_ roomy }

-- making a child
pub child-fits : (size_at : ℕ → ℕ) (most done : ℕ) (state : TreeState) (parent : AllocId) (reservation limit : ℕ)
    → IsWithin size_at most done state
    → done + reservation ≤ most → most ≤ limit
    → Fits most (done + reservation) (answered ToChild (child_result state parent reservation limit))
unfolding child_result
child-fits size_at most done state parent reservation limit h room roomy =
    let request : Charge = record { at = parent; amount = reservation } in
    let P : CallResult (Result AllocId ChildRefused) → Type 0 = λ result. Fits most (done + reservation) (answered ToChild result) in
    let kept = later size_at most done reservation state h in
    cond_both (nat_lt limit reservation) _ _ P (λ _. record { answer = refl; size_at = size_at; after = kept }) (λ _.
    cond_both (not (is_open state parent.0)) _ _ P (λ _. record { answer = refl; size_at = size_at; after = kept }) (λ open_.
    cond_both (nat_le MOST_ALLOCATORS state.next) _ _ P
    (λ _. record { answer = refl; size_at = size_at; after = within-number size_at most (done + reservation) state kept }) (λ _.
    made-fits size_at most done state parent reservation limit (refusing_level state.nodes (charges_in state) request)
    (never-refused size_at most done state request h room) h (not-false (is_open state parent.0) open_) roomy)))
