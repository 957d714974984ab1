-- How many numbers a call draws, and how many references it adds to a chunk: at most one.
use Rattle.std.proofs.Common.{◌≡◌, ℕ, ◌+◌, ◌-◌, ◌≤◌, List, [], ◌∷◌, length, get_or, Bool, true, false, not, Option, Some, None, refl, subst, sym, arith, if◌then◌else◌, Result, Ok, Err}
use Rattle.std.specs.Bool.{◌==◌, nat_lt, nat_le}
use Rattle.std.specs.Option.{option_map_or}
use Rattle.std.proofs.lemmas.Bool.{cond_both}
use Rattle.std.proofs.lemmas.List.Elements.{All-push, All-map, All-filter}
use Rattle.mem_num.specs.declared.buffer_refused.BufferRefused.TheVariants as buffer
use Rattle.mem_num.specs.declared.child_refused.ChildRefused.{ChildRefused}
use Rattle.mem_num.specs.declared.child_refused.ChildRefused.TheVariants.{ReserveAboveLimit, Closed, Nodes}
use Rattle.mem_num.specs.declared.not_closed.NotClosed.{NotClosed}
use Rattle.mem_num.specs.declared.not_closed.NotClosed.TheVariants.{InUse, Closed as NotClosedAgain}
use Rattle.mem_num.specs.declared.solo_refused.SoloRefused.TheVariants.{Released as RefusedRelease, Closed as RefusedTarget}
use Rattle.mem_num.specs.Rounded.{rounded_size}
use Rattle.mem_num.specs.declared.bounds.TheConstants.{LARGEST, MOST_ALLOCATORS}
use Rattle.mem_num.specs.declared.rounding.Rounding.TheVariants.{Power}
use Rattle.mem_num.specs.declared.alloc_id.AllocId.{AllocId}
use Rattle.mem_num.specs.declared.buffer_ref.Ref.{Ref}
use Rattle.mem_model.specs.declared.charge.Charge.{Charge}
use Rattle.mem_model.specs.declared.tree_node.TreeNode.{TreeNode}
use Rattle.mem_model.specs.Calls.{TreeCall, Child, Close, Grant, Retain, Transfer, Release, after_call, state_after}
use Rattle.mem_model.specs.Chunk.{Chunk, has_ledger, in_place_of, new_chunk, released, retained, with_chunk}
use Rattle.mem_model.specs.Ledgers.{count_of, total_of}
use Rattle.mem_model.specs.References.{referred_chunk, released_at}
use Rattle.mem_model.specs.TreeState.{TreeState, CallResult, unchanged, is_open, uses_of, closed_at}
use Rattle.mem_model.specs.Child.{after_child, child_result, made_result}
use Rattle.mem_model.specs.Close.{close_result, with_closed}
use Rattle.mem_model.specs.DrawnNumbers.{DrawsNumbers, HaveReferences}
use Rattle.mem_model.specs.Grant.{after_charge, charge_result, grant_result}
use Rattle.mem_model.specs.Release.{after_release, release_from, release_result, without_chunk}
use Rattle.mem_model.specs.Retain.{retain_from, retain_result}
use Rattle.mem_model.specs.Transfer.{kept_result, moved_result, moves_charge, transfer_from, transfer_result}
use Rattle.mem_model.proofs.LedgerTotalLemmas.{changed_total}
use Rattle.mem_model.proofs.ReferenceLemmas.{found}

-- what draws at most some numbers either way does
either : {A : Type 0} (state : TreeState) (count : ℕ) (b : Bool) (x y : CallResult A)
    → DrawsNumbers state x.state count → DrawsNumbers state y.state count → DrawsNumbers state (if b then x else y).state count
either state count true x y px py = px
either state count false x y px py = py

-- chunks with so many references have no more than some more
more_references : (n count : ℕ) (chunks : List Chunk) → HaveReferences n chunks → HaveReferences (n + count) chunks
more_references n count chunks few = λ k d within. omega (arith, few k d within)

-- a tree in which no number was drawn, and with the same chunks
draws_none : (state new : TreeState) (count : ℕ) → new.drawn ≡ state.drawn → new.next ≡ state.next → new.chunks ≡ state.chunks
    → DrawsNumbers state new count
draws_none state new count drawn next same = record {
  chunks = omega (arith, drawn);
  allocators = omega (arith, next);
  references = λ n few. subst (HaveReferences (n + count)) (sym same) (more_references n count state.chunks few);
}

-- nothing changed
pub draws_nothing : (state : TreeState) (count : ℕ) → DrawsNumbers state state count
draws_nothing state count = draws_none state state count refl refl refl

-- a number of an allocator was drawn
draws_allocator : (state new : TreeState) → new.drawn ≡ state.drawn → new.next ≡ state.next + 1 → new.chunks ≡ state.chunks → DrawsNumbers state new 1
draws_allocator state new drawn next same = record {
  chunks = omega (arith, drawn);
  allocators = omega (arith, next);
  references = λ n few. subst (HaveReferences (n + 1)) (sym same) (more_references n 1 state.chunks few);
}

-- a child that was drawn has drawn a number, refused or not
after_child_draws : (state : TreeState) (child : TreeNode) (refusing : Option TreeNode)
    → DrawsNumbers state (after_child state child refusing) 1
after_child_draws state child None = draws_allocator state (after_child state child None) refl refl refl
after_child_draws state child (Some level) = draws_allocator state (after_child state child (Some level)) refl refl refl

-- so has a charge, and its chunk has one reference
after_charge_draws : (state : TreeState) (request : Charge) (refusing : Option TreeNode)
    → DrawsNumbers state (after_charge state request refusing) 1
after_charge_draws state request None = record {
  chunks = omega arith;
  allocators = omega arith;
  references = λ n few. All-push (λ chunk. total_of chunk.ledgers ≤ n + 1) state.chunks (new_chunk (state.drawn + 1) request.amount request.at) (more_references n 1 state.chunks few) (omega arith);
}
after_charge_draws state request (Some level) = record {
  chunks = omega arith;
  allocators = omega arith;
  references = λ n few. more_references n 1 state.chunks few;
}

-- a child draws at most one number
pub child_draws : (state : TreeState) (at : AllocId) (reservation limit : ℕ)
    → DrawsNumbers state (child_result state at reservation limit).state 1
unfolding child_result
child_draws state at reservation limit =
    let past : CallResult (Result AllocId ChildRefused) =
    record { answer = Err (Nodes state.next); state = record state { next = state.next + 1 }; samples = [] } in
    let same = draws_nothing state 1 in
    let drawn : DrawsNumbers state past.state 1 = draws_allocator state past.state refl refl refl in
    let made = made_result state at reservation limit in
    let numbered = either state 1 (nat_le MOST_ALLOCATORS state.next) past made drawn (after_child_draws state _ _) in
    let opened = either state 1 (not (is_open state at.0)) (unchanged state (Err (Closed (closed_at at)))) _ same numbered in
    either state 1 (nat_lt limit reservation) (unchanged state (Err (ReserveAboveLimit reservation limit))) _ same opened

-- so does a request for a buffer
pub grant_draws : (state : TreeState) (at : AllocId) (request : ℕ) → DrawsNumbers state (grant_result state at request).state 1
unfolding grant_result
grant_draws state at request =
    let size = rounded_size Power request in
    let same = draws_nothing state 1 in
    let empty = unchanged state (Ok (record { chunk = 0; alloc = at; size = 0 })) in
    let charged = charge_result state (record { at = at; amount = size }) in
    let some = either state 1 (size == 0) empty charged same (after_charge_draws state _ _) in
    let opened = either state 1 (not (is_open state at.0)) (unchanged state (Err (buffer.Closed (closed_at at)))) _ same some in
    either state 1 (nat_lt LARGEST size) (unchanged state (Err (buffer.TooLarge (record { request = request })))) _ same opened

-- closing draws none
pub close_draws : (state : TreeState) (at : AllocId) → DrawsNumbers state (close_result state at).state 1
unfolding close_result
close_draws state at =
    let same = draws_nothing state 1 in
    let closed : CallResult (Result (Unit {0}) NotClosed) =
    record { answer = Ok tt; state = record state { nodes = with_closed at.0 state.nodes }; samples = [] } in
    let in_use = unchanged state (Err (InUse (uses_of state at.0))) in
    let used = either state 1 (nat_lt 0 (uses_of state at.0)) in_use closed same (draws_none state closed.state 1 refl refl refl) in
    either state 1 (not (is_open state at.0)) (unchanged state (Err (NotClosedAgain 0))) _ same used

-- chunks where one that has few references stands in another's place
replaced_references : (n : ℕ) (new : Chunk) (chunks : List Chunk) → total_of new.ledgers ≤ n → HaveReferences n chunks → HaveReferences n (with_chunk new chunks)
replaced_references n new chunks few all =
    All-map (λ (chunk : Chunk). total_of chunk.ledgers ≤ n) (in_place_of new) chunks (λ k d within.
    cond_both ((get_or chunks k d).number == new.number) new (get_or chunks k d) (λ chunk. total_of chunk.ledgers ≤ n) (λ _. few) (λ _. all k d within))

-- the chunk of a reference is among the chunks
referred_few : (state : TreeState) (of : Ref) (chunk : Chunk) (n : ℕ) → referred_chunk state of ≡ Some chunk → HaveReferences n state.chunks → total_of chunk.ledgers ≤ n
referred_few state of chunk n is few = (found (λ (c : Chunk). total_of c.ledgers ≤ n) _ state.chunks chunk few is).0

-- a chunk with a reference more in the place of the one that a reference is to
retained_draws : (state : TreeState) (of : Ref) (chunk new : Chunk) → referred_chunk state of ≡ Some chunk → total_of new.ledgers ≤ total_of chunk.ledgers + 1 → DrawsNumbers state (record state { chunks = with_chunk new state.chunks }) 1
retained_draws state of chunk new is one = record {
  chunks = omega arith;
  allocators = omega arith;
  references = λ n few. replaced_references (n + 1) new state.chunks (omega (arith, one, referred_few state of chunk n is few)) (more_references n 1 state.chunks few);
}

-- a reference more is one
retained_total : (chunk : Chunk) (target : ℕ) → total_of (retained target chunk).ledgers ≤ total_of chunk.ledgers + 1
retained_total chunk target = omega (arith, changed_total chunk.ledgers target (count_of chunk.ledgers target + 1))

-- retaining adds at most one
retain_some : (state : TreeState) (of : Ref) (target : AllocId) (chunk : Option Chunk) → referred_chunk state of ≡ chunk
    → DrawsNumbers state (option_map_or (retain_from state target) chunk (unchanged state (Err (RefusedRelease (released_at of))))).state 1
retain_some state of target None is = draws_nothing state 1
retain_some state of target (Some chunk) is =
    either state 1 (not (is_open state target.0)) (unchanged state (Err (RefusedTarget (closed_at target)))) _ (draws_nothing state 1)
    (retained_draws state of chunk (retained target.0 chunk) is (retained_total chunk target.0))

pub retain_draws : (state : TreeState) (of : Ref) (target : AllocId) → DrawsNumbers state (retain_result state of target).state 1
unfolding retain_result
retain_draws state of target = retain_some state of target (referred_chunk state of) refl

-- and so does transferring
transfer_some : (state : TreeState) (of : Ref) (target : AllocId) (chunk : Option Chunk) → referred_chunk state of ≡ chunk
    → DrawsNumbers state (option_map_or (transfer_from state of.alloc target) chunk (unchanged state (Err (RefusedRelease (released_at of))))).state 1
transfer_some state of target None is = draws_nothing state 1
transfer_some state of target (Some chunk) is =
    let more = retained_total chunk target.0 in
    either state 1 (not (is_open state target.0)) (unchanged state (Err (RefusedTarget (closed_at target)))) _ (draws_nothing state 1)
    (either state 1 (moves_charge of.alloc target chunk) (moved_result state target chunk) (kept_result state target chunk)
    (retained_draws state of chunk (record (retained target.0 chunk) { owner = target }) is more)
    (retained_draws state of chunk (retained target.0 chunk) is more))

pub transfer_draws : (state : TreeState) (of : Ref) (target : AllocId) → DrawsNumbers state (transfer_result state of target).state 1
unfolding transfer_result
transfer_draws state of target = transfer_some state of target (referred_chunk state of) refl

-- a release leaves fewer
released_few : (n : ℕ) (left : Chunk) (chunks : List Chunk) → total_of left.ledgers ≤ n → HaveReferences n chunks → HaveReferences n (after_release left chunks)
released_few n left chunks few all =
    cond_both (has_ledger left.owner.0 left) (with_chunk left chunks) (without_chunk left.number chunks) (HaveReferences n)
    (λ _. replaced_references n left chunks few all) (λ _. All-filter (λ (chunk : Chunk). not (chunk.number == left.number)) (λ chunk. total_of chunk.ledgers ≤ n) chunks all)

release_some : (state : TreeState) (of : Ref) (chunk : Option Chunk) → referred_chunk state of ≡ chunk
    → DrawsNumbers state (option_map_or (release_from state of) chunk (unchanged state (Err (released_at of)))).state 1
release_some state of None is = draws_nothing state 1
release_some state of (Some chunk) is = record {
  chunks = omega arith;
  allocators = omega arith;
  references = λ n few. released_few (n + 1) (released of.alloc.0 chunk) state.chunks
      (omega (arith, referred_few state of chunk n is few, changed_total chunk.ledgers of.alloc.0 (count_of chunk.ledgers of.alloc.0 - 1)))
      (more_references n 1 state.chunks few);
}

pub release_draws : (state : TreeState) (of : Ref) → DrawsNumbers state (release_result state of).state 1
unfolding release_result
release_draws state of = release_some state of (referred_chunk state of) refl

-- what some calls draw, and some more
pub draws-more : (old tree new : TreeState) (calls more : ℕ)
    → DrawsNumbers old tree calls → DrawsNumbers tree new more → DrawsNumbers old new (calls + more)
draws-more old tree new calls more first last = record {
  chunks = omega (arith, first.chunks, last.chunks);
  allocators = omega (arith, first.allocators, last.allocators);
  references = λ n few k d within. omega (arith, last.references (n + calls) (first.references n few) k d within);
}

-- a call of any kind draws at most one
pub call_draws : (state : TreeState) (call : TreeCall) → DrawsNumbers state (after_call state call) 1
call_draws state (Child parent reservation limit) = child_draws state parent reservation limit
call_draws state (Close at) = close_draws state at
call_draws state (Grant at request) = grant_draws state at request
call_draws state (Retain of target) = retain_draws state of target
call_draws state (Transfer of target) = transfer_draws state of target
call_draws state (Release of) = release_draws state of

-- and calls one after the other at most as many as they are
pub calls_draw : (state : TreeState) (calls : List TreeCall) → DrawsNumbers state (state_after state calls) (length calls)
calls_draw state [] = draws_nothing state 0
calls_draw state (call ∷ calls) =
    let after = after_call state call in
    subst (DrawsNumbers state (state_after after calls)) (omega arith)
    (draws-more state after (state_after after calls) 1 (length calls) (call_draws state call) (calls_draw after calls))
