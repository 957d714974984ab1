-- What calls do to the count of calls, and to what it covers.
use Rattle.std.proofs.Common.{◌≡◌, ℕ, ◌+◌, ◌≤◌, ◌==◌, nat_lt, not, All, Bool, true, List, [], Option, Some, None, Result, Ok, Err, refl}
use Rattle.std.proofs.Common.{sym, ap, subst, ◌∙◌, arith}
use Rattle.std.specs.Option.{option_map_or}
use Rattle.std.proofs.lemmas.Bool.{cond_both}
use Rattle.std.proofs.lemmas.List.Sums.{get_or-le-sum_by, sum_by_push}
use Rattle.mem_num.specs.declared.alloc_id.AllocId.{AllocId}
use Rattle.mem_num.specs.declared.buffer_ref.Ref.{Ref}
use Rattle.mem_num.specs.declared.buffer_refused.BufferRefused.{BufferRefused}
use Rattle.mem_num.specs.declared.child_refused.ChildRefused.{ChildRefused}
use Rattle.mem_num.specs.declared.not_closed.NotClosed.{NotClosed}
use Rattle.mem_num.specs.declared.released.Released.{Released}
use Rattle.mem_num.specs.declared.solo_refused.SoloRefused.{SoloRefused}
use Rattle.mem_model.specs.declared.charge.Charge.{Charge}
use Rattle.mem_model.specs.declared.tree_node.TreeNode.{TreeNode}
use Rattle.mem_model.specs.Calls.{TreeCall, Child, Close, Grant, Retain, Transfer, Release, after_call, one_if_ok, granted_by, given_by}
use Rattle.mem_model.specs.Calls.{references_in}
use Rattle.mem_model.specs.Child.{child_result}
use Rattle.mem_model.specs.Chunk.{Chunk, chunk_at, new_chunk, references_of}
use Rattle.mem_model.specs.Close.{close_result, with_closed}
use Rattle.mem_model.specs.Grant.{after_charge, charge_result, grant_result}
use Rattle.mem_model.specs.LawfulState.{IsLawfulState}
use Rattle.mem_model.specs.MeasuredTree.{MeasuredTree}
use Rattle.mem_model.specs.References.{HasRoomFor, referred_chunk, released_at}
use Rattle.mem_model.specs.Release.{release_from, release_result}
use Rattle.mem_model.specs.Request.{refusing_level}
use Rattle.mem_model.specs.Retain.{retain_result}
use Rattle.mem_model.specs.Transfer.{moves_charge, transfer_result}
use Rattle.mem_model.specs.TreeState.{TreeState, CallResult, charges_in, is_open, uses_of, unchanged}
use Rattle.mem_model.proofs.CallBalanceLemmas.{references-call}
use Rattle.mem_model.proofs.ChunkSumLemmas.{sum_by-with_chunk}
use Rattle.mem_model.proofs.DrawnLemmas.{call_draws}
use Rattle.mem_model.proofs.ReferenceLemmas.{found}
use Rattle.mem_model.proofs.ReferenceSumLemmas.{total_on}
use Rattle.alloc_tree.specs.declared.row.Row.{Row}
use Rattle.alloc_tree.specs.declared.solo_tree.SoloTree.TheInside.{Inside}
use Rattle.alloc_tree.specs.Counting.{CountsCalls, HasCallsLeft, count_after}
use Rattle.alloc_tree.specs.Fields.{IsCountedSolo, state_with, tree_of}
use Rattle.alloc_tree.specs.TakeOver.{taken_over, take_over_from, take_over_result}
use Rattle.alloc_tree.proofs.DoneLemmas.{IsDone, numbered_lawful}

-- a chunk has no more references than there are, so while calls are left there is room for one more
pub room_left : (tree : MeasuredTree) → CountsCalls tree → HasCallsLeft tree → (of : Ref) → HasRoomFor tree.state of
room_left tree counts left of chunk is =
    let few : All (λ (c : Chunk). total_on c ≤ references_in tree.state) tree.state.chunks =
    λ k d within. get_or-le-sum_by total_on tree.state.chunks k d within in
    let its = (found (λ (c : Chunk). total_on c ≤ references_in tree.state) (λ c. c.number == of.chunk) tree.state.chunks chunk few is).0 in
    omega (arith, left, its, counts.references (omega (arith, left)))

-- a tree with at most so many numbers of each kind and references more
pub record AddsAtMost (count : ℕ) (old new : TreeState) : Type 0 where
  pub drawn : new.drawn ≤ old.drawn + count
  pub next : new.next ≤ old.next + count
  pub references : references_in new ≤ references_in old + count

-- a call gives at most one reference
granted_few : (answer : Result Ref BufferRefused) → granted_by answer ≤ 1
granted_few (Ok given) = cond_both (given.size == 0) 0 1 (λ n. n ≤ 1) (λ _. omega arith) (λ _. omega arith)
granted_few (Err refused) = omega arith

one_few : {A E : Type 0} (answer : Result A E) → one_if_ok answer ≤ 1
one_few (Ok given) = omega arith
one_few (Err refused) = omega arith

given_few : (state : TreeState) (call : TreeCall) → given_by state call ≤ 1
given_few state (Child parent reservation limit) = omega arith
given_few state (Close at) = omega arith
given_few state (Grant at request) = granted_few (grant_result state at request).answer
given_few state (Retain of target) = one_few (retain_result state of target).answer
given_few state (Transfer of target) = one_few (transfer_result state of target).answer
given_few state (Release of) = omega arith

-- so it adds at most one of each
call_adds : (state : TreeState) (call : TreeCall) → IsLawfulState state → AddsAtMost 1 state (after_call state call)
call_adds state call lawful =
    let draws = call_draws state call in
    record {
      drawn = draws.chunks;
      next = draws.allocators;
      references = omega (arith, references-call state call lawful, given_few state call);
    }

-- a charge draws a number, and a chunk that it makes has one reference
charge_adds : (state : TreeState) (request : Charge) (refusing : Option TreeNode) → AddsAtMost 1 state (after_charge state request refusing)
charge_adds state request None = record {
  drawn = omega arith;
  next = omega arith;
  references = omega (arith, sum_by_push total_on state.chunks (new_chunk (state.drawn + 1) request.amount request.at));
}
charge_adds state request (Some level) = record { drawn = omega arith; next = omega arith; references = omega arith }

charge_result_adds : (state : TreeState) (request : Charge) → AddsAtMost 1 state (charge_result state request).state
charge_result_adds state request = charge_adds state request (refusing_level state.nodes (charges_in state) request)

-- a closing adds none
close_adds : (state : TreeState) (at : AllocId) → AddsAtMost 0 state (close_result state at).state
unfolding close_result
close_adds state at =
    let P : CallResult (Result (Unit {0}) NotClosed) → Type 0 = λ result. AddsAtMost 0 state result.state in
    let none : (nodes : List TreeNode) → AddsAtMost 0 state (record state { nodes = nodes }) =
    λ nodes. record { drawn = omega arith; next = omega arith; references = omega arith } in
    cond_both (not (is_open state at.0)) _ _ P (λ _. none state.nodes) (λ _.
    cond_both (nat_lt 0 (uses_of state at.0)) _ _ P (λ _. none state.nodes) (λ _. none (with_closed at.0 state.nodes)))

-- nor does a release
released_by : (state : TreeState) (of : Ref) (found : Option Chunk)
    → references_in (option_map_or (release_from state of) found (unchanged state (Err (released_at of)))).state ≤ references_in state
    → AddsAtMost 0 state (option_map_or (release_from state of) found (unchanged state (Err (released_at of)))).state
released_by state of None fewer = record { drawn = omega arith; next = omega arith; references = omega arith }
released_by state of (Some chunk) fewer = record { drawn = omega arith; next = omega arith; references = omega (arith, fewer) }

release_adds : (state : TreeState) (of : Ref) → IsLawfulState state → AddsAtMost 0 state (release_result state of).state
unfolding release_result
release_adds state of lawful =
    let fewer : references_in (release_result state of).state ≤ references_in state =
    omega (arith, references-call state (Release of) lawful) in
    released_by state of (referred_chunk state of) fewer

-- nor does taking over, which changes the owner alone
taken_adds : (state : TreeState) (target : AllocId) (chunk : Chunk) → IsLawfulState state → chunk_at state.chunks chunk.number ≡ Some chunk
    → AddsAtMost 0 state (taken_over state target chunk).state
taken_adds state target chunk lawful is = record {
  drawn = omega arith;
  next = omega arith;
  references = omega (
    arith,
    sum_by-with_chunk total_on chunk.number (record chunk { owner = target }) chunk state.chunks refl
        lawful.in_order is,
  );
}

take_over_found : (state : TreeState) (of : Ref) (target : AllocId) (found : Option Chunk) → IsLawfulState state
    → chunk_at state.chunks of.chunk ≡ found
    → AddsAtMost 0 state (option_map_or (take_over_from state of.alloc target) found (unchanged state true)).state
take_over_found state of target None lawful is = record { drawn = omega arith; next = omega arith; references = omega arith }
take_over_found state of target (Some chunk) lawful is =
    let number = (numbered_lawful of.chunk chunk lawful is).1 in
    cond_both (moves_charge of.alloc target chunk) _ _ (λ (result : CallResult Bool). AddsAtMost 0 state result.state)
    (λ _. taken_adds state target chunk lawful (ap (chunk_at state.chunks) number ∙ is))
    (λ _. record { drawn = omega arith; next = omega arith; references = omega arith })

take_over_adds : (state : TreeState) (of : Ref) (target : AllocId) → IsLawfulState state
    → AddsAtMost 0 state (take_over_result state of target).state
take_over_adds state of target lawful = take_over_found state of target (chunk_at state.chunks of.chunk) lawful refl

-- a tree with its root alone has no chunk, and the root had its number from the start
pub opened_counts : (peaks : List ℕ) (rows : List (Option Row)) (chunks : List Chunk) → chunks ≡ []
    → CountsCalls (record { state = state_with rows chunks 1 0; peaks = peaks; calls = 0 })
opened_counts peaks rows chunks none = record {
  drawn = λ few. omega arith;
  next = λ few. omega arith;
  references = λ few. omega (arith, ap references_of none);
}

-- a count covers what a counted call adds, and what an uncounted one leaves
covers_counted : (old new : MeasuredTree) → CountsCalls old → AddsAtMost 1 old.state new.state → new.calls ≡ count_after old.calls 1
    → CountsCalls new
covers_counted old new counts adds counted = record {
  drawn = λ few. omega (arith, counted, few, adds.drawn, counts.drawn (omega (arith, counted, few)));
  next = λ few. omega (arith, counted, few, adds.next, counts.next (omega (arith, counted, few)));
  references = λ few. omega (arith, counted, few, adds.references, counts.references (omega (arith, counted, few)));
}

covers_uncounted : (old new : MeasuredTree) → CountsCalls old → AddsAtMost 0 old.state new.state → new.calls ≡ old.calls → CountsCalls new
covers_uncounted old new counts adds same = record {
  drawn = λ few. omega (arith, same, adds.drawn, counts.drawn (omega (arith, same, few)));
  next = λ few. omega (arith, same, adds.next, counts.next (omega (arith, same, few)));
  references = λ few. omega (arith, same, adds.references, counts.references (omega (arith, same, few)));
}

-- the tree that is seen is lawful
lawful_seen : {f : Inside} {tree : MeasuredTree} → IsCountedSolo f → tree_of f ≡ tree → IsLawfulState tree.state
lawful_seen whole view = subst (λ (t : MeasuredTree). IsLawfulState t.state) view whole.sound.lawful

-- the tree that a call leaves is counted as the one before
module _ {f : Inside} {tree : MeasuredTree} (whole : IsCountedSolo f) (view : tree_of f ≡ tree) {new : Inside} where
  counted : {A : Type 0} {call : CallResult A} {answer : A} → AddsAtMost 1 tree.state call.state → IsDone tree call new answer
      → new.calls ≡ count_after f.calls 1 → IsCountedSolo new
  counted adds is one = record {
    sound = is.sound;
    counts = covers_counted tree (tree_of new) (subst CountsCalls view whole.counts)
        (subst (AddsAtMost 1 tree.state) (sym is.after.state) adds)
        (one ∙ ap (λ (t : MeasuredTree). count_after t.calls 1) view);
  }

  uncounted : {A : Type 0} {call : CallResult A} {answer : A} → AddsAtMost 0 tree.state call.state → IsDone tree call new answer
      → new.calls ≡ f.calls → IsCountedSolo new
  uncounted adds is same = record {
    sound = is.sound;
    counts = covers_uncounted tree (tree_of new) (subst CountsCalls view whole.counts)
        (subst (AddsAtMost 0 tree.state) (sym is.after.state) adds)
        (same ∙ ap (λ (t : MeasuredTree). t.calls) view);
  }

  pub child_counted : (parent : AllocId) (reservation limit : ℕ) {answer : Result AllocId ChildRefused}
      → IsDone tree (child_result tree.state parent reservation limit) new answer → new.calls ≡ count_after f.calls 1 → IsCountedSolo new
  child_counted parent reservation limit = counted (call_adds tree.state (Child parent reservation limit) (lawful_seen whole view))

  pub charge_counted : (request : Charge) {answer : Result Ref BufferRefused} → IsDone tree (charge_result tree.state request) new answer
      → new.calls ≡ count_after f.calls 1 → IsCountedSolo new
  charge_counted request = counted (charge_result_adds tree.state request)

  pub retain_counted : (of : Ref) (target : AllocId) {answer : Result Ref SoloRefused}
      → IsDone tree (retain_result tree.state of target) new answer → new.calls ≡ count_after f.calls 1 → IsCountedSolo new
  retain_counted of target = counted (call_adds tree.state (Retain of target) (lawful_seen whole view))

  pub close_uncounted : (at : AllocId) {answer : Result (Unit {0}) NotClosed} → IsDone tree (close_result tree.state at) new answer
      → new.calls ≡ f.calls → IsCountedSolo new
  close_uncounted at = uncounted (close_adds tree.state at)

  pub release_uncounted : (of : Ref) {answer : Result Bool Released} → IsDone tree (release_result tree.state of) new answer
      → new.calls ≡ f.calls → IsCountedSolo new
  release_uncounted of = uncounted (release_adds tree.state of (lawful_seen whole view))

  pub take_over_uncounted : (of : Ref) (target : AllocId) {answer : Bool} → IsDone tree (take_over_result tree.state of target) new answer
      → new.calls ≡ f.calls → IsCountedSolo new
  take_over_uncounted of target = uncounted (take_over_adds tree.state of target (lawful_seen whole view))
