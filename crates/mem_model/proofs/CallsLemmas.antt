-- What holds after any list of calls.
use Rattle.std.proofs.Common.{◌≡◌, ◌≢◌, ℕ, ◌+◌, ◌≤◌, List, [], ◌∷◌, get_or, true, not, refl, sym, ap, ◌∙◌, arith, All, AllPairs}
use Rattle.std.specs.List.{sum_by, count_by}
use Rattle.std.proofs.lemmas.Bool.{and_parts, not-true, both_ways, true≢false, false_from_ne_true}
use Rattle.std.proofs.lemmas.List.{append-nil, get_or_default}
use Rattle.std.proofs.lemmas.List.Elements.{All-head, All-tail}
use Rattle.std.proofs.lemmas.List.Folds.{list_any-from_Any}
use Rattle.std.proofs.lemmas.List.Sums.{sum_by-cons}
use Rattle.mem_num.specs.declared.bounds.TheConstants.{MAX_LIMIT}
use Rattle.mem_model.specs.Calls.{TreeCall, Child, Close, Grant, Retain, Transfer, Release, after_call, state_after, IsBoundedCall, AreBoundedCalls, references_given, references_returned, references_in, HasOpenOwner, HasRootAlone, IsEmptyTree}
use Rattle.mem_model.specs.Charge.{charged_at}
use Rattle.mem_model.specs.Chunk.{Chunk, charges_of, has_ledger}
use Rattle.mem_model.specs.Ledgers.{total_of}
use Rattle.mem_model.specs.LawfulChunk.{IsLawfulChunk}
use Rattle.mem_model.specs.LawfulState.{IsLawfulState}
use Rattle.mem_model.specs.TreeNode.{is_number, is_open_child}
use Rattle.mem_model.specs.TreeState.{TreeState, opened, charges_in, is_open, held_at, ledgers_of, children_of}
use Rattle.mem_model.specs.Held.{held_of}
use Rattle.mem_model.proofs.HeldLemmas.{HasNoChild, held_of-append}
use Rattle.mem_model.proofs.LawfulCallLemmas.{lawful-grant, lawful-child, lawful-close_call}
use Rattle.mem_model.proofs.LawfulReferenceLemmas.{lawful-retain_call, lawful-transfer_call, lawful-release_call}
use Rattle.mem_model.proofs.LawfulLemmas.{opened_lawful}
use Rattle.mem_model.proofs.LedgerCountLemmas.{count_of-le-total_of}
use Rattle.mem_model.proofs.OpenLemmas.{is_open_at, open_from, count_none}
use Rattle.mem_model.proofs.CallBalanceLemmas.{references-call}
use Rattle.mem_model.proofs.ReferenceLemmas.{owner_open}

-- a call within bounds keeps the law
pub lawful-after_call : (state : TreeState) (call : TreeCall) → IsLawfulState state → IsBoundedCall call → IsLawfulState (after_call state call)
lawful-after_call state (Child parent reservation limit) h bounded = lawful-child state parent reservation limit h bounded.0 bounded.1
lawful-after_call state (Close at) h bounded = lawful-close_call state at h
lawful-after_call state (Grant at request) h bounded = lawful-grant state at request h
lawful-after_call state (Retain of target) h bounded = lawful-retain_call state of target h
lawful-after_call state (Transfer of target) h bounded = lawful-transfer_call state of target h
lawful-after_call state (Release of) h bounded = lawful-release_call state of h

-- so do calls one after the other
lawful-state_after : (state : TreeState) (calls : List TreeCall) → IsLawfulState state → AreBoundedCalls calls → IsLawfulState (state_after state calls)
lawful-state_after state [] h bounded = h
lawful-state_after state (call ∷ calls) h bounded =
    lawful-state_after (after_call state call) calls (lawful-after_call state call h (All-head IsBoundedCall call calls bounded)) (All-tail IsBoundedCall call calls bounded)

-- and what calls reach from an opening is lawful
pub lawful-reached : (limit : ℕ) (calls : List TreeCall) → limit ≤ MAX_LIMIT → AreBoundedCalls calls → IsLawfulState (state_after (opened limit) calls)
lawful-reached limit calls limited bounded = lawful-state_after (opened limit) calls (opened_lawful limit limited) bounded

-- there each chunk has an open owner
pub owned-reached : (limit : ℕ) (calls : List TreeCall) → limit ≤ MAX_LIMIT → AreBoundedCalls calls → All (HasOpenOwner (state_after (opened limit) calls)) (state_after (opened limit) calls).chunks
owned-reached limit calls limited bounded k d within =
    let state = state_after (opened limit) calls in
    let lawful = (lawful-reached limit calls limited bounded).chunks k d within in
    record { open_ = owner_open state (get_or state.chunks k d) lawful; refers = lawful.owner }

-- and numbers differ
pub numbers-reached : (limit : ℕ) (calls : List TreeCall) → limit ≤ MAX_LIMIT → AreBoundedCalls calls → AllPairs (λ (one other : Chunk). one.number ≢ other.number) (state_after (opened limit) calls).chunks
numbers-reached limit calls limited bounded i j d lt within same =
    omega (arith, (lawful-reached limit calls limited bounded).in_order i j d lt within, same)

-- the balance of references of calls one after the other
pub references-calls : (state : TreeState) (calls : List TreeCall) → IsLawfulState state → AreBoundedCalls calls → references_in state + references_given state calls ≡ references_in (state_after state calls) + references_returned state calls
references-calls state [] h bounded = refl
references-calls state (call ∷ calls) h bounded =
    omega (
      arith,
      references-call state call h,
      references-calls (after_call state call) calls (lawful-after_call state call h (All-head IsBoundedCall call calls bounded)) (All-tail IsBoundedCall call calls bounded),
    )

-- lawful chunks have references, so where there is none, there is no chunk
no_chunks : (state : TreeState) (chunks : List Chunk) → All (IsLawfulChunk (is_open state)) chunks → sum_by (λ chunk. total_of chunk.ledgers) chunks ≡ 0 → chunks ≡ []
no_chunks state [] lawful none = refl
no_chunks state (chunk ∷ chunks) lawful none = absurd (omega (
  arith,
  none,
  sum_by-cons (λ (x : Chunk). total_of x.ledgers) chunk chunks,
  (All-head (IsLawfulChunk (is_open state)) chunk chunks lawful).owner,
  count_of-le-total_of chunk.ledgers chunk.owner.0,
))

-- where no allocator is open but the root, it has no open child
no_child : (state : TreeState) → IsLawfulState state → HasRootAlone state → HasNoChild 0 state.nodes
no_child state h alone k d within =
    let node = get_or state.nodes k d in
    false_from_ne_true (is_open_child 0 node) (λ child.
    let parts = and_parts (is_number 0 node.parent) (not node.closed) child in
    let open_ : is_open state node.number.0 ≡ true =
    list_any-from_Any (is_open_at node.number.0) state.nodes (k, node, within, get_or_default state.nodes k node d within, open_from node.number.0 node refl (not-true node.closed parts.1)) in
    let below : node.number.0 ≢ 0 = λ root. true≢false (sym parts.0 ∙ ap (is_number 0) ((h.tree.root k d within).1 root)) in
    both_ways (is_open state node.number.0) (alone node.number.0 below) open_)

-- a tree without references and without children is empty
pub empty-tree : (state : TreeState) → IsLawfulState state → references_in state ≡ 0 → HasRootAlone state → IsEmptyTree state
empty-tree state h none alone =
    let gone : state.chunks ≡ [] = no_chunks state state.chunks h.chunks none in
    let childless : HasNoChild 0 state.nodes = no_child state h alone in
    let own : held_at state 0 ≡ charged_at (charges_in state) 0 = ap (λ nodes. held_of nodes (charges_in state) 0) (sym (append-nil state.nodes)) ∙ held_of-append state.nodes [] (charges_in state) 0 childless in
    let ledgers : ledgers_of state 0 ≡ 0 = ap (λ chunks. count_by (has_ledger 0) chunks) gone in
    let children : children_of state 0 ≡ 0 = count_none (is_open_child 0) state.nodes childless in
    record {
      chunks = gone;
      held = own ∙ ap (λ chunks. charged_at (charges_of chunks) 0) gone;
      uses = omega (arith, ledgers, children);
    }

-- calls that give all references back and leave the root alone leave an empty tree
pub empty-reached : (limit : ℕ) (calls : List TreeCall) → limit ≤ MAX_LIMIT → AreBoundedCalls calls → references_given (opened limit) calls ≡ references_returned (opened limit) calls
    → HasRootAlone (state_after (opened limit) calls) → IsEmptyTree (state_after (opened limit) calls)
empty-reached limit calls limited bounded balanced alone =
    let balance = references-calls (opened limit) calls (opened_lawful limit limited) bounded in
    empty-tree (state_after (opened limit) calls) (lawful-reached limit calls limited bounded) (omega (arith, balance, balanced)) alone
