-- Storing lists of bytes in the tree of one thread.
use Rattle.std.proofs.Common.{◌≡◌, ◌≢◌, ℕ, ◌+◌, ◌<◌, ◌≤◌, ◌==◌, Bool, List, [], ◌∷◌, ◌++◌, length, get_or, refl, sym, ap, subst}
use Rattle.std.proofs.Common.{arith}
use Rattle.std.proofs.lemmas.Bool.{cond_both}
use Rattle.std.proofs.lemmas.List.Elements.{All-append, All-cons}
use Rattle.std.proofs.lemmas.List.Sums.{sum_by-le}
use Rattle.std.specs.Prelude.{All, Result, Ok, Err, Vec}
use Rattle.std.specs.declared.alloc.Global.{Global}
use Rattle.mem_num.specs.declared.bounds.TheConstants.{LARGEST}
use Rattle.mem_num.specs.declared.alloc_id.AllocId.{AllocId}
use Rattle.mem_num.specs.declared.buffer_ref.Ref.{Ref}
use Rattle.mem_num.specs.declared.buffer_refused.BufferRefused.{BufferRefused}
use Rattle.mem_num.specs.declared.buffer_refused.BufferRefused.TheVariants.{TooLarge, Closed, Full, NoMemory}
use Rattle.mem_model.specs.Calls.{state_after}
use Rattle.mem_model.specs.MeasuredTree.{MeasuredTree}
use Rattle.mem_buf.specs.declared.arrow_buf.ArrowBuf.{ArrowBuf}
use Rattle.mem_buf.specs.Callers.{CanPay, grants, releases}
use Rattle.mem_buf.specs.Chain.{MakesCalls, Runs}
use Rattle.mem_buf.specs.MemoryCall.{MemoryCall, Grant, Release}
use Rattle.mem_buf.specs.TokenView.{TokenView, size_for, bytes_for, turns_for}
use Rattle.mem_buf.proofs.PayLemmas.{CanPay-few}
use Rattle.alloc_tree.specs.Counting.{most_calls}
use Rattle.alloc_tree.specs.SoloCalls.{HasMemory, tree_calls, AreAnswered}
use Rattle.alloc_tree.specs.SoloMeaning.{solo_model}
use Rattle.alloc_tree.specs.SoloView.{solo_view}
use Rattle.mem_buf.specs.Storing.{IsRefusedAt, IsStoreAll}
use Rattle.uses.specs.TreeStoring.{LeavesStored}

-- a tree that has so many calls left can pay for as many requests
pub can_pay : (tree : MeasuredTree) (at : AllocId) (requests : List ℕ) → length requests ≤ 65536 → tree.calls + 65536 < most_calls
    → CanPay (solo_view tree) at requests
can_pay tree at requests few left = CanPay-few (solo_view tree) at requests refl (omega arith) (omega arith)

-- requests that were granted found memory
grants-found : (at : AllocId) (granted : List (ℕ × Ref)) → All HasMemory (grants at granted)
grants-found at [] = λ k d within. absurd (omega arith)
grants-found at (one ∷ granted) = All-cons HasMemory (Grant at one.0 (Ok one.1)) (grants at granted) tt (grants-found at granted)

-- and so did releases
releases-found : (returned : List (Ref × Bool)) → All HasMemory (releases returned)
releases-found [] = λ k d within. absurd (omega arith)
releases-found (one ∷ returned) = All-cons HasMemory (Release one.0 one.1) (releases returned) tt (releases-found returned)

-- a request that wasn't refused for want of memory found it
asked-found : (view : TokenView) (at : AllocId) (left : List ℕ) (refused : BufferRefused) (calls : List MemoryCall) → refused ≢ NoMemory
    → IsRefusedAt view at left refused calls → All HasMemory calls
asked-found view at [] refused calls other is = absurd (other is.0)
asked-found view at (request ∷ left) (TooLarge refused) calls other is = subst (All HasMemory) (sym is.0)
    (λ k d within. absurd (omega arith))
asked-found view at (request ∷ left) (Closed refused) calls other is =
    subst (All HasMemory) (sym is) (All-cons HasMemory (Grant at request (Err (Closed refused))) [] tt (λ k d within. absurd (omega arith)))
asked-found view at (request ∷ left) (Full refused) calls other is =
    subst (All HasMemory) (sym is) (All-cons HasMemory (Grant at request (Err (Full refused))) [] tt (λ k d within. absurd (omega arith)))
asked-found view at (request ∷ left) NoMemory calls other is = absurd (other refl)

-- so did all calls of a storing that wasn't
stored-found : (view : TokenView) (at : AllocId) (requests : List ℕ) (result : Result (Vec (ArrowBuf Ref) Global) BufferRefused)
    (calls : List MemoryCall) → result ≢ Err NoMemory → IsStoreAll (λ hold. hold) view at requests result calls → All HasMemory calls
stored-found view at requests (Ok bufs) calls other is = subst (All HasMemory) (sym is) (grants-found at _)
stored-found view at requests (Err refused) calls other is =
    subst (All HasMemory) (sym is.order)
    (All-append HasMemory (grants at is.granted) (is.asked ++ is.returned) (grants-found at is.granted)
    (All-append HasMemory is.asked is.returned (asked-found view at is.left refused is.asked (λ e. other (ap Err e)) is.refusal)
    (subst (All HasMemory) (sym is.given_back.1) (releases-found is.given_back.0))))

-- a storing leaves the state after its calls, by the law of calls of the tree of one thread
pub leaves_stored :
    (state : (calls : List MemoryCall) (old new : MeasuredTree) → All HasMemory calls → MakesCalls solo_model calls old new
    → new.state ≡ state_after old.state (tree_calls calls))
    (answers : (calls : List MemoryCall) (old new : MeasuredTree) → All HasMemory calls → MakesCalls solo_model calls old new
    → AreAnswered old.state calls)
    (old new : MeasuredTree) (at : AllocId) (requests : List ℕ) (result : Result (Vec (ArrowBuf Ref) Global) BufferRefused)
    → Runs solo_model (IsStoreAll (λ hold. hold) (solo_view old) at requests result) old new → result ≢ Err NoMemory
    → LeavesStored old new at requests result
leaves_stored state answers old new at requests result runs other =
    let found = stored-found (solo_view old) at requests result runs.0 other runs.2 in
    record {
      calls = runs.0;
      are = runs.2;
      state = state runs.0 old new found runs.1;
      answers = answers runs.0 old new found runs.1;
    }
