-- Planned calls run as the calls that they come to.
use Rattle.std.proofs.Common.{◌≡◌, ℕ, zero, suc, length, ◌≤◌, ◌==◌, List, [], ◌∷◌, ◌++◌, false, refl, sym, ap, ◌∙◌, arith, append_assoc, All, None, Err}
use Rattle.std.specs.List.{find}
use Rattle.std.proofs.lemmas.Bool.{ne_eqb}
use Rattle.std.proofs.lemmas.List.{append-nil}
use Rattle.std.proofs.lemmas.List.Elements.{All-head, All-tail}
use Rattle.mem_num.specs.declared.alloc_id.AllocId.{AllocId}
use Rattle.mem_num.specs.declared.buffer_ref.Ref.{Ref}
use Rattle.mem_num.specs.declared.solo_refused.SoloRefused.TheVariants.{Released as RefusedRelease}
use Rattle.mem_model.specs.Calls.{CallAnswer, state_after, answers_of, samples_of}
use Rattle.mem_model.specs.Chunk.{Chunk}
use Rattle.mem_model.specs.LawfulState.{IsLawfulState}
use Rattle.mem_model.specs.PlannedCalls.{PlannedCall, no_reference, reference_at, planned_result, run_behind, run_planned, calls_behind, calls_planned}
use Rattle.mem_model.specs.References.{refers_to, referred_chunk, released_at}
use Rattle.mem_model.specs.Release.{release_result}
use Rattle.mem_model.specs.Retain.{retain_result}
use Rattle.mem_model.specs.Transfer.{transfer_result}
use Rattle.mem_model.specs.TreeState.{TreeState, CallResult, unchanged}
use Rattle.mem_model.proofs.CallResultLemmas.{retain-nothing, transfer-nothing, release-nothing}

-- planned calls run as the calls that they come to
run-behind : (state : TreeState) (answers : List CallAnswer) (plan : List PlannedCall) →
    let calls = calls_behind state answers plan in
    run_behind state answers plan ≡ record { answer = answers ++ answers_of state calls; state = state_after state calls; samples = samples_of state calls }
run-behind state answers [] = ap (λ (all : List CallAnswer). record { answer = all; state = state; samples = [] }) (sym (append-nil answers))
run-behind state answers (planned ∷ plan) =
    let first = planned_result state answers planned in
    let calls = calls_behind first.state (answers ++ first.answer ∷ []) plan in
    let rest = run-behind first.state (answers ++ first.answer ∷ []) plan in
    ap (λ (later : CallResult (List CallAnswer)). record { answer = later.answer; state = later.state; samples = first.samples ++ later.samples }) rest
    ∙ ap (λ (all : List CallAnswer). record { answer = all; state = state_after first.state calls; samples = first.samples ++ samples_of first.state calls }) (append_assoc answers (first.answer ∷ []) (answers_of first.state calls))

pub run-planned : (state : TreeState) (plan : List PlannedCall) →
    let calls = calls_planned state plan in
    run_planned state plan ≡ record { answer = answers_of state calls; state = state_after state calls; samples = samples_of state calls }
run-planned state plan = run-behind state [] plan

-- no lawful chunk has the number 0
find-none : (of : Ref) (chunks : List Chunk) → of.chunk ≡ 0 → All (λ chunk. 1 ≤ chunk.number) chunks → find (refers_to of) chunks ≡ None
find-none of [] zero' some = refl
find-none of (chunk ∷ chunks) zero' some =
    let first : 1 ≤ chunk.number = All-head (λ (c : Chunk). 1 ≤ c.number) chunk chunks some in
    let other : (chunk.number == of.chunk) ≡ false = ne_eqb chunk.number of.chunk (λ same. omega (arith, first, same, zero')) in
    rw other (find-none of chunks zero' (All-tail (λ (c : Chunk). 1 ≤ c.number) chunk chunks some))

none-referred : (state : TreeState) (of : Ref) → IsLawfulState state → of.chunk ≡ 0 → referred_chunk state of ≡ None
none-referred state of h zero' = find-none of state.chunks zero' (λ k d within. (h.chunks k d within).some)

-- so a call on a reference to no chunk changes nothing
pub retain-none : (state : TreeState) (of : Ref) (target : AllocId) → IsLawfulState state → of.chunk ≡ 0 → retain_result state of target ≡ unchanged state (Err (RefusedRelease (released_at of)))
retain-none state of target h zero' = retain-nothing state of target (none-referred state of h zero')

pub transfer-none : (state : TreeState) (of : Ref) (target : AllocId) → IsLawfulState state → of.chunk ≡ 0 → transfer_result state of target ≡ unchanged state (Err (RefusedRelease (released_at of)))
transfer-none state of target h zero' = transfer-nothing state of target (none-referred state of h zero')

pub release-none : (state : TreeState) (of : Ref) → IsLawfulState state → of.chunk ≡ 0 → release_result state of ≡ unchanged state (Err (released_at of))
release-none state of h zero' = release-nothing state of (none-referred state of h zero')

-- no call stands past the last
pub past-the-last : (answers : List CallAnswer) (place : ℕ) → length answers ≤ place → reference_at answers place ≡ no_reference
past-the-last [] place past = refl
past-the-last (answer ∷ answers) zero past = absurd (omega (arith, past))
past-the-last (answer ∷ answers) (suc place) past = past-the-last answers place (omega (arith, past))
