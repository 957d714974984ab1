-- Adequate limits never refuse a query with one worker.
use Rattle.std.specs.Prelude.{◌≡◌, ◌≢◌, ◌≤◌, ◌+◌, ℕ, true, false, not, ◌&&◌, ◌||◌, nat_lt, List, [], ◌∷◌, ◌++◌, ◌<◌, Any, map}
use Rattle.std.specs.Prelude.{slice_index_or, sum_by, All, None, Result, refl}
use Rattle.std.specs.Option.{ForSome}
use Rattle.std.proofs.Common.{arith, sym, ap, ◌∙◌}
use Rattle.std.proofs.lemmas.Bool.{cond_both, not-false, ne_eqb}
use Rattle.std.proofs.lemmas.List.Elements.{All-head, All-tail, All-cons, All-nil}
use Rattle.std.proofs.lemmas.List.Sums.{sum_by-cons}
use Rattle.mem_num.specs.Rounded.{rounded_size}
use Rattle.mem_num.specs.declared.bounds.TheConstants.{LARGEST}
use Rattle.mem_num.specs.declared.rounding.Rounding.TheVariants.{Power}
use Rattle.mem_num.specs.declared.alloc_id.AllocId.{AllocId}
use Rattle.mem_num.specs.declared.buffer_ref.Ref.{Ref}
use Rattle.mem_num.specs.declared.buffer_refused.BufferRefused.{BufferRefused}
use Rattle.mem_model.specs.declared.tree_node.TreeNode.{TreeNode}
use Rattle.mem_model.specs.Calls.{Child, Close, Grant, Retain, Transfer, Release, TreeCall, CallAnswer, ToGrant, answered, call_result}
use Rattle.mem_model.specs.Calls.{after_call, answers_of}
use Rattle.mem_model.specs.Grant.{grant_result}
use Rattle.mem_model.specs.PlannedCalls.{PlannedCall, call_of, planned_result, calls_behind, calls_planned}
use Rattle.mem_model.specs.Release.{release_result}
use Rattle.mem_model.specs.Retain.{retain_result}
use Rattle.mem_model.specs.Transfer.{transfer_result}
use Rattle.mem_model.specs.TreeNode.{HasParentUnlessRoot, IsParentOf}
use Rattle.mem_model.specs.TreeState.{TreeState, CallResult, is_open, opened, root_node}
use Rattle.mem_model.proofs.PlannedLemmas.{run-planned}
use Rattle.query_model.specs.declared.cell.Cell.{Cell}
use Rattle.query_model.specs.declared.plan.Plan.{Plan}
use Rattle.query_model.specs.Requests.{query_worst, AreAdequate}
use Rattle.query_model.specs.SequentialCalls.{full_in, full_or, first_full, sequential_calls, sequential_refusal}
use Rattle.query_model.proofs.AdequateLemmas.{calls-fit}
use Rattle.query_model.proofs.AskedLemmas.{asked-query, roomy-query}
use Rattle.query_model.proofs.RoomLemmas.{asked_by, IsRoomy, IsWithin}

-- a planned call comes to one that asks for as much
asked-call : (answers : List CallAnswer) (planned : PlannedCall) → asked_by (call_of answers planned) ≡ asked_by planned
asked-call answers (Child parent reservation limit) = refl
asked-call answers (Close at) = refl
asked-call answers (Grant at request) = refl
asked-call answers (Retain place target) = refl
asked-call answers (Transfer place target) = refl
asked-call answers (Release place) = refl

-- and to one of its kind
roomy-call : (most : ℕ) (answers : List CallAnswer) (planned : PlannedCall) → IsRoomy most planned → IsRoomy most (call_of answers planned)
roomy-call most answers (Child parent reservation limit) roomy = roomy
roomy-call most answers (Close at) roomy = roomy
roomy-call most answers (Grant at request) roomy = roomy
roomy-call most answers (Retain place target) roomy = roomy
roomy-call most answers (Transfer place target) roomy = roomy
roomy-call most answers (Release place) roomy = roomy

-- and so do planned calls
asked-behind : (state : TreeState) (answers : List CallAnswer) (plan : List PlannedCall) →
    sum_by asked_by (calls_behind state answers plan) ≡ sum_by asked_by plan
asked-behind state answers [] = refl
asked-behind state answers (planned ∷ plan) =
    let first = planned_result state answers planned in
    let later = calls_behind first.state (answers ++ first.answer ∷ []) plan in
    let a = sum_by-cons asked_by (call_of answers planned) later in
    let b = sum_by-cons asked_by planned plan in
    let c = asked-call answers planned in
    let d = asked-behind first.state (answers ++ first.answer ∷ []) plan in
    omega (arith, a, b, c, d)

-- of their kinds
roomy-behind : (most : ℕ) (state : TreeState) (answers : List CallAnswer) (plan : List PlannedCall) →
    All (IsRoomy most) plan → All (IsRoomy most) (calls_behind state answers plan)
roomy-behind most state answers [] roomy = All-nil (IsRoomy most)
roomy-behind most state answers (planned ∷ plan) roomy =
    let first = planned_result state answers planned in
    All-cons (IsRoomy most) (call_of answers planned) (calls_behind first.state (answers ++ first.answer ∷ []) plan)
    (roomy-call most answers planned (All-head (IsRoomy most) planned plan roomy))
    (roomy-behind most first.state (answers ++ first.answer ∷ []) plan (All-tail (IsRoomy most) planned plan roomy))

-- a tree that opens holds nothing
opened-within : (limit most : ℕ) → most ≤ limit → IsWithin (λ n. 0) most 0 (opened limit)
opened-within limit most roomy =
    let root = root_node limit in
    record {
      tree = record {
        ordered = λ i j d lt within. absurd (omega (arith, lt, within));
        root = All-cons HasParentUnlessRoot root [] (λ _. refl, λ _. refl) (All-nil HasParentUnlessRoot);
        parents = All-cons (λ node. ForSome node.parent (λ _. Any (IsParentOf node) (root ∷ []))) root [] (λ p is. absurd cc)
            (All-nil (λ node. ForSome node.parent (λ _. Any (IsParentOf node) (root ∷ []))));
      };
      numbers = All-cons (λ (node : TreeNode). node.number.0 < 1) root [] (omega arith) (All-nil (λ (node : TreeNode). node.number.0 < 1));
      limits = All-cons (λ (node : TreeNode). most ≤ node.limit) root [] roomy (All-nil (λ (node : TreeNode). most ≤ node.limit));
      chunks = All-nil _;
      sums = omega arith;
    }

-- no allocator is open but the root
shut : (limit n : ℕ) → n ≢ 0 → is_open (opened limit) n ≡ false
shut limit n away = ap (λ b. (b && true) || false) (ne_eqb 0 n (λ same. away (sym same)))

-- a call that leaves a tree with its root alone as it is, and isn't refused for want of room
record Stays (limit : ℕ) (result : CallResult CallAnswer) : Type 0 where
  answer : full_in result.answer ≡ None
  state : result.state ≡ opened limit

-- a request away from the root
grant-stays : (limit : ℕ) (at : AllocId) (request : ℕ) → at.0 ≢ 0 → Stays limit (answered ToGrant (grant_result (opened limit) at request))
unfolding grant_result
grant-stays limit at request away =
    let P : CallResult (Result Ref BufferRefused) → Type 0 = λ result. Stays limit (answered ToGrant result) in
    cond_both (nat_lt LARGEST (rounded_size Power request)) _ _ P (λ _. record { answer = refl; state = refl }) (λ _.
    cond_both (not (is_open (opened limit) at.0)) _ _ P (λ _. record { answer = refl; state = refl })
    (λ open_. let closed = shut limit at.0 away in let opens = not-false (is_open (opened limit) at.0) open_ in
    let clash : true ≡ false = sym opens ∙ closed in absurd cc))

-- a call that makes no child
call-stays : (limit : ℕ) (call : TreeCall) → ((most : ℕ) → IsRoomy most call) → Stays limit (call_result (opened limit) call)
unfolding retain_result transfer_result release_result
call-stays limit (Child parent reservation most) roomy = absurd (omega (arith, roomy (most + 1)))
call-stays limit (Close at) roomy = absurd (roomy 0)
call-stays limit (Grant at request) roomy = grant-stays limit at request (roomy 0)
call-stays limit (Retain of target) roomy = record { answer = refl; state = refl }
call-stays limit (Transfer of target) roomy = record { answer = refl; state = refl }
call-stays limit (Release of) roomy = record { answer = refl; state = refl }

-- calls without a child, on a tree with its root alone
calls-stay : (limit : ℕ) (calls : List TreeCall) → ((most : ℕ) → All (IsRoomy most) calls) → (batches : List ℕ)
    → first_full batches (answers_of (opened limit) calls) ≡ None
calls-stay limit [] roomy [] = refl
calls-stay limit [] roomy (batch ∷ batches) = refl
calls-stay limit (call ∷ calls) roomy [] = refl
calls-stay limit (call ∷ calls) roomy (batch ∷ batches) =
    let first = call-stays limit call (λ most. All-head (IsRoomy most) call calls (roomy most)) in
    ap (λ full. full_or batch full (first_full batches (answers_of (after_call (opened limit) call) calls))) first.answer
    ∙ ap (λ state. first_full batches (answers_of state calls)) first.state
    ∙ calls-stay limit calls (λ most. All-tail (IsRoomy most) call calls (roomy most)) batches

-- planned calls on a tree with such limits
planned-fit : (limits : List ℕ) (most : ℕ) (plan : List PlannedCall) → All (λ limit. most ≤ limit) limits
    → ((least : ℕ) → All (λ limit. least ≤ limit) limits → All (IsRoomy least) plan) → sum_by asked_by plan ≤ most → (batches : List ℕ)
    → first_full batches (answers_of (opened (slice_index_or limits 0 0)) (calls_planned (opened (slice_index_or limits 0 0)) plan)) ≡ None
planned-fit [] most plan all roomy room batches =
    calls-stay 0 (calls_planned (opened 0) plan)
    (λ least. roomy-behind least (opened 0) [] plan (roomy least (All-nil (λ limit. least ≤ limit)))) batches
planned-fit (limit ∷ limits) most plan all roomy room batches =
    let asked = asked-behind (opened limit) [] plan in
    calls-fit (λ n. 0) most 0 (opened limit) (calls_planned (opened limit) plan)
    (opened-within limit most (All-head (λ l. most ≤ l) limit limits all)) (omega (arith, asked, room))
    (roomy-behind most (opened limit) [] plan (roomy most all)) batches

-- so a query with one worker ends without a refusal
pub adequate : (plan : Plan) (rows : List (List Cell)) → AreAdequate plan rows → sequential_refusal plan rows ≡ None
adequate plan rows all =
    let calls = map (λ one. one.call) (sequential_calls plan rows) in
    let batches = map (λ one. one.batch) (sequential_calls plan rows) in
    ap (λ (run : CallResult (List CallAnswer)). first_full batches run.answer) (run-planned (opened (slice_index_or plan.limits 0 0)) calls)
    ∙ planned-fit plan.limits (query_worst plan rows) calls all (λ least within. roomy-query least plan rows within)
    (asked-query plan rows) batches
