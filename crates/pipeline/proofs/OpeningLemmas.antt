-- The opening of a query's tree, one child after another.
use Rattle.std.proofs.Common.{◌≡◌, ℕ, suc, ◌+◌, ◌-◌, ◌^◌, ◌≤◌, not, nat_le, nat_lt, List, [], ◌∷◌, ◌++◌, drop, length, take}
use Rattle.std.proofs.Common.{refl, sym, ap, ◌∙◌, subst, append_assoc, arith, Option, Some, None, OnOk}
use Rattle.std.specs.Prelude.{slice_index_or, Result, Ok, Err}
use Rattle.std.proofs.lemmas.Bool.{cond_both, cond-true}
use Rattle.std.proofs.lemmas.List.{take_all}
use Rattle.std.proofs.lemmas.List.Elements.{All-cons, All-nil}
use Rattle.mem_num.specs.declared.bounds.TheConstants.{MOST_ALLOCATORS}
use Rattle.mem_num.specs.declared.alloc_id.AllocId.{AllocId}
use Rattle.mem_num.specs.declared.child_refused.ChildRefused.{ChildRefused}
use Rattle.mem_num.specs.declared.child_refused.ChildRefused.TheVariants as child
use Rattle.mem_num.specs.declared.full.Full.{Full as AnyFull}
use Rattle.mem_num.specs.declared.rounding.Rounding.TheVariants.{Power}
use Rattle.mem_model.specs.declared.tree_node.TreeNode.{TreeNode}
use Rattle.mem_model.specs.Calls.{one_if_ok}
use Rattle.mem_model.specs.Child.{after_child, child_answer, child_node, child_result}
use Rattle.mem_model.specs.CountedReferences.{references_to}
use Rattle.mem_model.specs.MeasuredTree.{IsOpened, MeasuredTree}
use Rattle.mem_model.specs.PlannedCalls.{no_reference}
use Rattle.mem_model.specs.Request.{refusing_level}
use Rattle.mem_model.specs.TreeState.{CallResult, TreeState, charges_in, is_open}
use Rattle.mem_buf.specs.Chain.{MakesCall, Runs}
use Rattle.mem_buf.specs.MemoryCall.{Child, MemoryCall}
use Rattle.alloc_tree.specs.SoloMeaning.{solo_model}
use Rattle.alloc_tree.specs.SoloPlanned.{reference_by}
use Rattle.alloc_tree.specs.SoloView.{solo_view}
use Rattle.query_model.specs.Requests.{root_id}
use Rattle.pipeline.specs.BatchRun.{IsDone}
use Rattle.pipeline.specs.Closing.{AreCounted, child_nodes, child_of_root, query_nodes}
use Rattle.pipeline.specs.Opening.{AddsChildren, AreOpened, IsOpeningRefused, OpensChildren}
use Rattle.pipeline.specs.declared.refused.QueryRefused.{QueryRefused}
use Rattle.pipeline.specs.declared.refused.QueryRefused.TheVariants.{Full, NoMemory}
use Rattle.pipeline.proofs.ClosingLemmas.{open-queries}

-- a child of the root stands last, with the next number
record AddsChild (limit reservation : ℕ) (old new : TreeState) : Type 0 where
  pub nodes : new.nodes ≡ old.nodes ++ child_of_root old.next limit reservation ∷ []
  pub chunks : new.chunks ≡ old.chunks
  pub next : new.next ≡ old.next + 1

module _ (limit reservation : ℕ) (made : AllocId) where
  -- a child that no level refused
  adds-granted : (state : TreeState) (refusing : Option TreeNode)
      → child_answer state (record { at = root_id; amount = reservation }) refusing ≡ Ok made
      → AddsChild limit reservation state (after_child state (child_node state root_id reservation limit) refusing)
  adds-granted state None told = record { nodes = refl; chunks = refl; next = refl }
  adds-granted state (Some level) told = let wrong = ap one_if_ok told in absurd (omega (arith, wrong))

  -- a child that was made
  adds-made : (state : TreeState) → (child_result state root_id reservation limit).answer ≡ Ok made
      → AddsChild limit reservation state (child_result state root_id reservation limit).state
  unfolding child_result
  adds-made state =
      let P : CallResult (Result AllocId ChildRefused) → Type 0 =
      λ result. result.answer ≡ Ok made → AddsChild limit reservation state result.state in
      cond_both (nat_lt limit reservation) _ _ P
      (λ _ told. let wrong = ap one_if_ok told in absurd (omega (arith, wrong))) (λ _.
      cond_both (not (is_open state root_id.0)) _ _ P
      (λ _ told. let wrong = ap one_if_ok told in absurd (omega (arith, wrong))) (λ _.
      cond_both (nat_le MOST_ALLOCATORS state.next) _ _ P
      (λ _ told. let wrong = ap one_if_ok told in absurd (omega (arith, wrong))) (λ _.
      adds-granted state (refusing_level state.nodes (charges_in state) (record { at = root_id; amount = reservation })))))

  -- the same by the memory's call
  adds-child : (old new : MeasuredTree) → MakesCall solo_model (Child root_id reservation limit (Ok made)) old new
      → AddsChild limit reservation old.state new.state
  adds-child old new call =
      subst (AddsChild limit reservation old.state) (sym call.meaning.after.state) (adds-made old.state (sym call.meaning.answer_is))

-- a child, before those for these limits and reservations
module _ (limit reservation : ℕ) (limits reserves : List ℕ) where
  abbrev first : Result AllocId ChildRefused → MemoryCall
  first answer = Child root_id reservation limit answer

  -- made before others that were made
  opened-first : (made : AllocId) (calls : List MemoryCall) → AreOpened limits reserves calls
      → AreOpened (limit ∷ limits) (reservation ∷ reserves) (first (Ok made) ∷ calls)
  opened-first made calls opened = record {
    planned = λ given. ((Ok made, refl), opened.planned (given ++ no_reference ∷ []));
    done = All-cons IsDone (first (Ok made)) calls (record { memory = tt; granted = refl }) opened.done;
    count = ap suc opened.count;
    none = All-cons (λ call. reference_by call ≡ no_reference) (first (Ok made)) calls refl opened.none;
    leaves = ([], (λ k n some. refl), opened.leaves);
  }

  -- made before others of which one was refused
  refused-first : (made : AllocId) (full : AnyFull) (batch : ℕ) (calls : List MemoryCall)
      → IsOpeningRefused limits reserves full batch calls
      → IsOpeningRefused (limit ∷ limits) (reservation ∷ reserves) full batch (first (Ok made) ∷ calls)
  refused-first made full batch calls refused = record {
    opening = refused.opening;
    asked = first (Ok made) ∷ refused.asked;
    refused = refused.refused;
    order = ap (λ later. first (Ok made) ∷ later) refused.order;
    within = omega (arith, refused.within);
    planned = λ given. ((Ok made, refl), refused.planned (given ++ no_reference ∷ []));
    done = All-cons IsDone (first (Ok made)) refused.asked (record { memory = tt; granted = refl }) refused.done;
    memory = refused.memory;
    told = refused.told;
  }

  -- refused itself
  refused-now : (full : AnyFull)
      → IsOpeningRefused (limit ∷ limits) (reservation ∷ reserves) full 0 (first (Err (child.Full full)) ∷ [])
  refused-now full = record {
    opening = refl;
    asked = [];
    refused = first (Err (child.Full full));
    order = refl;
    within = omega arith;
    planned = λ given. ((Err (child.Full full), refl), tt);
    done = All-nil IsDone;
    memory = tt;
    told = refl;
  }

  -- made, whatever comes behind it
  opens-first : (made : AllocId) (result : Result (Unit {0}) QueryRefused) (calls : List MemoryCall)
      → OpensChildren limits reserves result calls
      → OpensChildren (limit ∷ limits) (reservation ∷ reserves) result (first (Ok made) ∷ calls)
  opens-first made (Ok done) calls opened = opened-first made calls opened
  opens-first made (Err (Full full batch)) calls refused = refused-first made full batch calls refused
  opens-first made (Err NoMemory) calls none = tt

  -- the nodes that it and those behind it add
  adds-first : (made : AllocId) (old middle new : MeasuredTree) → MakesCall solo_model (first (Ok made)) old middle
      → AddsChildren limits reserves middle new → AddsChildren (limit ∷ limits) (reservation ∷ reserves) old new
  adds-first made old middle new call later =
      let one = adds-child limit reservation made old middle call in
      let node = child_of_root old.state.next limit reservation in
      record {
        nodes = later.nodes ∙ (ap (λ nodes. nodes ++ child_nodes middle.state.next limits reserves) one.nodes
            ∙ (ap (λ next. (old.state.nodes ++ node ∷ []) ++ child_nodes next limits reserves) one.next
            ∙ append_assoc old.state.nodes (node ∷ []) (child_nodes (old.state.next + 1) limits reserves)));
        chunks = later.chunks ∙ one.chunks;
      }

  -- the same, if none is refused
  adds-all : (made : AllocId) (result : Result (Unit {0}) QueryRefused) (old middle new : MeasuredTree)
      → MakesCall solo_model (first (Ok made)) old middle → OnOk result (AddsChildren limits reserves middle new)
      → OnOk result (AddsChildren (limit ∷ limits) (reservation ∷ reserves) old new)
  adds-all made (Ok done) old middle new call later = adds-first made old middle new call later
  adds-all made (Err refused) old middle new call later = tt

-- what stands behind the first number
abbrev behind : List ℕ → List ℕ
behind numbers = take (length numbers - 1) (drop 1 numbers)

behind-first : (number : ℕ) (numbers : List ℕ) → behind (number ∷ numbers) ≡ numbers
behind-first number numbers =
    let one : suc (length numbers) - 1 ≡ length numbers = omega arith in
    ap (λ n. take n numbers) one ∙ take_all (length numbers) numbers (omega arith)

-- by the first of some limits and of some reservations
module _ (old middle : MeasuredTree) where
  -- a child that was made, with the calls behind it
  pub opens-behind : (limits reserves : List ℕ) → 1 ≤ length limits → 1 ≤ length reserves → (made : AllocId)
      (result : Result (Unit {0}) QueryRefused) (new : MeasuredTree)
      → MakesCall solo_model (Child root_id (slice_index_or reserves 0 0) (slice_index_or limits 0 0) (Ok made)) old middle
      → Runs solo_model (OpensChildren (behind limits) (behind reserves) result) middle new
      → Runs solo_model (OpensChildren limits reserves result) old new
  opens-behind [] reserves some others made result new call run = absurd (omega (arith, some))
  opens-behind (limit ∷ limits) [] some others made result new call run = absurd (omega (arith, others))
  opens-behind (limit ∷ limits) (reservation ∷ reserves) some others made result new call run =
      let opened : OpensChildren limits reserves result run.0 =
      subst (λ numbers. OpensChildren numbers reserves result run.0) (behind-first limit limits)
      (subst (λ numbers. OpensChildren (behind (limit ∷ limits)) numbers result run.0) (behind-first reservation reserves) run.2) in (
        Child root_id reservation limit (Ok made) ∷ run.0,
        (middle, call, run.1),
        opens-first limit reservation limits reserves made result run.0 opened,
      )

  -- and with the nodes behind it
  pub adds-behind : (limits reserves : List ℕ) → 1 ≤ length limits → 1 ≤ length reserves → (made : AllocId)
      (result : Result (Unit {0}) QueryRefused) (new : MeasuredTree)
      → MakesCall solo_model (Child root_id (slice_index_or reserves 0 0) (slice_index_or limits 0 0) (Ok made)) old middle
      → OnOk result (AddsChildren (behind limits) (behind reserves) middle new)
      → OnOk result (AddsChildren limits reserves old new)
  adds-behind [] reserves some others made result new call later = absurd (omega (arith, some))
  adds-behind (limit ∷ limits) [] some others made result new call later = absurd (omega (arith, others))
  adds-behind (limit ∷ limits) (reservation ∷ reserves) some others made result new call later =
      let all = limit ∷ limits in
      adds-all limit reservation limits reserves made result old middle new call
      (subst (λ numbers. OnOk result (AddsChildren numbers reserves middle new)) (behind-first limit limits)
      (subst (λ numbers. OnOk result (AddsChildren (behind all) numbers middle new)) (behind-first reservation reserves) later))

  -- a child that was refused
  pub opens-none : (limits reserves : List ℕ) → 1 ≤ length limits → 1 ≤ length reserves → (refused : ChildRefused) (full : AnyFull)
      → refused ≡ child.Full full
      → MakesCall solo_model (Child root_id (slice_index_or reserves 0 0) (slice_index_or limits 0 0) (Err refused)) old middle
      → Runs solo_model (OpensChildren limits reserves (Err (Full full 0))) old middle
  opens-none [] reserves some others refused full is call = absurd (omega (arith, some))
  opens-none (limit ∷ limits) [] some others refused full is call = absurd (omega (arith, others))
  opens-none (limit ∷ limits) (reservation ∷ reserves) some others refused full is call = (
    Child root_id reservation limit (Err refused) ∷ [],
    (middle, call, refl),
    subst (λ told. OpensChildren (limit ∷ limits) (reservation ∷ reserves) (Err (Full full 0))
        (Child root_id reservation limit (Err told) ∷ [])) (sym is) (refused-now limit reservation limits reserves full),
  )

-- children of a tree that was just opened
module _ (root_limit : ℕ) (limits reserves : List ℕ) (old new : MeasuredTree) (opened : IsOpened root_limit old) where
  -- are the allocators of a query
  pub nodes-opened : (result : Result (Unit {0}) QueryRefused) → OnOk result (AddsChildren limits reserves old new)
      → OnOk result (new.state.nodes ≡ query_nodes root_limit limits reserves)
  nodes-opened (Ok done) adds = adds.nodes ∙ ap (λ state. state.nodes ++ child_nodes state.next limits reserves) opened.state
  nodes-opened (Err refused) adds = tt

-- without a chunk, no reference is counted
pub counted-opened : (state : TreeState) → state.chunks ≡ [] → AreCounted [] state
counted-opened state none k n some = ap (λ chunks. references_to (record state { chunks = chunks }) k n) none

-- an opened tree shows a pin of each allocator, which rounds to powers of two, and nearly all its turns
pub record ShowsQuery (tree : MeasuredTree) : Type 0 where
  pub pins : (k : ℕ) → k ≤ 5 → 1 ≤ (solo_view tree).pins k
  pub rounding : (k : ℕ) → (solo_view tree).rounding k ≡ Some Power
  pub bytes : (solo_view tree).bytes ≡ 2 ^ 61
  pub turns : tree.calls ≤ 5 → 4294967289 ≤ (solo_view tree).turns

pub views-opened : (root_limit : ℕ) (limits reserves : List ℕ) (tree : MeasuredTree) → length limits ≡ 5 → length reserves ≡ 5
    → tree.state.nodes ≡ query_nodes root_limit limits reserves → ShowsQuery tree
views-opened root_limit limits reserves tree limits_five reserves_five nodes = record {
  pins = λ k within.
      let one : (solo_view tree).pins k ≡ 1 =
      cond-true (is_open tree.state k) 1 0 (open-queries root_limit limits reserves tree.state limits_five reserves_five nodes k within) in
      omega (arith, one);
  rounding = λ k. refl;
  bytes = refl;
  turns = λ few. omega (arith, few);
}
