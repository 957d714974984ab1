-- What an allocator holds is within the peak of the samples, after any list of calls.
use Rattle.std.proofs.Common.{◌≡◌, ◌≢◌, ℕ, cond, ◌+◌, ◌<◌, ◌≤◌, ◌==◌, List, [], ◌∷◌, ◌++◌, get_or, true, false, not, ◌&&◌, nat_le, nat_lt, refl, sym, ap, subst, ◌∙◌, arith, append_assoc, inl, inr, All, Option, Some, None, Err, sum_by}
use Rattle.std.specs.List.{list_any, Any}
use Rattle.std.specs.Option.{option_map_or}
use Rattle.std.proofs.Math.Bool.{and-false}
use Rattle.std.proofs.lemmas.Bool.{cases_Bool, cond_both, eqb-true, eq-eqb, both_ways, not-false}
use Rattle.std.proofs.lemmas.List.{append-nil, map-append}
use Rattle.std.proofs.lemmas.List.Elements.{All-head, All-tail}
use Rattle.std.proofs.lemmas.List.Folds.{Any-from_list_any, list_any-from_Any}
use Rattle.std.proofs.lemmas.List.Sums.{sum_by-cons, sum_by-append}
use Rattle.mem_num.specs.declared.alloc_id.AllocId.{AllocId}
use Rattle.mem_num.specs.declared.buffer_ref.Ref.{Ref}
use Rattle.mem_num.specs.declared.bounds.TheConstants.{LARGEST, MAX_LIMIT, MOST_ALLOCATORS}
use Rattle.mem_num.specs.declared.rounding.Rounding.TheVariants.{Power}
use Rattle.mem_num.specs.declared.solo_refused.SoloRefused.TheVariants.{Released as RefusedRelease}
use Rattle.mem_num.specs.Rounded.{rounded_size}
use Rattle.mem_model.specs.declared.charge.Charge.{Charge}
use Rattle.mem_model.specs.declared.tree_node.TreeNode.{TreeNode}
use Rattle.mem_model.specs.Calls.{TreeCall, Child, Close, Grant, Retain, Transfer, Release, call_result, after_call, state_after, samples_of, IsBoundedCall, AreBoundedCalls}
use Rattle.mem_model.specs.Charge.{amount_at, charged_at}
use Rattle.mem_model.specs.Child.{child_node, after_child, child_result}
use Rattle.mem_model.specs.Chunk.{Chunk, charge_of, charges_of, has_ledger, new_chunk, retained, released, with_chunk}
use Rattle.mem_model.specs.Close.{with_closed, close_result}
use Rattle.mem_model.specs.Force.{force_sample}
use Rattle.mem_model.specs.Grant.{after_charge, grant_result}
use Rattle.mem_model.specs.Held.{held_of}
use Rattle.mem_model.specs.LawfulState.{IsWithinBounds, IsLawfulState}
use Rattle.mem_model.specs.PeakSample.{PeakSample, is_counted, held_in, peak_of, request_sample}
use Rattle.mem_model.specs.References.{referred_chunk, released_at}
use Rattle.mem_model.specs.Release.{without_chunk, release_samples, release_from, release_result}
use Rattle.mem_model.specs.Request.{is_level, levels_of, refusing_level}
use Rattle.mem_model.specs.Reservation.{counted_at_parent}
use Rattle.mem_model.specs.Retain.{retain_from, retain_result}
use Rattle.mem_model.specs.Transfer.{moves_charge, transfer_from, transfer_result}
use Rattle.mem_model.specs.TreeNode.{is_number, is_open_child, IsAllocatorTree, IsParentOf}
use Rattle.mem_model.specs.TreeState.{TreeState, CallResult, unchanged, opened, charges_in, is_open, held_at, uses_of}
use Rattle.mem_model.proofs.BalanceLemmas.{and_true}
use Rattle.mem_model.proofs.CallsLemmas.{lawful-after_call}
use Rattle.mem_model.proofs.ChargeSumLemmas.{amount_at-other}
use Rattle.mem_model.proofs.ChunkSumLemmas.{sum_by-with_chunk, sum_by-without_chunk}
use Rattle.mem_model.proofs.LawfulCloseLemmas.{closed_both}
use Rattle.mem_model.proofs.LawfulLemmas.{opened_lawful}
use Rattle.mem_model.proofs.LawfulReferenceLemmas.{lawful-released}
use Rattle.mem_model.proofs.LevelLemmas.{is_among, TakesParents, outside_same}
use Rattle.mem_model.proofs.OpenLemmas.{is_open_at, open_parts}
use Rattle.mem_model.proofs.PeakLemmas.{peak_of-push, peak_of-skip}
use Rattle.mem_model.proofs.ReferenceLemmas.{referrer_open, owner_open, referred_lawful, referred_number, referred_is_numbered}
use Rattle.mem_model.proofs.RequestLemmas.{is_listed, is_counted-request, listed, listed_all}

-- each allocator holds at most the peak of the samples
abbrev pub Covers : List PeakSample → TreeState → Type 0
Covers samples state = (n : ℕ) → held_at state n ≤ peak_of samples n

-- so it does after a call, with that call's samples
abbrev CoversCall : {A : Type 0} → List PeakSample → CallResult A → Type 0
CoversCall samples result = Covers (samples ++ result.samples) result.state

-- who is charged no more anywhere holds no more
held_of-le : (nodes : List TreeNode) (few many : List Charge) → ((n : ℕ) → charged_at few n ≤ charged_at many n) → (n : ℕ) → held_of nodes few n ≤ held_of nodes many n
held_of-le [] few many le n = le n
held_of-le (node ∷ nodes) few many le n = elim (cases_Bool (is_open_child n node)) [
  | inl child ↦ rw child (omega (arith, held_of-le nodes few many le n, held_of-le nodes few many le node.number.0))
  | inr other ↦ rw other (omega (arith, held_of-le nodes few many le n))
]

-- a sample lets no peak fall
peak_of-more : (samples : List PeakSample) (sample : PeakSample) (n : ℕ) → peak_of samples n ≤ peak_of (samples ++ sample ∷ []) n
peak_of-more samples sample n = elim (cases_Bool (is_counted n sample)) [
  | inl counts ↦ omega (arith, peak_of-push samples sample n counts)
  | inr skips ↦ omega (arith, peak_of-skip samples sample n skips)
]

-- a call that measures nothing, and after which nobody holds more
covers-less : (samples : List PeakSample) (old new : TreeState) → ((n : ℕ) → held_at new n ≤ held_at old n) → Covers samples old → Covers (samples ++ []) new
covers-less samples old new less covers n = omega (arith, less n, covers n, ap (λ s. peak_of s n) (append-nil samples))

-- the same of one that measures something
covers-more : (samples : List PeakSample) (sample : PeakSample) (old new : TreeState) → ((n : ℕ) → held_at new n ≤ held_at old n) → Covers samples old → Covers (samples ++ sample ∷ []) new
covers-more samples sample old new less covers n = omega (arith, less n, covers n, peak_of-more samples sample n)

-- nothing changed
covers-same : (samples : List PeakSample) (state : TreeState) → Covers samples state → Covers (samples ++ []) state
covers-same samples state covers = covers-less samples state state (λ n. omega arith) covers

-- an open allocator is among the nodes
open_among : (nodes : List TreeNode) (n : ℕ) → list_any (is_open_at n) nodes ≡ true → is_among nodes n ≡ true
open_among nodes n open_ =
    let found : Any (λ node. is_open_at n node ≡ true) nodes = Any-from_list_any (is_open_at n) nodes open_ in
    list_any-from_Any (λ (node : TreeNode). node.number.0 == n) nodes (found.0, found.1, found.2, found.3, eq-eqb found.1.number.0 n (open_parts n found.1 found.4).0)

-- the nodes of a tree take in parents
tree_takes : (nodes : List TreeNode) → IsAllocatorTree nodes → TakesParents (is_among nodes) nodes
tree_takes nodes tree k d within inside p is =
    let found : Any (IsParentOf (get_or nodes k d)) nodes = tree.parents k d within p is in
    let of : IsParentOf (get_or nodes k d) found.1 = found.4 in
    let same : Some p ≡ Some found.1.number = sym is ∙ of.number in
    let id : p ≡ found.1.number = cc in
    list_any-from_Any (λ (node : TreeNode). node.number.0 == p.0) nodes (found.0, found.1, found.2, found.3, eq-eqb found.1.number.0 p.0 (ap (λ (a : AllocId). a.0) (sym id)))

-- whoever isn't a level of a charge holds what it held
unlisted_same : (nodes : List TreeNode) (charges : List Charge) (charge : Charge) → IsAllocatorTree nodes → is_among nodes charge.at.0 ≡ true → (n : ℕ) → is_listed nodes charges charge n ≡ false → held_of nodes (charge ∷ charges) n ≡ held_of nodes charges n
unlisted_same nodes charges charge tree at n none = elim (cases_Bool (is_among nodes n)) [
  | inl made ↦ (
      let found : Any (λ (node : TreeNode). (node.number.0 == n) ≡ true) nodes = Any-from_list_any (λ node. node.number.0 == n) nodes made in
      let e = found.1 in
      let number : e.number.0 ≡ n = eqb-true e.number.0 n found.4 in
      let here : held_of nodes (charge ∷ charges) e.number.0 ≡ held_of nodes charges e.number.0 = elim (cases_Bool (held_of nodes (charge ∷ charges) e.number.0 == held_of nodes charges e.number.0)) [
        | inl same ↦ eqb-true _ _ same
        | inr other ↦ absurd (
            let level : is_level nodes charges charge e ≡ true = rw other refl in
            both_ways (is_listed nodes charges charge n) none (subst (λ (m : ℕ). is_listed nodes charges charge m ≡ true) number (listed nodes charges charge e (found.0, found.2, found.3) level)))
      ] in
      subst (λ (m : ℕ). held_of nodes (charge ∷ charges) m ≡ held_of nodes charges m) number here)
  | inr unmade ↦ outside_same nodes charges charge (is_among nodes) at (tree_takes nodes tree) n unmade
]

-- a charge besides is within the peak once its sample, which counts for all its levels, is taken
covers-sample : (samples : List PeakSample) (state : TreeState) (charge : Charge) (sample : PeakSample) → IsAllocatorTree state.nodes → is_open state charge.at.0 ≡ true
    → ((n : ℕ) → is_counted n sample ≡ (is_listed state.nodes (charges_in state) charge n && true)) → ((n : ℕ) → held_in n sample ≡ held_of state.nodes (charge ∷ charges_in state) n)
    → Covers samples state → (n : ℕ) → held_of state.nodes (charge ∷ charges_in state) n ≤ peak_of (samples ++ sample ∷ []) n
covers-sample samples state charge sample tree open_ counts held covers n =
    let nodes = state.nodes in
    let charges = charges_in state in
    elim (cases_Bool (is_listed nodes charges charge n)) [
      | inl level ↦ (
          let counted : is_counted n sample ≡ true = counts n ∙ ap (λ b. b && true) level in
          omega (arith, peak_of-push samples sample n counted, held n))
      | inr none ↦ omega (arith, unlisted_same nodes charges charge tree (open_among nodes charge.at.0 open_) n none, covers n, peak_of-more samples sample n)
    ]

-- a forced charge's sample does that
covers-force : (samples : List PeakSample) (state : TreeState) (force : Charge) → IsAllocatorTree state.nodes → is_open state force.at.0 ≡ true → Covers samples state
    → (n : ℕ) → held_of state.nodes (force ∷ charges_in state) n ≤ peak_of (samples ++ force_sample state force ∷ []) n
covers-force samples state force tree open_ covers =
    covers-sample samples state force (force_sample state force) tree open_ (λ n. listed_all (levels_of state.nodes (charges_in state) force) n) (λ n. refl) covers

-- and a request's, where no level refuses it
covers-request : (samples : List PeakSample) (state : TreeState) (request : Charge) → IsAllocatorTree state.nodes → is_open state request.at.0 ≡ true → refusing_level state.nodes (charges_in state) request ≡ None → Covers samples state
    → (n : ℕ) → held_of state.nodes (request ∷ charges_in state) n ≤ peak_of (samples ++ request_sample state.nodes (charges_in state) request ∷ []) n
covers-request samples state request tree open_ none covers =
    covers-sample samples state request (request_sample state.nodes (charges_in state) request) tree open_ (λ n. is_counted-request state.nodes (charges_in state) request None n none) (λ n. refl) covers

-- a new chunk charges what was on trial
charged-push : (chunks : List Chunk) (number : ℕ) (request : Charge) (n : ℕ) → charged_at (charges_of (chunks ++ new_chunk number request.amount request.at ∷ [])) n ≤ charged_at (request ∷ charges_of chunks) n
charged-push chunks number request n =
    let chunk = new_chunk number request.amount request.at in
    omega (
      arith,
      ap (sum_by (amount_at n)) (map-append charge_of chunks (chunk ∷ [])),
      sum_by-append (amount_at n) (charges_of chunks) (charge_of chunk ∷ []),
      sum_by-cons (amount_at n) request (charges_of chunks),
      sum_by-cons (amount_at n) (charge_of chunk) [],
    )

-- a charge that a level may refuse
covers-charge : (samples : List PeakSample) (state : TreeState) (request : Charge) (refusing : Option TreeNode) → IsLawfulState state → is_open state request.at.0 ≡ true → refusing_level state.nodes (charges_in state) request ≡ refusing → Covers samples state
    → Covers (samples ++ request_sample state.nodes (charges_in state) request ∷ []) (after_charge state request refusing)
covers-charge samples state request None h open_ none covers n =
    omega (
      arith,
      held_of-le state.nodes (charges_of (state.chunks ++ new_chunk (state.drawn + 1) request.amount request.at ∷ [])) (request ∷ charges_in state) (charged-push state.chunks (state.drawn + 1) request) n,
      covers-request samples state request h.tree open_ none covers n,
    )
covers-charge samples state request (Some level) h open_ is covers n =
    covers-more samples (request_sample state.nodes (charges_in state) request) state (record state { drawn = state.drawn + 1 }) (λ m. omega arith) covers n

covers-grant : (samples : List PeakSample) (state : TreeState) (at : AllocId) (request : ℕ) → IsLawfulState state → Covers samples state → CoversCall samples (grant_result state at request)
unfolding grant_result
covers-grant samples state at request h covers =
    let size = rounded_size Power request in
    let charge : Charge = record { at = at; amount = size } in
    let same = covers-same samples state covers in
    cond_both (nat_lt LARGEST size) _ _ (CoversCall samples) (λ _. same) (λ _.
    cond_both (not (is_open state at.0)) _ _ (CoversCall samples) (λ _. same) (λ open_.
    cond_both (size == 0) _ _ (CoversCall samples) (λ _. same) (λ _.
    covers-charge samples state charge (refusing_level state.nodes (charges_in state) charge) h (not-false (is_open state at.0) open_) refl covers)))

-- what a child reserves counts at its parent as a charge does
held_of-child : (nodes : List TreeNode) (charges : List Charge) (child : TreeNode) (parent : AllocId) → child.parent ≡ Some parent → child.closed ≡ false → charged_at charges child.number.0 ≡ 0
    → (n : ℕ) → held_of (nodes ++ child ∷ []) charges n ≡ held_of nodes (record { at = parent; amount = child.reservation } ∷ charges) n
held_of-child [] charges child parent is open_ none n =
    let request : Charge = record { at = parent; amount = child.reservation } in
    let counts : is_open_child n child ≡ (parent.0 == n) = rw (is, open_) (and_true (parent.0 == n)) in
    let reserved : counted_at_parent child.reservation (charged_at charges child.number.0) ≡ child.reservation = omega (arith, none) in
    let here : cond (is_open_child n child) (counted_at_parent child.reservation (charged_at charges child.number.0)) 0 ≡ amount_at n request =
    ap (λ b. cond b (counted_at_parent child.reservation (charged_at charges child.number.0)) 0) counts ∙ ap (λ k. cond (parent.0 == n) k 0) reserved in
    omega (arith, here, sum_by-cons (amount_at n) request charges)
held_of-child (node ∷ nodes) charges child parent is open_ none n = elim (cases_Bool (is_open_child n node)) [
  | inl counts ↦ rw counts (omega (arith, held_of-child nodes charges child parent is open_ none n, held_of-child nodes charges child parent is open_ none node.number.0))
  | inr other ↦ rw other (omega (arith, held_of-child nodes charges child parent is open_ none n))
]

-- who owns no chunk is charged nothing
pub charged-none : (n : ℕ) (chunks : List Chunk) → All (λ chunk. chunk.owner.0 ≢ n) chunks → charged_at (charges_of chunks) n ≡ 0
charged-none n [] none = refl
charged-none n (chunk ∷ chunks) none =
    omega (
      arith,
      sum_by-cons (amount_at n) (charge_of chunk) (charges_of chunks),
      amount_at-other (charge_of chunk) n (λ same. All-head (λ (c : Chunk). c.owner.0 ≢ n) chunk chunks none (sym same)),
      charged-none n chunks (All-tail (λ (c : Chunk). c.owner.0 ≢ n) chunk chunks none),
    )

-- nobody is charged at a number that wasn't given
uncharged-next : (state : TreeState) → IsLawfulState state → charged_at (charges_in state) state.next ≡ 0
uncharged-next state h =
    charged-none state.next state.chunks (λ k d within.
    let chunk = get_or state.chunks k d in
    let found : Any (λ node. is_open_at chunk.owner.0 node ≡ true) state.nodes = Any-from_list_any (is_open_at chunk.owner.0) state.nodes (owner_open state chunk (h.chunks k d within)) in
    let bounds : IsWithinBounds state.next (get_or state.nodes found.0 found.1) = h.nodes found.0 found.1 found.2 in
    let given : (get_or state.nodes found.0 found.1).number.0 < state.next = bounds.given in
    λ same. omega (arith, same, given, ap (λ (x : TreeNode). x.number.0) found.3, (open_parts chunk.owner.0 found.1 found.4).0))

-- a child that a level may refuse
covers-after_child : (samples : List PeakSample) (state : TreeState) (parent : AllocId) (reservation limit : ℕ) (refusing : Option TreeNode) → IsLawfulState state → is_open state parent.0 ≡ true
    → refusing_level state.nodes (charges_in state) (record { at = parent; amount = reservation }) ≡ refusing → Covers samples state
    → Covers (samples ++ request_sample state.nodes (charges_in state) (record { at = parent; amount = reservation }) ∷ []) (after_child state (child_node state parent reservation limit) refusing)
covers-after_child samples state parent reservation limit None h open_ none covers n =
    omega (
      arith,
      held_of-child state.nodes (charges_in state) (child_node state parent reservation limit) parent refl refl (uncharged-next state h) n,
      covers-request samples state (record { at = parent; amount = reservation }) h.tree open_ none covers n,
    )
covers-after_child samples state parent reservation limit (Some level) h open_ is covers n =
    covers-more samples (request_sample state.nodes (charges_in state) (record { at = parent; amount = reservation })) state (record state { next = state.next + 1 }) (λ m. omega arith) covers n

covers-child : (samples : List PeakSample) (state : TreeState) (parent : AllocId) (reservation limit : ℕ) → IsLawfulState state → Covers samples state → CoversCall samples (child_result state parent reservation limit)
unfolding child_result
covers-child samples state parent reservation limit h covers =
    let same = covers-same samples state covers in
    cond_both (nat_lt limit reservation) _ _ (CoversCall samples) (λ _. same) (λ _.
    cond_both (not (is_open state parent.0)) _ _ (CoversCall samples) (λ _. same) (λ open_.
    cond_both (nat_le MOST_ALLOCATORS state.next) _ _ (CoversCall samples) (λ _. covers-less samples state (record state { next = state.next + 1 }) (λ n. omega arith) covers) (λ _.
    covers-after_child samples state parent reservation limit (refusing_level state.nodes (charges_in state) (record { at = parent; amount = reservation })) h (not-false (is_open state parent.0) open_) refl covers)))

-- closing lets nobody hold more
held_of-closed : (m : ℕ) (nodes : List TreeNode) (charges : List Charge) (n : ℕ) → held_of (with_closed m nodes) charges n ≤ held_of nodes charges n
held_of-closed m [] charges n = omega arith
held_of-closed m (node ∷ nodes) charges n =
    let rest = held_of-closed m nodes charges n in
    closed_both (λ x. held_of (x ∷ with_closed m nodes) charges n ≤ held_of (node ∷ nodes) charges n) m node
    (rw (and-false (is_number n node.parent)) (omega (arith, rest)))
    (elim (cases_Bool (is_open_child n node)) [
      | inl child ↦ rw child (omega (arith, rest, held_of-closed m nodes charges node.number.0))
      | inr other ↦ rw other (omega (arith, rest))
    ])

covers-close : (samples : List PeakSample) (state : TreeState) (at : AllocId) → Covers samples state → CoversCall samples (close_result state at)
unfolding close_result
covers-close samples state at covers =
    let same = covers-same samples state covers in
    cond_both (not (is_open state at.0)) _ _ (CoversCall samples) (λ _. same) (λ _.
    cond_both (nat_lt 0 (uses_of state at.0)) _ _ (CoversCall samples) (λ _. same)
    (λ _. covers-less samples state (record state { nodes = with_closed at.0 state.nodes }) (λ n. held_of-closed at.0 state.nodes (charges_in state) n) covers))

-- what a chunk charges at the allocator n
abbrev pub charged_for_it : ℕ → Chunk → ℕ
charged_for_it n chunk = amount_at n (charge_of chunk)

-- charges as a sum over chunks
pub charged-sum : (chunks : List Chunk) (n : ℕ) → charged_at (charges_of chunks) n ≡ sum_by (charged_for_it n) chunks
charged-sum [] n = refl
charged-sum (chunk ∷ chunks) n =
    omega (arith, sum_by-cons (amount_at n) (charge_of chunk) (charges_of chunks), sum_by-cons (charged_for_it n) chunk chunks, charged-sum chunks n)

-- the chunk of a reference is replaced, and everyone is charged the difference
charged-with : (state : TreeState) (of : Ref) (chunk new : Chunk) → IsLawfulState state → referred_chunk state of ≡ Some chunk → new.number ≡ chunk.number
    → (n : ℕ) → charged_at (charges_of (with_chunk new state.chunks)) n + charged_for_it n chunk ≡ charged_at (charges_in state) n + charged_for_it n new
charged-with state of chunk new h is number n =
    omega (
      arith,
      charged-sum (with_chunk new state.chunks) n,
      charged-sum state.chunks n,
      sum_by-with_chunk (charged_for_it n) of.chunk new chunk state.chunks (number ∙ referred_number state of chunk h is) h.in_order (referred_is_numbered state of chunk h is),
    )

-- in another's place with the same charge it lets nobody hold more
held-with_same : (state : TreeState) (of : Ref) (chunk new : Chunk) → IsLawfulState state → referred_chunk state of ≡ Some chunk → new.number ≡ chunk.number → ((n : ℕ) → charged_for_it n new ≡ charged_for_it n chunk)
    → (n : ℕ) → held_at (record state { chunks = with_chunk new state.chunks }) n ≤ held_at state n
held-with_same state of chunk new h is number same =
    held_of-le state.nodes (charges_of (with_chunk new state.chunks)) (charges_in state) (λ m. omega (arith, same m, charged-with state of chunk new h is number m))

-- with another, nobody holds more than with both
held-with_other : (state : TreeState) (of : Ref) (chunk new : Chunk) → IsLawfulState state → referred_chunk state of ≡ Some chunk → new.number ≡ chunk.number
    → (n : ℕ) → held_at (record state { chunks = with_chunk new state.chunks }) n ≤ held_of state.nodes (charge_of new ∷ charges_in state) n
held-with_other state of chunk new h is number =
    held_of-le state.nodes (charges_of (with_chunk new state.chunks)) (charge_of new ∷ charges_in state)
    (λ m. omega (arith, charged-with state of chunk new h is number m, sum_by-cons (amount_at m) (charge_of new) (charges_in state)))

-- and without the chunk nobody holds more
held-without : (state : TreeState) (of : Ref) (chunk : Chunk) (number : ℕ) → IsLawfulState state → referred_chunk state of ≡ Some chunk → number ≡ chunk.number
    → (n : ℕ) → held_at (record state { chunks = without_chunk number state.chunks }) n ≤ held_at state n
held-without state of chunk number h is same =
    held_of-le state.nodes (charges_of (without_chunk number state.chunks)) (charges_in state) (λ m. omega (
      arith,
      charged-sum (without_chunk number state.chunks) m,
      charged-sum state.chunks m,
      ap (λ k. sum_by (charged_for_it m) (without_chunk k state.chunks)) (same ∙ referred_number state of chunk h is),
      sum_by-without_chunk (charged_for_it m) of.chunk chunk state.chunks h.in_order (referred_is_numbered state of chunk h is),
    ))

-- a chunk whose charge moves, with the sample of the forced charge
covers-moved : (samples : List PeakSample) (state : TreeState) (of : Ref) (chunk new : Chunk) → IsLawfulState state → referred_chunk state of ≡ Some chunk → new.number ≡ chunk.number → is_open state new.owner.0 ≡ true → Covers samples state
    → Covers (samples ++ force_sample state (charge_of new) ∷ []) (record state { chunks = with_chunk new state.chunks })
covers-moved samples state of chunk new h is number open_ covers n =
    omega (arith, held-with_other state of chunk new h is number n, covers-force samples state (charge_of new) h.tree open_ covers n)

-- retaining a chunk that may be found
covers-retain_from : (samples : List PeakSample) (state : TreeState) (of : Ref) (target : AllocId) (found : Option Chunk) → IsLawfulState state → referred_chunk state of ≡ found → Covers samples state
    → CoversCall samples (option_map_or (retain_from state target) found (unchanged state (Err (RefusedRelease (released_at of)))))
covers-retain_from samples state of target None h is covers = covers-same samples state covers
covers-retain_from samples state of target (Some chunk) h is covers =
    let new = retained target.0 chunk in
    cond_both (not (is_open state target.0)) _ _ (CoversCall samples) (λ _. covers-same samples state covers)
    (λ _. covers-less samples state (record state { chunks = with_chunk new state.chunks }) (held-with_same state of chunk new h is refl (λ m. refl)) covers)

covers-retain : (samples : List PeakSample) (state : TreeState) (of : Ref) (target : AllocId) → IsLawfulState state → Covers samples state → CoversCall samples (retain_result state of target)
unfolding retain_result
covers-retain samples state of target h covers = covers-retain_from samples state of target (referred_chunk state of) h refl covers

-- transferring one
covers-transfer_from : (samples : List PeakSample) (state : TreeState) (of : Ref) (target : AllocId) (found : Option Chunk) → IsLawfulState state → referred_chunk state of ≡ found → Covers samples state
    → CoversCall samples (option_map_or (transfer_from state of.alloc target) found (unchanged state (Err (RefusedRelease (released_at of)))))
covers-transfer_from samples state of target None h is covers = covers-same samples state covers
covers-transfer_from samples state of target (Some chunk) h is covers =
    let kept = retained target.0 chunk in
    let moved : Chunk = record kept { owner = target } in
    cond_both (not (is_open state target.0)) _ _ (CoversCall samples) (λ _. covers-same samples state covers) (λ open_.
    cond_both (moves_charge of.alloc target chunk) _ _ (CoversCall samples) (λ _. covers-moved samples state of chunk moved h is refl (not-false (is_open state target.0) open_) covers)
    (λ _. covers-less samples state (record state { chunks = with_chunk kept state.chunks }) (held-with_same state of chunk kept h is refl (λ m. refl)) covers))

covers-transfer : (samples : List PeakSample) (state : TreeState) (of : Ref) (target : AllocId) → IsLawfulState state → Covers samples state → CoversCall samples (transfer_result state of target)
unfolding transfer_result
covers-transfer samples state of target h covers = covers-transfer_from samples state of target (referred_chunk state of) h refl covers

-- giving a reference to one back
covers-release_from : (samples : List PeakSample) (state : TreeState) (of : Ref) (found : Option Chunk) → IsLawfulState state → referred_chunk state of ≡ found → Covers samples state
    → CoversCall samples (option_map_or (release_from state of) found (unchanged state (Err (released_at of))))
covers-release_from samples state of None h is covers = covers-same samples state covers
covers-release_from samples state of (Some chunk) h is covers =
    let left = released of.alloc.0 chunk in
    let both = referred_lawful state of chunk h is in
    let After : List PeakSample → List Chunk → Type 0 = λ more chunks. Covers (samples ++ more) (record state { chunks = chunks }) in
    let force : List PeakSample = force_sample state (charge_of left) ∷ [] in
    let less : (n : ℕ) → held_at (record state { chunks = without_chunk left.number state.chunks }) n ≤ held_at state n = held-without state of chunk left.number h is refl in
    cond_both (has_ledger left.owner.0 left) (with_chunk left state.chunks) (without_chunk left.number state.chunks) (After (release_samples state chunk.owner left))
    (λ owns. cond_both (left.owner.0 == chunk.owner.0) [] force (λ more. After more (with_chunk left state.chunks))
    (λ same. covers-less samples state (record state { chunks = with_chunk left state.chunks })
    (held-with_same state of chunk left h is refl (λ m. ap (λ k. cond (k == m) chunk.size 0) (eqb-true left.owner.0 chunk.owner.0 same))) covers)
    (λ _. covers-moved samples state of chunk left h is refl (owner_open state left (lawful-released state chunk of.alloc.0 both.0 (referrer_open state chunk of.alloc.0 both.0 both.1) owns)) covers))
    (λ _. cond_both (left.owner.0 == chunk.owner.0) [] force (λ more. After more (without_chunk left.number state.chunks))
    (λ _. covers-less samples state (record state { chunks = without_chunk left.number state.chunks }) less covers)
    (λ _. covers-more samples (force_sample state (charge_of left)) state (record state { chunks = without_chunk left.number state.chunks }) less covers))

covers-release : (samples : List PeakSample) (state : TreeState) (of : Ref) → IsLawfulState state → Covers samples state → CoversCall samples (release_result state of)
unfolding release_result
covers-release samples state of h covers = covers-release_from samples state of (referred_chunk state of) h refl covers

-- each call keeps what is held within the peaks
covers-call : (samples : List PeakSample) (state : TreeState) (call : TreeCall) → IsLawfulState state → Covers samples state → CoversCall samples (call_result state call)
covers-call samples state (Child parent reservation limit) h covers = covers-child samples state parent reservation limit h covers
covers-call samples state (Close at) h covers = covers-close samples state at covers
covers-call samples state (Grant at request) h covers = covers-grant samples state at request h covers
covers-call samples state (Retain of target) h covers = covers-retain samples state of target h covers
covers-call samples state (Transfer of target) h covers = covers-transfer samples state of target h covers
covers-call samples state (Release of) h covers = covers-release samples state of h covers

-- so do calls one after the other
covers-calls : (samples : List PeakSample) (state : TreeState) (calls : List TreeCall) → IsLawfulState state → AreBoundedCalls calls → Covers samples state → Covers (samples ++ samples_of state calls) (state_after state calls)
covers-calls samples state [] h bounded covers = covers-same samples state covers
covers-calls samples state (call ∷ calls) h bounded covers =
    let first = (call_result state call).samples in
    let after = after_call state call in
    subst (λ all. Covers all (state_after after calls)) (append_assoc samples first (samples_of after calls))
    (covers-calls (samples ++ first) after calls (lawful-after_call state call h (All-head IsBoundedCall call calls bounded)) (All-tail IsBoundedCall call calls bounded) (covers-call samples state call h covers))

-- and calls from an opening
pub covers-reached : (limit : ℕ) (calls : List TreeCall) → limit ≤ MAX_LIMIT → AreBoundedCalls calls → (n : ℕ) → held_at (state_after (opened limit) calls) n ≤ peak_of (samples_of (opened limit) calls) n
covers-reached limit calls limited bounded = covers-calls [] (opened limit) calls (opened_lawful limit limited) bounded (λ n. omega arith)
