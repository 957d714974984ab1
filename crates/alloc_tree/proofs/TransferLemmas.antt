-- A transfer is one reference more, and then the charge is taken over.
use Rattle.std.proofs.Common.{◌≡◌, ◌≢◌, ◌+◌, ◌≤◌, List, [], ◌∷◌, eqb, Bool, true, not, is_some, Option, Some}
use Rattle.std.proofs.Common.{None, Result, Ok, Err, IsErrAnd, refl, sym, ap, subst, ◌∙◌, arith, inl, inr, eq-eqb}
use Rattle.std.specs.Option.{option_map_or}
use Rattle.std.proofs.lemmas.Bool.{cases_Bool, cond-true, cond-false, eqb-true}
use Rattle.mem_num.specs.declared.alloc_id.AllocId.{AllocId}
use Rattle.mem_num.specs.declared.buffer_ref.Ref.{Ref}
use Rattle.mem_num.specs.declared.solo_refused.SoloRefused.{SoloRefused}
use Rattle.mem_num.specs.declared.solo_refused.SoloRefused.TheVariants.{Released, Closed, NoMemory}
use Rattle.mem_model.specs.declared.charge.Charge.{Charge}
use Rattle.mem_model.specs.Chunk.{Chunk, charge_of, charges_of, in_place_of, retained, with_chunk, chunk_at, AreInNumberOrder}
use Rattle.mem_model.specs.Force.{force_sample_of}
use Rattle.mem_model.specs.LawfulState.{IsLawfulState}
use Rattle.mem_model.specs.Ledgers.{count_of}
use Rattle.mem_model.specs.MeasuredTree.{MeasuredTree, IsAfterCall, peak_at, raised_peaks}
use Rattle.mem_model.specs.References.{referred_chunk, reference_to, released_at}
use Rattle.mem_model.specs.Request.{refusing_level}
use Rattle.mem_model.specs.Retain.{retain_result}
use Rattle.mem_model.specs.Transfer.{moves_charge, moved_result, transfer_result}
use Rattle.mem_model.specs.TreeState.{TreeState, CallResult, unchanged, is_open, closed_at}
use Rattle.mem_model.proofs.ChunkSumLemmas.{later-other, with_chunk-none}
use Rattle.mem_model.proofs.CallResultLemmas.{retain-nothing, retain-closed, retain-given, transfer-nothing, transfer-closed}
use Rattle.mem_model.proofs.CallResultLemmas.{transfer-moved, transfer-kept}
use Rattle.mem_model.proofs.LedgerCountLemmas.{count_of-with_count}
use Rattle.alloc_tree.specs.TakeOver.{taken_over, take_over_from, take_over_result}
use Rattle.alloc_tree.proofs.ChunkLemmas.{order_tail}
use Rattle.alloc_tree.proofs.DoneLemmas.{IsReferred, referred}

-- where retaining is refused, both calls change nothing, and answer the same
pub record AreRefused (state : TreeState) (of : Ref) (target : AllocId) (refused : SoloRefused) : Type 0 where
  pub retain : retain_result state of target ≡ unchanged state (Err refused)
  pub transfer : transfer_result state of target ≡ unchanged state (Err refused)

-- where it isn't refused, the reference is to a chunk, and the target is open
pub record IsRetained (state : TreeState) (of : Ref) (target : AllocId) (reference : Ref) (chunk : Chunk) : Type 0 where
  pub found : referred_chunk state of ≡ Some chunk
  pub open_ : is_open state target.0 ≡ true
  pub told : reference ≡ reference_to chunk target

module _ (state : TreeState) (of : Ref) (target : AllocId) where
  both_refused : (cause refused : SoloRefused) → retain_result state of target ≡ unchanged state (Err cause)
      → transfer_result state of target ≡ unchanged state (Err cause)
      → Err refused ≡ (retain_result state of target).answer → AreRefused state of target refused
  both_refused cause refused retain transfer told =
      let both : Err refused ≡ Err cause = told ∙ ap (λ call. call.answer) retain in
      let same : refused ≡ cause = cc in
      record {
        retain = retain ∙ ap (λ e. unchanged state (Err e)) (sym same);
        transfer = transfer
            ∙ ap (λ e. unchanged state (Err e)) (sym same);
      }

  refused_by : (refused : SoloRefused) (found : Option Chunk) → referred_chunk state of ≡ found
      → Err refused ≡ (retain_result state of target).answer → AreRefused state of target refused
  refused_by refused None is told = both_refused (Released (released_at of)) refused (retain-nothing state of target is)
      (transfer-nothing state of target is) told
  refused_by refused (Some chunk) is told = elim (cases_Bool (is_open state target.0)) [
    | inl open_ ↦ absurd (let both : Err refused ≡ Ok (reference_to chunk target) = told
        ∙ ap (λ call. call.answer) (retain-given state of target chunk is open_) in cc)
    | inr shut ↦ both_refused (Closed (closed_at target)) refused (retain-closed state of target chunk is shut)
        (transfer-closed state of target chunk is shut) told
  ]

  pub are_refused : (refused : SoloRefused) → Err refused ≡ (retain_result state of target).answer
      → AreRefused state of target refused
  are_refused refused told = refused_by refused (referred_chunk state of) refl told

  retained_by : (reference : Ref) (found : Option Chunk) → referred_chunk state of ≡ found
      → Ok reference ≡ (retain_result state of target).answer
      → (chunk : Chunk) × IsRetained state of target reference chunk
  retained_by reference None is told = absurd (
      let both : Ok reference ≡ Err (Released (released_at of)) = told
      ∙ ap (λ call. call.answer) (retain-nothing state of target is) in cc)
  retained_by reference (Some chunk) is told = elim (cases_Bool (is_open state target.0)) [
    | inl open_ ↦ (
        let both : Ok reference ≡ Ok (reference_to chunk target) = told
        ∙ ap (λ call. call.answer) (retain-given state of target chunk is open_) in
        (chunk, record { found = is; open_ = open_; told = cc }))
    | inr shut ↦ absurd (
        let both : Ok reference ≡ Err (Closed (closed_at target)) = told
        ∙ ap (λ call. call.answer) (retain-closed state of target chunk is shut) in cc)
  ]

  pub is_retained : (reference : Ref) → Ok reference ≡ (retain_result state of target).answer
      → (chunk : Chunk) × IsRetained state of target reference chunk
  is_retained reference told = retained_by reference (referred_chunk state of) refl told

-- the refusal that is passed on
pub passed_on : {A : Type 0} (r : Result A SoloRefused) (refused : SoloRefused) → IsErrAnd r (λ e. e ≡ refused) → r ≡ Err refused
passed_on (Ok x) refused h = absurd h
passed_on (Err e) refused h = ap Err h

pub not_memory : {A B : Type 0} (r : Result A SoloRefused) (refused : SoloRefused) → r ≡ Err refused → r ≢ Err NoMemory
    → ◌≢◌ {A = Result B SoloRefused} (Err refused) (Err NoMemory)
not_memory r refused is other same = let e : refused ≡ NoMemory = cc in other (is ∙ ap Err e)

pub after_refused : {A B : Type 0} (old new : MeasuredTree) (retain : CallResult A) (transfer : CallResult B) (a : A) (b : B)
    → retain ≡ unchanged old.state a → transfer ≡ unchanged old.state b → IsAfterCall old retain new
    → IsAfterCall old transfer new
after_refused old new retain transfer a b retains transfers after =
    let h = subst (λ call. IsAfterCall old call new) retains after in
    subst (λ call. IsAfterCall old call new) (sym transfers) (record { state = h.state; peaks = h.peaks })

-- the chunk in the place of another is found at its number
with_chunk-at : (new old : Chunk) (chunks : List Chunk) → chunk_at chunks new.number ≡ Some old
    → chunk_at (with_chunk new chunks) new.number ≡ Some new
with_chunk-at new old [] at = absurd cc
with_chunk-at new old (c ∷ cs) at =
    let self : eqb new.number new.number ≡ true = eq-eqb new.number new.number refl in
    elim (cases_Bool (eqb c.number new.number)) [
      | inl same ↦ rw (same, self) refl
      | inr other ↦ rw (other, other) (with_chunk-at new old cs (rw other at at))
    ]

-- and another one in its place again
with_chunk-twice : (first second : Chunk) (chunks : List Chunk) → first.number ≡ second.number
    → with_chunk second (with_chunk first chunks) ≡ with_chunk second chunks
with_chunk-twice first second [] same = refl
with_chunk-twice first second (c ∷ cs) same =
    let rest = with_chunk-twice first second cs same in
    let its : eqb first.number second.number ≡ true = eq-eqb first.number second.number same in
    elim (cases_Bool (eqb c.number first.number)) [
      | inl here ↦ (let here' : eqb c.number second.number ≡ true = ap (eqb c.number) (sym same) ∙ here in
          rw (here, its, here') (ap (λ xs. second ∷ xs) rest))
      | inr there ↦ rw there (ap (λ xs. in_place_of second c ∷ xs) rest)
    ]

-- with the same charge, all charges are the same
charges-with_chunk : (new old : Chunk) (chunks : List Chunk) → AreInNumberOrder chunks → chunk_at chunks new.number ≡ Some old
    → charge_of new ≡ charge_of old
    → charges_of (with_chunk new chunks) ≡ charges_of chunks
charges-with_chunk new old [] ordered at same = refl
charges-with_chunk new old (c ∷ cs) ordered at same = elim (cases_Bool (eqb c.number new.number)) [
  | inl here ↦ (
      let first : Some c ≡ Some old = rw here at at in
      let is : old ≡ c = cc in
      let rest = with_chunk-none new cs (later-other c cs new.number ordered (eqb-true c.number new.number here)) in
      let whole : with_chunk new (c ∷ cs) ≡ new ∷ cs = rw here (ap (λ xs. new ∷ xs) rest) in
      ap charges_of whole ∙ ap (λ charge. charge ∷ charges_of cs) (same ∙ ap charge_of is))
  | inr there ↦ rw there (ap (λ charges. charge_of c ∷ charges)
      (charges-with_chunk new old cs (order_tail c cs ordered) (rw there at at) same))
]

-- the tree with one reference more
abbrev pub state_retained : TreeState → AllocId → Chunk → TreeState
state_retained state target chunk = record state { chunks = with_chunk (retained target.0 chunk) state.chunks }

-- a call whose answer is told with a reference
abbrev pub with_reference : Ref → CallResult Bool → CallResult (Result (Ref × Bool) SoloRefused)
with_reference reference call = record { answer = Ok (reference, call.answer); state = call.state; samples = call.samples }

moved_as : TreeState → AllocId → Chunk → List Chunk → List Charge → CallResult (Result (Ref × Bool) SoloRefused)
moved_as state target chunk chunks charges =
    let force : Charge = record { at = target; amount = chunk.size } in
    record {
      answer = Ok (reference_to chunk target, not (is_some (refusing_level state.nodes charges force)));
      state = record state { chunks = chunks };
      samples = force_sample_of state.nodes charges force ∷ [];
    }

-- the charge is moved on the tree with one reference more as on the tree before
moved_alike : (state : TreeState) (target : AllocId) (chunk : Chunk) → AreInNumberOrder state.chunks
    → chunk_at state.chunks chunk.number ≡ Some chunk
    → moved_result state target chunk
    ≡ with_reference (reference_to chunk target) (taken_over (state_retained state target chunk) target (retained target.0 chunk))
unfolding moved_as
moved_alike state target chunk ordered at =
    let more = retained target.0 chunk in
    let moved : Chunk = record more { owner = target } in
    ap (moved_as state target chunk (with_chunk moved state.chunks)) (sym (charges-with_chunk more chunk state.chunks ordered at refl))
    ∙ ap (λ cs. moved_as state target chunk cs (charges_of (with_chunk more state.chunks)))
    (sym (with_chunk-twice more moved state.chunks refl))

module _ {state : TreeState} {of : Ref} {chunk : Chunk} (lawful : IsLawfulState state) (h : IsReferred state of chunk)
    (target : AllocId) where
  -- the chunk with one reference more is found at the reference's number
  more_at : chunk_at (with_chunk (retained target.0 chunk) state.chunks) of.chunk ≡ Some (retained target.0 chunk)
  more_at = ap (chunk_at (with_chunk (retained target.0 chunk) state.chunks)) (sym h.number)
      ∙ with_chunk-at (retained target.0 chunk) chunk state.chunks h.own

  -- so a transfer is both calls
  transfer_is : is_open state target.0 ≡ true
      → transfer_result state of target
      ≡ with_reference (reference_to chunk target) (take_over_result (state_retained state target chunk) of target)
  transfer_is open_ =
      let more = retained target.0 chunk in
      let after = state_retained state target chunk in
      let take : take_over_result after of target ≡ take_over_from after of.alloc target more =
      ap (λ o. option_map_or (take_over_from after of.alloc target) o (unchanged after true)) more_at in
      let moves = moves_charge of.alloc target chunk in
      elim (cases_Bool moves) [
        | inl yes' ↦ transfer-moved state of target chunk h.found open_ yes' ∙ moved_alike state target chunk lawful.in_order h.own
            ∙ ap (with_reference (reference_to chunk target))
            (sym (take ∙ cond-true moves (taken_over after target more) (unchanged after true) yes'))
        | inr no' ↦ transfer-kept state of target chunk h.found open_ no'
            ∙ ap (with_reference (reference_to chunk target))
            (sym (take ∙ cond-false moves (taken_over after target more) (unchanged after true) no'))
      ]

module _ (old mid : MeasuredTree) (of : Ref) (target : AllocId) (reference : Ref) (lawful : IsLawfulState old.state)
    (given : (chunk : Chunk) × IsRetained old.state of target reference chunk)
    (first : IsAfterCall old (retain_result old.state of target) mid) where
  -- the tree that retaining leaves
  retained_first : IsAfterCall {A = Result Ref SoloRefused} old
      (record { answer = Ok (reference_to given.0 target); state = state_retained old.state target given.0; samples = [] }) mid
  retained_first = subst (λ call. IsAfterCall old call mid) (retain-given old.state of target given.0 given.1.found given.1.open_) first

  -- there the target refers to the chunk
  pub target_refers : (found : Chunk) → chunk_at mid.state.chunks of.chunk ≡ Some found → 1 ≤ count_of found.ledgers target.0
  target_refers found at =
      let chunk = given.0 in
      let h = referred of chunk lawful given.1.found in
      let more = retained target.0 chunk in
      let both : Some more ≡ Some found = sym (more_at lawful h target)
      ∙ ap (λ (s : TreeState). chunk_at s.chunks of.chunk) (sym retained_first.state) ∙ at in
      let same : more ≡ found = cc in
      omega (
        arith,
        ap (λ (c : Chunk). count_of c.ledgers target.0) same,
        count_of-with_count chunk.ledgers target.0 (count_of chunk.ledgers target.0 + 1) h.lawful.in_order,
      )

  -- both calls, one after the other
  pub both_done : (new : MeasuredTree) (fits : Bool) → fits ≡ (take_over_result mid.state of target).answer
      → IsAfterCall mid (take_over_result mid.state of target) new
      → (Ok (reference, fits) ≡ (transfer_result old.state of target).answer)
      × IsAfterCall old (transfer_result old.state of target) new
  both_done new fits told second =
      let one = retained_first in
      let after = state_retained old.state target given.0 in
      let mid_is : mid.state ≡ after = one.state in
      let is = transfer_is lawful (referred of given.0 lawful given.1.found) target given.1.open_ in
      let take : TreeState → CallResult Bool = λ s. take_over_result s of target in
      let peaks : peak_at mid ≡ peak_at old = λ i n. one.peaks n i in
      let answer : Ok (reference, fits) ≡ Ok (reference_to given.0 target, (take after).answer) =
      ap (λ r. Ok (r, fits)) given.1.told
      ∙ ap (λ b. Ok (reference_to given.0 target, b)) (told ∙ ap (λ s. (take s).answer) mid_is) in (
        answer ∙ sym (ap (λ call. call.answer) is),
        subst (λ call. IsAfterCall old call new) (sym is) (record {
          state = second.state ∙ ap (λ s. (take s).state) mid_is;
          peaks = λ n. second.peaks n ∙ ap (λ s. raised_peaks (peak_at mid) (take s).samples n) mid_is
              ∙ ap (λ f. raised_peaks f (take after).samples n) peaks;
        }),
      )
