-- Further references and their release, as calls of the memory of one thread.
use Rattle.std.proofs.Common.{◌≡◌, ◌≢◌, Bool, true, false, not, refl, sym, ap, subst, arith, Option, Some, None}
use Rattle.std.proofs.lemmas.Bool.{cond_both, cond-false, not-true, eqb-true}
use Rattle.std.specs.Prelude.{Result, Ok, Err}
use Rattle.std.specs.Option.{option_map_or}
use Rattle.mem_num.specs.declared.alloc_id.AllocId.{AllocId}
use Rattle.mem_num.specs.declared.buffer_ref.Ref.{Ref}
use Rattle.mem_num.specs.declared.released.Released.{Released}
use Rattle.mem_num.specs.declared.solo_refused.SoloRefused.{SoloRefused}
use Rattle.mem_num.specs.declared.solo_refused.SoloRefused.TheVariants as solo
use Rattle.mem_model.specs.Chunk.{Chunk}
use Rattle.mem_model.specs.LawfulState.{IsLawfulState}
use Rattle.mem_model.specs.MeasuredTree.{MeasuredTree, IsAfterCall}
use Rattle.mem_model.specs.References.{referred_chunk, released_at}
use Rattle.mem_model.specs.Release.{release_from, release_result}
use Rattle.mem_model.specs.Retain.{retain_from, retain_result}
use Rattle.mem_model.specs.Transfer.{moves_charge, transfer_from, transfer_result}
use Rattle.mem_model.specs.TreeState.{TreeState, CallResult, unchanged, is_open}
use Rattle.mem_model.proofs.CallResultLemmas.{retain-nothing, transfer-nothing, release-nothing}
use Rattle.mem_model.proofs.ReferenceLemmas.{referred_lawful, referred_number}
use Rattle.mem_buf.specs.Answers.{IsFurther, IsRetainAnswer, IsTransferAnswer}
use Rattle.mem_buf.specs.MemoryCall.{Retain, Transfer, Release}
use Rattle.mem_buf.specs.TokenView.{is_empty}
use Rattle.alloc_tree.specs.SoloMeaning.{empty_at, told_further, told_moved, told_gone, SoloMeans}
use Rattle.alloc_tree.specs.SoloView.{solo_view}
use Rattle.alloc_tree.proofs.DoneLemmas.{IsTold, unchanged_told}

-- no chunk is referred to by the empty buffer
unreferred : (state : TreeState) (of : Ref) (found : Option Chunk) → IsLawfulState state → is_empty of ≡ true
    → referred_chunk state of ≡ found → found ≡ None
unreferred state of None lawful empty is = refl
unreferred state of (Some chunk) lawful empty is =
    let some = (referred_lawful state of chunk lawful is).0.some in
    let number = referred_number state of chunk lawful is in
    absurd (omega (arith, eqb-true of.chunk 0 empty))

-- a call for a further reference, by the clauses of the tree's own
pub record IsShareCall {A : Type 0} (answer : Result A SoloRefused) (call : CallResult (Result A SoloRefused))
    (old new : MeasuredTree) : Type 0 where
  pub told : answer ≢ Err solo.NoMemory → answer ≡ call.answer
  pub after : answer ≢ Err solo.NoMemory → IsAfterCall old call new
  pub same : answer ≡ Err solo.NoMemory → new ≡ old

-- what holds of the tree before, and of the one that the definition leaves, holds of the tree after
left-share : {A : Type 0} (P : TreeState → Type 0) (answer : Result A SoloRefused) {call : CallResult (Result A SoloRefused)}
    (old new : MeasuredTree) → IsShareCall answer call old new → P old.state → P call.state → P new.state
left-share P (Ok given) old new share before left = subst P (sym (share.after (λ e. cc)).state) left
left-share P (Err (solo.Released refused)) old new share before left = subst P (sym (share.after (λ e. cc)).state) left
left-share P (Err (solo.Closed refused)) old new share before left = subst P (sym (share.after (λ e. cc)).state) left
left-share P (Err solo.NoMemory) old new share before left = subst (λ (tree : MeasuredTree). P tree.state) (sym (share.same refl)) before

-- what holds of an answer that the definition gives holds of the one that was told, if it holds of want of memory
told-share : {A : Type 0} (P : Result A SoloRefused → Type 0) (answer : Result A SoloRefused) {call : CallResult (Result A SoloRefused)}
    (old new : MeasuredTree) → IsShareCall answer call old new → P (Err solo.NoMemory) → P call.answer → P answer
told-share P (Ok given) old new share none is = subst P (sym (share.told (λ e. cc))) is
told-share P (Err (solo.Released refused)) old new share none is = subst P (sym (share.told (λ e. cc))) is
told-share P (Err (solo.Closed refused)) old new share none is = subst P (sym (share.told (λ e. cc))) is
told-share P (Err solo.NoMemory) old new share none is = none

-- the empty buffer is a further reference to whatever was given back
pub further-empty : (of : Ref) (target : AllocId) → IsFurther of target (empty_at target)
further-empty of target = record { place = refl; same = λ e. absurd cc; empty = λ _. refl }

-- a further reference to a chunk
module _ (of : Ref) (target : AllocId) where
  -- retaining leaves the allocators
  nodes-retain_from : (state : TreeState) (found : Option Chunk)
      → (option_map_or (retain_from state target) found (unchanged state (Err (solo.Released (released_at of))))).state.nodes ≡ state.nodes
  nodes-retain_from state None = refl
  nodes-retain_from state (Some chunk) =
      let P : CallResult (Result Ref SoloRefused) → Type 0 = λ result. result.state.nodes ≡ state.nodes in
      cond_both (not (is_open state target.0)) _ _ P (λ _. refl) (λ _. refl)

  nodes-retain_result : (state : TreeState) → (retain_result state of target).state.nodes ≡ state.nodes
  unfolding retain_result
  nodes-retain_result state = nodes-retain_from state (referred_chunk state of)

  pub nodes-retain : (answer : Result Ref SoloRefused) (old new : MeasuredTree)
      → IsShareCall answer (retain_result old.state of target) old new → new.state.nodes ≡ old.state.nodes
  nodes-retain answer old new share =
      left-share (λ state. state.nodes ≡ old.state.nodes) answer old new share refl (nodes-retain_result old.state)

  -- and so does transferring
  nodes-transfer_from : (state : TreeState) (found : Option Chunk)
      → (option_map_or (transfer_from state of.alloc target) found (unchanged state (Err (solo.Released (released_at of))))).state.nodes
      ≡ state.nodes
  nodes-transfer_from state None = refl
  nodes-transfer_from state (Some chunk) =
      let P : CallResult (Result (Ref × Bool) SoloRefused) → Type 0 = λ result. result.state.nodes ≡ state.nodes in
      cond_both (not (is_open state target.0)) _ _ P (λ _. refl) (λ _.
      cond_both (moves_charge of.alloc target chunk) _ _ P (λ _. refl) (λ _. refl))

  nodes-transfer_result : (state : TreeState) → (transfer_result state of target).state.nodes ≡ state.nodes
  unfolding transfer_result
  nodes-transfer_result state = nodes-transfer_from state (referred_chunk state of)

  pub nodes-transfer : (answer : Result (Ref × Bool) SoloRefused) (old new : MeasuredTree)
      → IsShareCall answer (transfer_result old.state of target) old new → new.state.nodes ≡ old.state.nodes
  nodes-transfer answer old new share =
      left-share (λ state. state.nodes ≡ old.state.nodes) answer old new share refl (nodes-transfer_result old.state)

  -- what retaining is answered
  answer-retain_from : (tree : MeasuredTree) (found : Option Chunk) → IsLawfulState tree.state → is_empty of ≡ false
      → referred_chunk tree.state of ≡ found
      → IsRetainAnswer (solo_view tree) of target (told_further target
      (option_map_or (retain_from tree.state target) found (unchanged tree.state (Err (solo.Released (released_at of))))).answer)
  answer-retain_from tree None lawful filled is = further-empty of target
  answer-retain_from tree (Some chunk) lawful filled is =
      let open_ = is_open tree.state target.0 in
      let P : CallResult (Result Ref SoloRefused) → Type 0 = λ result. IsRetainAnswer (solo_view tree) of target
      (told_further target result.answer) in
      cond_both (not open_) _ _ P (λ shut. (filled, refl, cond-false open_ 1 0 (not-true open_ shut)))
      (λ _. record { place = refl; same = λ _. referred_number tree.state of chunk lawful is; empty = λ e. absurd cc })

  answer-retain_result : (tree : MeasuredTree) → IsLawfulState tree.state → is_empty of ≡ false
      → IsRetainAnswer (solo_view tree) of target (told_further target (retain_result tree.state of target).answer)
  unfolding retain_result
  answer-retain_result tree lawful filled = answer-retain_from tree (referred_chunk tree.state of) lawful filled refl

  pub answer-retain : (answer : Result Ref SoloRefused) (old new : MeasuredTree) → IsLawfulState old.state → is_empty of ≡ false
      → IsShareCall answer (retain_result old.state of target) old new
      → IsRetainAnswer (solo_view old) of target (told_further target answer)
  answer-retain answer old new lawful filled share =
      told-share (λ told. IsRetainAnswer (solo_view old) of target (told_further target told)) answer old new share filled
      (answer-retain_result old lawful filled)

  -- what transferring is answered
  answer-transfer_from : (tree : MeasuredTree) (found : Option Chunk) → IsLawfulState tree.state → is_empty of ≡ false
      → referred_chunk tree.state of ≡ found
      → IsTransferAnswer (solo_view tree) of target (told_moved target
      (option_map_or (transfer_from tree.state of.alloc target) found (unchanged tree.state (Err (solo.Released (released_at of))))).answer)
  answer-transfer_from tree None lawful filled is = (further-empty of target, λ _. refl)
  answer-transfer_from tree (Some chunk) lawful filled is =
      let open_ = is_open tree.state target.0 in
      let P : CallResult (Result (Ref × Bool) SoloRefused) → Type 0 =
      λ result. IsTransferAnswer (solo_view tree) of target (told_moved target result.answer) in
      let same = referred_number tree.state of chunk lawful is in
      cond_both (not open_) _ _ P (λ shut. (filled, refl, cond-false open_ 1 0 (not-true open_ shut))) (λ _.
      cond_both (moves_charge of.alloc target chunk) _ _ P
      (λ _. (record { place = refl; same = λ _. same; empty = λ e. absurd cc }, λ e. absurd cc))
      (λ _. (record { place = refl; same = λ _. same; empty = λ e. absurd cc }, λ e. absurd cc)))

  answer-transfer_result : (tree : MeasuredTree) → IsLawfulState tree.state → is_empty of ≡ false
      → IsTransferAnswer (solo_view tree) of target (told_moved target (transfer_result tree.state of target).answer)
  unfolding transfer_result
  answer-transfer_result tree lawful filled = answer-transfer_from tree (referred_chunk tree.state of) lawful filled refl

  pub answer-transfer : (answer : Result (Ref × Bool) SoloRefused) (old new : MeasuredTree) → IsLawfulState old.state → is_empty of ≡ false
      → IsShareCall answer (transfer_result old.state of target) old new
      → IsTransferAnswer (solo_view old) of target (told_moved target answer)
  answer-transfer answer old new lawful filled share =
      told-share (λ told. IsTransferAnswer (solo_view old) of target (told_moved target told)) answer old new share filled
      (answer-transfer_result old lawful filled)

  -- their meaning
  pub means-retain : (answer : Result Ref SoloRefused) (old new : MeasuredTree) → is_empty of ≡ false
      → IsShareCall answer (retain_result old.state of target) old new → SoloMeans (Retain of target (told_further target answer)) old new
  means-retain (Ok given) old new filled share =
      record {
        tree_call = record { answer_is = ap (told_further target) (share.told (λ e. cc)); after = share.after (λ e. cc) };
        empty = λ e. absurd cc;
      }
  means-retain (Err (solo.Released refused)) old new filled share =
      record {
        tree_call = record { answer_is = ap (told_further target) (share.told (λ e. cc)); after = share.after (λ e. cc) };
        empty = λ e. absurd cc;
      }
  means-retain (Err (solo.Closed refused)) old new filled share =
      record {
        tree_call = record { answer_is = ap (told_further target) (share.told (λ e. cc)); after = share.after (λ e. cc) };
        empty = λ e. absurd cc;
      }
  means-retain (Err solo.NoMemory) old new filled share = share.same refl

  pub means-transfer : (answer : Result (Ref × Bool) SoloRefused) (old new : MeasuredTree) → is_empty of ≡ false
      → IsShareCall answer (transfer_result old.state of target) old new → SoloMeans (Transfer of target (told_moved target answer)) old new
  means-transfer (Ok given) old new filled share =
      record {
        tree_call = record { answer_is = ap (told_moved target) (share.told (λ e. cc)); after = share.after (λ e. cc) };
        empty = λ e. absurd cc;
      }
  means-transfer (Err (solo.Released refused)) old new filled share =
      record {
        tree_call = record { answer_is = ap (told_moved target) (share.told (λ e. cc)); after = share.after (λ e. cc) };
        empty = λ e. absurd cc;
      }
  means-transfer (Err (solo.Closed refused)) old new filled share =
      record {
        tree_call = record { answer_is = ap (told_moved target) (share.told (λ e. cc)); after = share.after (λ e. cc) };
        empty = λ e. absurd cc;
      }
  means-transfer (Err solo.NoMemory) old new filled share = share.same refl

  -- of the empty buffer
  pub means-retain_empty : (tree : MeasuredTree) → IsLawfulState tree.state → is_empty of ≡ true
      → SoloMeans (Retain of target (Ok (empty_at target))) tree tree
  means-retain_empty tree lawful empty =
      let call = retain-nothing tree.state of target (unreferred tree.state of (referred_chunk tree.state of) lawful empty refl) in
      let is : IsTold tree (retain_result tree.state of target) (Err (solo.Released (released_at of))) = unchanged_told tree call in
      record { tree_call = record { answer_is = ap (told_further target) is.told; after = is.after }; empty = λ _. refl }

  pub means-transfer_empty : (tree : MeasuredTree) → IsLawfulState tree.state → is_empty of ≡ true
      → SoloMeans (Transfer of target (Ok (empty_at target, true))) tree tree
  means-transfer_empty tree lawful empty =
      let call = transfer-nothing tree.state of target (unreferred tree.state of (referred_chunk tree.state of) lawful empty refl) in
      let is : IsTold tree (transfer_result tree.state of target) (Err (solo.Released (released_at of))) = unchanged_told tree call in
      record { tree_call = record { answer_is = ap (told_moved target) is.told; after = is.after }; empty = λ _. refl }

-- giving back
module _ (of : Ref) where
  nodes-release_from : (state : TreeState) (found : Option Chunk)
      → (option_map_or (release_from state of) found (unchanged state (Err (released_at of)))).state.nodes ≡ state.nodes
  nodes-release_from state None = refl
  nodes-release_from state (Some chunk) = refl

  pub nodes-release : (state : TreeState) → (release_result state of).state.nodes ≡ state.nodes
  unfolding release_result
  nodes-release state = nodes-release_from state (referred_chunk state of)

  -- the empty buffer
  pub means-release_empty : (tree : MeasuredTree) → IsLawfulState tree.state → is_empty of ≡ true → SoloMeans (Release of false) tree tree
  means-release_empty tree lawful empty =
      let call = release-nothing tree.state of (unreferred tree.state of (referred_chunk tree.state of) lawful empty refl) in
      let is : IsTold tree (release_result tree.state of) (Err (released_at of)) = unchanged_told tree call in
      record { tree_call = record { answer_is = ap told_gone is.told; after = is.after }; empty = λ _. refl }

  -- any other
  pub means-release : (answer : Result Bool Released) (old new : MeasuredTree) → is_empty of ≡ false
      → answer ≡ (release_result old.state of).answer → IsAfterCall old (release_result old.state of) new
      → SoloMeans (Release of (told_gone answer)) old new
  means-release answer old new filled told after =
      record { tree_call = record { answer_is = ap told_gone told; after = after }; empty = λ e. absurd cc }
