-- What the calls of a tree are, by the cause that stands.
use Rattle.std.proofs.Common.{◌≡◌, ℕ, ◌+◌, ◌<◌, ◌≤◌, true, false, not, nat_lt, nat_le, ◌==◌, [], if◌then◌else◌, sym, ap, ◌∙◌, arith, Ok, Err, Some, None}
use Rattle.std.specs.Option.{option_map_or}
use Rattle.std.proofs.lemmas.Bool.{cond-true, cond-false, lt-ltb, ltb-true, ltb-false, le-ltb, le-leb, lt-leb, eq-eqb, ne_eqb, not_from_true, not_from_false}
use Rattle.mem_num.specs.Rounded.{rounded_size}
use Rattle.mem_num.specs.declared.bounds.TheConstants.{LARGEST, MOST_ALLOCATORS}
use Rattle.mem_num.specs.declared.rounding.Rounding.TheVariants.{Power}
use Rattle.mem_num.specs.declared.alloc_id.AllocId.{AllocId}
use Rattle.mem_num.specs.declared.buffer_refused.BufferRefused.TheVariants.{TooLarge as RefusedSize, Closed}
use Rattle.mem_num.specs.declared.too_large.TooLarge.{TooLarge}
use Rattle.mem_num.specs.declared.child_refused.ChildRefused.TheVariants.{ReserveAboveLimit, Nodes, Closed as ParentClosed}
use Rattle.mem_num.specs.declared.buffer_ref.Ref.{Ref}
use Rattle.mem_num.specs.declared.solo_refused.SoloRefused.TheVariants.{Released as RefusedRelease, Closed as TargetClosed}
use Rattle.mem_num.specs.declared.not_closed.NotClosed.TheVariants.{InUse, Closed as WasClosed}
use Rattle.mem_model.specs.Chunk.{Chunk, retained, with_chunk}
use Rattle.mem_model.specs.References.{referred_chunk, reference_to, released_at}
use Rattle.mem_model.specs.Retain.{retain_from, retain_result}
use Rattle.mem_model.specs.Transfer.{moves_charge, moved_result, kept_result, transfer_from, transfer_result}
use Rattle.mem_model.specs.Release.{release_from, release_result}
use Rattle.mem_model.specs.TreeState.{TreeState, unchanged, closed_at, is_open, uses_of}
use Rattle.mem_model.specs.Grant.{charge_result, grant_result}
use Rattle.mem_model.specs.Child.{made_result, child_result}
use Rattle.mem_model.specs.Close.{with_closed, close_result}

-- a request for a buffer of so many bytes, rounded
module _ (state : TreeState) (at : AllocId) (request : ℕ) where
  -- too large
  pub grant-too_large : (refused : TooLarge) → refused.request ≡ request → (rounded_size Power request ≤ LARGEST → ⊥) → grant_result state at request ≡ unchanged state (Err (RefusedSize refused))
  unfolding grant_result
  grant-too_large refused same large =
      let size = rounded_size Power request in
      cond-true (nat_lt LARGEST size) _ _ (lt-ltb LARGEST size (omega (arith, large))) ∙ ap (λ (n : ℕ). unchanged state (Err (RefusedSize (record { request = n })))) (sym same)

  -- at an allocator that isn't open
  pub grant-closed : (size : ℕ) → size ≡ rounded_size Power request → rounded_size Power request ≤ LARGEST → is_open state at.0 ≡ false → grant_result state at request ≡ unchanged state (Err (Closed (closed_at at)))
  unfolding grant_result
  grant-closed size is fits shut = cond-false (nat_lt LARGEST (rounded_size Power request)) _ _ (le-ltb LARGEST (rounded_size Power request) fits) ∙ cond-true (not (is_open state at.0)) _ _ (not_from_false (is_open state at.0) shut)

  -- for no bytes
  pub grant-empty : (size : ℕ) → size ≡ rounded_size Power request → rounded_size Power request ≤ LARGEST → is_open state at.0 ≡ true → size ≡ 0 → grant_result state at request ≡ unchanged state (Ok (record { chunk = 0; alloc = at; size = 0 }))
  unfolding grant_result
  grant-empty size is fits open_ none =
      cond-false (nat_lt LARGEST (rounded_size Power request)) _ _ (le-ltb LARGEST (rounded_size Power request) fits)
      ∙ (cond-false (not (is_open state at.0)) _ _ (not_from_true (is_open state at.0) open_) ∙ cond-true (rounded_size Power request == 0) _ _ (eq-eqb (rounded_size Power request) 0 (sym is ∙ none)))

  -- a charge
  pub grant-charge : (size : ℕ) → size ≡ rounded_size Power request → rounded_size Power request ≤ LARGEST → is_open state at.0 ≡ true → (size ≡ 0 → ⊥) → grant_result state at request ≡ charge_result state (record { at = at; amount = size })
  unfolding grant_result
  grant-charge size is fits open_ some =
      cond-false (nat_lt LARGEST (rounded_size Power request)) _ _ (le-ltb LARGEST (rounded_size Power request) fits)
      ∙ (cond-false (not (is_open state at.0)) _ _ (not_from_true (is_open state at.0) open_)
      ∙ (cond-false (rounded_size Power request == 0) _ _ (ne_eqb (rounded_size Power request) 0 (λ none. some (is ∙ none))) ∙ ap (λ n. charge_result state (record { at = at; amount = n })) (sym is)))

-- making a child
module _ (state : TreeState) (parent : AllocId) (reservation limit : ℕ) where
  -- with a reservation above its limit
  pub child-above : limit < reservation → child_result state parent reservation limit ≡ unchanged state (Err (ReserveAboveLimit reservation limit))
  unfolding child_result
  child-above above = cond-true (nat_lt limit reservation) _ _ (lt-ltb limit reservation above)

  -- of an allocator that isn't open
  pub child-closed : reservation ≤ limit → is_open state parent.0 ≡ false → child_result state parent reservation limit ≡ unchanged state (Err (ParentClosed (closed_at parent)))
  unfolding child_result
  child-closed within shut = cond-false (nat_lt limit reservation) _ _ (le-ltb limit reservation within) ∙ cond-true (not (is_open state parent.0)) _ _ (not_from_false (is_open state parent.0) shut)

  -- past the last number
  pub child-past : reservation ≤ limit → is_open state parent.0 ≡ true → nat_lt state.next MOST_ALLOCATORS ≡ false → child_result state parent reservation limit ≡ record { answer = Err (Nodes state.next); state = record state { next = state.next + 1 }; samples = [] }
  unfolding child_result
  child-past within open_ past =
      cond-false (nat_lt limit reservation) _ _ (le-ltb limit reservation within) ∙ (cond-false (not (is_open state parent.0)) _ _ (not_from_true (is_open state parent.0) open_)
      ∙ cond-true (nat_le MOST_ALLOCATORS state.next) _ _ (le-leb MOST_ALLOCATORS state.next (ltb-false state.next MOST_ALLOCATORS past)))

  -- by a request for its reservation
  pub child-made : reservation ≤ limit → is_open state parent.0 ≡ true → nat_lt state.next MOST_ALLOCATORS ≡ true → child_result state parent reservation limit ≡ made_result state parent reservation limit
  unfolding child_result
  child-made within open_ room =
      cond-false (nat_lt limit reservation) _ _ (le-ltb limit reservation within) ∙ (cond-false (not (is_open state parent.0)) _ _ (not_from_true (is_open state parent.0) open_)
      ∙ cond-false (nat_le MOST_ALLOCATORS state.next) _ _ (lt-leb MOST_ALLOCATORS state.next (ltb-true state.next MOST_ALLOCATORS room)))

-- closing an allocator
module _ (state : TreeState) (at : AllocId) where
  -- that isn't open
  pub close-closed : is_open state at.0 ≡ false → close_result state at ≡ unchanged state (Err (WasClosed 0))
  unfolding close_result
  close-closed shut = cond-true (not (is_open state at.0)) _ _ (not_from_false (is_open state at.0) shut)

  -- that is in use
  pub close-used : (uses : ℕ) → uses ≡ uses_of state at.0 → is_open state at.0 ≡ true → 0 < uses → close_result state at ≡ unchanged state (Err (InUse uses))
  unfolding close_result
  close-used uses is open_ used =
      cond-false (not (is_open state at.0)) _ _ (not_from_true (is_open state at.0) open_)
      ∙ (cond-true (nat_lt 0 (uses_of state at.0)) _ _ (ap (nat_lt 0) (sym is) ∙ lt-ltb 0 uses used) ∙ ap (λ n. unchanged state (Err (InUse n))) (sym is))

  -- that nothing uses
  pub close-unused : is_open state at.0 ≡ true → uses_of state at.0 ≡ 0 → close_result state at ≡ record { answer = Ok tt; state = record state { nodes = with_closed at.0 state.nodes }; samples = [] }
  unfolding close_result
  close-unused open_ unused = cond-false (not (is_open state at.0)) _ _ (not_from_true (is_open state at.0) open_) ∙ cond-false (nat_lt 0 (uses_of state at.0)) _ _ (ap (nat_lt 0) unused)

-- giving a reference back
module _ (state : TreeState) (of : Ref) where
  -- giving back what was given back before
  pub release-nothing : referred_chunk state of ≡ None → release_result state of ≡ unchanged state (Err (released_at of))
  unfolding release_result
  release-nothing none = ap (λ r. option_map_or (release_from state of) r (unchanged state (Err (released_at of)))) none

  -- giving a reference back
  pub release-given : (chunk : Chunk) → referred_chunk state of ≡ Some chunk → release_result state of ≡ release_from state of chunk
  unfolding release_result
  release-given chunk is = ap (λ r. option_map_or (release_from state of) r (unchanged state (Err (released_at of)))) is

-- a reference more
module _ (state : TreeState) (of : Ref) (target : AllocId) where
  -- what was given back can't be retained
  pub retain-nothing : referred_chunk state of ≡ None → retain_result state of target ≡ unchanged state (Err (RefusedRelease (released_at of)))
  unfolding retain_result
  retain-nothing none = ap (λ r. option_map_or (retain_from state target) r (unchanged state (Err (RefusedRelease (released_at of))))) none

  retain-some : (chunk : Chunk) → referred_chunk state of ≡ Some chunk → retain_result state of target ≡ retain_from state target chunk
  unfolding retain_result
  retain-some chunk is = ap (λ r. option_map_or (retain_from state target) r (unchanged state (Err (RefusedRelease (released_at of))))) is

  -- nor at a closed allocator
  pub retain-closed : (chunk : Chunk) → referred_chunk state of ≡ Some chunk → is_open state target.0 ≡ false → retain_result state of target ≡ unchanged state (Err (TargetClosed (closed_at target)))
  retain-closed chunk is shut = retain-some chunk is ∙ cond-true (not (is_open state target.0)) _ _ (not_from_false (is_open state target.0) shut)

  -- an open one gets a reference
  pub retain-given : (chunk : Chunk) → referred_chunk state of ≡ Some chunk → is_open state target.0 ≡ true
      → retain_result state of target ≡ record { answer = Ok (reference_to chunk target); state = record state { chunks = with_chunk (retained target.0 chunk) state.chunks }; samples = [] }
  retain-given chunk is open_ = retain-some chunk is ∙ cond-false (not (is_open state target.0)) _ _ (not_from_true (is_open state target.0) open_)

  -- the same of a transfer
  pub transfer-nothing : referred_chunk state of ≡ None → transfer_result state of target ≡ unchanged state (Err (RefusedRelease (released_at of)))
  unfolding transfer_result
  transfer-nothing none = ap (λ r. option_map_or (transfer_from state of.alloc target) r (unchanged state (Err (RefusedRelease (released_at of))))) none

  transfer-some : (chunk : Chunk) → referred_chunk state of ≡ Some chunk → transfer_result state of target ≡ transfer_from state of.alloc target chunk
  unfolding transfer_result
  transfer-some chunk is = ap (λ r. option_map_or (transfer_from state of.alloc target) r (unchanged state (Err (RefusedRelease (released_at of))))) is

  pub transfer-closed : (chunk : Chunk) → referred_chunk state of ≡ Some chunk → is_open state target.0 ≡ false → transfer_result state of target ≡ unchanged state (Err (TargetClosed (closed_at target)))
  transfer-closed chunk is shut = transfer-some chunk is ∙ cond-true (not (is_open state target.0)) _ _ (not_from_false (is_open state target.0) shut)

  transfer-open : (chunk : Chunk) → referred_chunk state of ≡ Some chunk → is_open state target.0 ≡ true
      → transfer_result state of target ≡ (if moves_charge of.alloc target chunk then moved_result state target chunk else kept_result state target chunk)
  transfer-open chunk is open_ = transfer-some chunk is ∙ cond-false (not (is_open state target.0)) _ _ (not_from_true (is_open state target.0) open_)

  -- which moves the charge where the source has it
  pub transfer-moved : (chunk : Chunk) → referred_chunk state of ≡ Some chunk → is_open state target.0 ≡ true → moves_charge of.alloc target chunk ≡ true → transfer_result state of target ≡ moved_result state target chunk
  transfer-moved chunk is open_ moves = transfer-open chunk is open_ ∙ cond-true (moves_charge of.alloc target chunk) _ _ moves

  pub transfer-kept : (chunk : Chunk) → referred_chunk state of ≡ Some chunk → is_open state target.0 ≡ true → moves_charge of.alloc target chunk ≡ false → transfer_result state of target ≡ kept_result state target chunk
  transfer-kept chunk is open_ stays = transfer-open chunk is open_ ∙ cond-false (moves_charge of.alloc target chunk) _ _ stays
