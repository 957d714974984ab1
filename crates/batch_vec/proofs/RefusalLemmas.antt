-- Why a request of some was refused.
use Rattle.std.proofs.Common.{◌≡◌, ℕ, ◌<◌, ◌≤◌, List, [], ◌∷◌, ◌++◌, map, All, refl, ◌∙◌, ap, subst, arith}
use Rattle.std.proofs.lemmas.List.Elements.{All-head, All-tail}
use Rattle.std.specs.Prelude.{IfSome, Option, Some, None, Err}
use Rattle.mem_num.specs.declared.bounds.TheConstants.{LARGEST}
use Rattle.mem_num.specs.declared.alloc_id.AllocId.{AllocId}
use Rattle.mem_num.specs.declared.buffer_ref.Ref.{Ref}
use Rattle.mem_num.specs.declared.closed.Closed.{Closed as ClosedAt}
use Rattle.mem_num.specs.declared.full.Full.{Full as FullAt}
use Rattle.mem_num.specs.declared.too_large.TooLarge.{TooLarge as TooLargeFor}
use Rattle.mem_num.specs.declared.buffer_refused.BufferRefused.{BufferRefused}
use Rattle.mem_num.specs.declared.buffer_refused.BufferRefused.TheVariants.{TooLarge, Closed, Full}
use Rattle.mem_buf.specs.Answers.{IsPastLimit}
use Rattle.mem_buf.specs.Callers.{grants}
use Rattle.mem_buf.specs.Chain.{MemoryModel, MakesCall, MakesCalls, Runs}
use Rattle.mem_buf.specs.Changes.{KeepsNames}
use Rattle.mem_buf.specs.MemoryCall.{MemoryCall, Grant}
use Rattle.mem_buf.specs.Storing.{IsRefusedAt, IsRefusedStore}
use Rattle.mem_buf.specs.TokenView.{size_for}
use Rattle.mem_buf.proofs.ChainLemmas.{MakesCalls-cut, MakesCalls-names, MakesCalls-only}

-- what holds of all holds of one in their midst
All-midst : {X : Type 0} (P : X → Type 0) (xs : List X) (y : X) (ys : List X) → All P (xs ++ y ∷ ys) → P y
All-midst P [] y ys all = All-head P y ys all
All-midst P (x ∷ xs) y ys all = All-midst P xs y ys (All-tail P x (xs ++ y ∷ ys) all)

-- a limit that is known after some calls doesn't belie one that was known before
known_before : (old new : Option ℕ) (told : ℕ) → ((limit : ℕ) → old ≡ Some limit → new ≡ Some limit) → IfSome new (λ limit. told ≡ limit)
    → IfSome old (λ limit. told ≡ limit)
known_before None new told kept is = tt
known_before (Some limit) new told kept is = subst (λ known. IfSome known (λ l. told ≡ l)) (kept limit refl) is

module _ {Token Hold : Type 0} (memory : MemoryModel Token Hold) (at : AllocId) where
  -- requests that are granted keep the pins
  grants_pins : (granted : List (ℕ × Ref)) (old new : Token) → MakesCalls memory (grants at granted) old new
      → (memory.view new).pins ≡ (memory.view old).pins
  grants_pins [] old new same = ap (λ token. (memory.view token).pins) same
  grants_pins (one ∷ granted) old new made = grants_pins granted made.0 new made.2 ∙ made.1.view.pins

  module _ (requests : List ℕ) (old new : Token) where
    -- what was asked last, from a token with the same pins, that knows no other limits
    record IsAsked (refused : BufferRefused) : Type 0 where
      pub token : Token
      pub after : Token
      pub request : ℕ
      pub call : MakesCall memory (Grant at request (Err refused)) token after
      pub pins : (memory.view token).pins ≡ (memory.view old).pins
      pub names : KeepsNames (memory.view old) (memory.view token)

    asked_last : (refused : BufferRefused) (request : ℕ) (calls : List MemoryCall) (is : IsRefusedStore
        (memory.view old) at requests refused calls)
        → MakesCalls memory calls old new → is.asked ≡ Grant at request (Err refused) ∷ [] → IsAsked refused
    asked_last refused request calls is made one =
        let all = subst (λ list. MakesCalls memory list old new) is.order made in
        let first = MakesCalls-cut memory (grants at is.granted) (is.asked ++ is.returned) old new all in
        let second = MakesCalls-cut memory is.asked is.returned first.0 new first.2 in
        record {
          token = first.0;
          after = second.0;
          request = request;
          call = MakesCalls-only memory is.asked _ first.0 second.0 one second.1;
          pins = grants_pins is.granted old first.0 first.1;
          names = MakesCalls-names memory (grants at is.granted) old first.0 first.1;
        }

    -- none is refused as closed under a pin
    pub never_closed : (closed : ClosedAt) → 1 ≤ (memory.view old).pins at.0
        → Runs memory (IsRefusedStore (memory.view old) at requests (Closed closed)) old new → ⊥
    never_closed closed pinned runs = cases (runs.2).left (runs.2).refusal where
      cases : (left : List ℕ) → IsRefusedAt (memory.view old) at left (Closed closed) (runs.2).asked → ⊥
      cases [] is = cc is.0
      cases (request ∷ left) is =
          let asked = asked_last (Closed closed) request runs.0 runs.2 runs.1 is in
          let answer = asked.call.answer in
          let none : (memory.view asked.token).pins at.0 ≡ 0 = answer.2 in
          let same = ap (λ pins. pins at.0) asked.pins in
          omega (arith, none, same, pinned)

    -- none is refused as too large where each is small enough
    pub never_too_large : (large : TooLargeFor) → All (λ request. size_for (memory.view old) at request ≤ LARGEST) requests
        → Runs memory (IsRefusedStore (memory.view old) at requests (TooLarge large)) old new → ⊥
    never_too_large large small runs = cases (runs.2).left (runs.2).requested (runs.2).refusal where
      cases : (left : List ℕ) → requests ≡ map (λ one. one.0) (runs.2).granted ++ left
          → IsRefusedAt (memory.view old) at left (TooLarge large) (runs.2).asked → ⊥
      cases [] requested is = cc is.0
      cases (request ∷ left) requested is =
          let within : size_for (memory.view old) at request ≤ LARGEST =
          All-midst (λ r. size_for (memory.view old) at r ≤ LARGEST) (map (λ one. one.0) (runs.2).granted) request left
          (subst (All (λ r. size_for (memory.view old) at r ≤ LARGEST)) requested small) in
          let past : LARGEST < size_for (memory.view old) at request = is.1 in
          absurd (omega (arith, within, past))

    -- a level that is full would have gone past its limit
    pub full_past : (full : FullAt) → Runs memory (IsRefusedStore (memory.view old) at requests (Full full)) old new
        → IsPastLimit (memory.view old) full
    full_past full runs = cases (runs.2).left (runs.2).refusal where
      cases : (left : List ℕ) → IsRefusedAt (memory.view old) at left (Full full) (runs.2).asked → IsPastLimit (memory.view old) full
      cases [] is = cc is.0
      cases (request ∷ left) is =
          let asked = asked_last (Full full) request runs.0 runs.2 runs.1 is in
          let answer = asked.call.answer in
          let past : IsPastLimit (memory.view asked.token) full = answer.2 in
          record {
            past = past.past;
            known = known_before _ _ full.limit (λ limit known. asked.names.limit full.node.0 limit known) past.known;
          }
