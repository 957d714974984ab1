-- Rows that were stored, and rows whose storing was refused.
use Rattle.std.proofs.Common.{◌≡◌, ◌+◌, ◌≤◌, ℕ, suc, Bool, true, false, List, [], ◌∷◌, ◌++◌, All, length, map, take, refl, sym, ◌∙◌, ap, subst, arith}
use Rattle.std.proofs.lemmas.List.{length-append, length-map}
use Rattle.std.proofs.lemmas.List.Elements.{All-append, All-cons, All-nil}
use Rattle.std.proofs.lemmas.List.Sums.{sum_by-append, sum_by-cons}
use Rattle.std.specs.Prelude.{sum_by, if◌then◌else◌, Some, Ok, Err, ⊤}
use Rattle.mem_num.specs.Rounded.{rounded_size}
use Rattle.mem_num.specs.declared.rounding.Rounding.TheVariants.{Power}
use Rattle.mem_num.specs.declared.alloc_id.AllocId.{AllocId}
use Rattle.mem_num.specs.declared.buffer_ref.Ref.{Ref}
use Rattle.mem_num.specs.declared.buffer_refused.BufferRefused.{BufferRefused}
use Rattle.mem_num.specs.declared.buffer_refused.BufferRefused.TheVariants as buffer
use Rattle.mem_num.specs.declared.full.Full.{Full}
use Rattle.mem_model.specs.Calls as plan
use Rattle.mem_model.specs.PlannedCalls.{PlannedCall}
use Rattle.mem_buf.specs.Callers.{GivesBack, grants, releases}
use Rattle.mem_buf.specs.MemoryCall.{MemoryCall, Grant, Release}
use Rattle.mem_buf.specs.Storing.{IsRefusedAt, IsRefusedStore}
use Rattle.mem_buf.specs.TokenView.{TokenView}
use Rattle.alloc_tree.specs.SoloCalls.{HasMemory}
use Rattle.alloc_tree.specs.SoloPlanned.{ArePlanned}
use Rattle.pipeline.specs.BatchRun.{IsDone, full_of}
use Rattle.pipeline.specs.Holding.{IsBufferCall, Leaves, asks, turns_in}
use Rattle.pipeline.proofs.HoldingLemmas.{grants-buffers, grants-done, leaves-append, leaves-grants, leaves-releases, releases-buffers, releases-done}
use Rattle.pipeline.proofs.PlannedLemmas.{given_by, grants-planned, given-grants}

-- what a call asks for, in bytes
abbrev pub asked_bytes : MemoryCall → ℕ
asked_bytes (Grant at request answer) = rounded_size Power request
asked_bytes _ = 0

abbrev pub bytes_in : List MemoryCall → ℕ
bytes_in calls = sum_by asked_bytes calls

-- a call asks for no buffer at another allocator
abbrev pub AsksAt : AllocId → MemoryCall → Type 0
AsksAt at (Grant place request answer) = place ≡ at
AsksAt at _ = ⊤

-- how many turns these may spend
pub turns-append : (calls more : List MemoryCall) → turns_in (calls ++ more) ≡ turns_in calls + turns_in more
turns-append calls more = sum_by-append asks calls more

pub turns-grants : (at : AllocId) (granted : List (ℕ × Ref)) → turns_in (grants at granted) ≡ length granted
turns-grants at [] = refl
turns-grants at (one ∷ granted) =
    let first = sum_by-cons asks (Grant at one.0 (Ok one.1)) (grants at granted) in
    let rest = turns-grants at granted in
    omega (arith, first, rest)

pub turns-releases : (returned : List (Ref × Bool)) → turns_in (releases returned) ≡ 0
turns-releases [] = refl
turns-releases (one ∷ returned) = turns-releases returned

-- buffers were asked for and granted
pub record IsStored (at : AllocId) (lengths : List ℕ) (holds : List Ref) (calls : List MemoryCall) : Type 0 where
  pub planned : (given : List Ref) → ArePlanned given (map (plan.Grant at) lengths) calls
  pub given : given_by calls ≡ holds
  pub count : length holds ≡ length lengths
  pub done : All IsDone calls
  pub buffers : All IsBufferCall calls
  pub leaves : (held : List Ref) → Leaves held calls (holds ++ held)
  pub turns : turns_in calls ≤ length lengths
  pub bytes : bytes_in calls ≡ sum_by (rounded_size Power) lengths
  pub place : All (AsksAt at) calls

bytes-grants : (at : AllocId) (granted : List (ℕ × Ref))
    → bytes_in (grants at granted) ≡ sum_by (rounded_size Power) (map (λ one. one.0) granted)
bytes-grants at [] = refl
bytes-grants at (one ∷ granted) =
    let first = sum_by-cons asked_bytes (Grant at one.0 (Ok one.1)) (grants at granted) in
    let other = sum_by-cons (rounded_size Power) one.0 (map (λ (one : ℕ × Ref). one.0) granted) in
    let rest = bytes-grants at granted in
    omega (arith, first, other, rest)

place-grants : (at : AllocId) (granted : List (ℕ × Ref)) → All (AsksAt at) (grants at granted)
place-grants at [] = All-nil (AsksAt at)
place-grants at (one ∷ granted) = All-cons (AsksAt at) (Grant at one.0 (Ok one.1)) (grants at granted) refl (place-grants at granted)

bytes-releases : (returned : List (Ref × Bool)) → bytes_in (releases returned) ≡ 0
bytes-releases [] = refl
bytes-releases (one ∷ returned) =
    let first = sum_by-cons asked_bytes (Release one.0 one.1) (releases returned) in
    let rest = bytes-releases returned in
    omega (arith, first, rest)

place-releases : (at : AllocId) (returned : List (Ref × Bool)) → All (AsksAt at) (releases returned)
place-releases at [] = All-nil (AsksAt at)
place-releases at (one ∷ returned) = All-cons (AsksAt at) (Release one.0 one.1) (releases returned) tt (place-releases at returned)

stored : (at : AllocId) (granted : List (ℕ × Ref))
    → IsStored at (map (λ one. one.0) granted) (map (λ one. one.1) granted) (grants at granted)
stored at granted = record {
  planned = λ given. grants-planned given at granted;
  given = given-grants at granted;
  count = length-map granted (λ (one : ℕ × Ref). one.1) ∙ sym (length-map granted (λ (one : ℕ × Ref). one.0));
  done = grants-done at granted;
  buffers = grants-buffers at granted;
  leaves = λ held. leaves-grants held at granted;
  turns = let one = turns-grants at granted in let other = length-map granted (λ (one : ℕ × Ref). one.0) in omega (arith, one, other);
  bytes = bytes-grants at granted;
  place = place-grants at granted;
}

pub is-stored : (at : AllocId) (lengths : List ℕ) (holds : List Ref) (calls : List MemoryCall)
    → ((granted : List (ℕ × Ref)) × (calls ≡ grants at granted) × (map (λ one. one.0) granted ≡ lengths)
    × (map (λ one. one.1) granted ≡ holds)) → IsStored at lengths holds calls
is-stored at lengths holds calls made =
    subst (λ cs. IsStored at lengths holds cs) (sym made.1)
    (subst (λ hs. IsStored at lengths hs (grants at made.0)) made.3
    (subst (λ ls. IsStored at ls (map (λ one. one.1) made.0) (grants at made.0)) made.2 (stored at made.0)))

-- what holds of calls for buffers that gave back all that they were given
pub record AreUndone (count : ℕ) (calls : List MemoryCall) : Type 0 where
  pub buffers : All IsBufferCall calls
  pub leaves : (held : List Ref) → Leaves held calls held
  pub turns : turns_in calls ≤ count

-- a level refused one buffer; those before it were granted and given back
pub record IsRefusedPart (plans : List PlannedCall) (told : Full) (calls : List MemoryCall) : Type 0 where
  pub asked : List MemoryCall
  pub refused : MemoryCall
  pub returned : List MemoryCall
  pub order : calls ≡ asked ++ (refused ∷ returned)
  pub within : suc (length asked) ≤ length plans
  pub planned : (given : List Ref) → ArePlanned given (take (suc (length asked)) plans) (asked ++ (refused ∷ []))
  pub done : All IsDone asked
  pub memory : HasMemory refused
  pub full : full_of refused ≡ Some told

-- what was asked for at last gave nothing
record IsAsked (left : List ℕ) (asked : List MemoryCall) : Type 0 where
  pub buffers : All IsBufferCall asked
  pub leaves : (held : List Ref) → Leaves held asked held
  pub turns : turns_in asked ≤ length left

unasked : (left : List ℕ) → IsAsked left []
unasked left = record { buffers = All-nil IsBufferCall; leaves = λ held k n real. refl; turns = omega arith }

asked-for : (at : AllocId) (request : ℕ) (left : List ℕ) (refused : BufferRefused)
    → IsAsked (request ∷ left) (Grant at request (Err refused) ∷ [])
asked-for at request left refused = record {
  buffers = All-cons IsBufferCall (Grant at request (Err refused)) [] tt (All-nil IsBufferCall);
  leaves = λ held. (held, λ k n real. refl, λ k n real. refl);
  turns = omega arith;
}

asked-maybe : (at : AllocId) (request : ℕ) (left : List ℕ) (refused : BufferRefused) (is_asked : Bool)
    → IsAsked (request ∷ left) (if is_asked then Grant at request (Err refused) ∷ [] else [])
asked-maybe at request left refused true = asked-for at request left refused
asked-maybe at request left refused false = unasked (request ∷ left)

asked-once : (view : TokenView) (at : AllocId) (left : List ℕ) (refused : BufferRefused) (asked : List MemoryCall)
    → IsRefusedAt view at left refused asked → IsAsked left asked
asked-once view at [] refused asked is = subst (IsAsked []) (sym is.1) (unasked [])
asked-once view at (request ∷ left) (buffer.TooLarge refused) asked is = subst (IsAsked (request ∷ left)) (sym is.0) (unasked (request ∷ left))
asked-once view at (request ∷ left) (buffer.Closed refused) asked is =
    subst (IsAsked (request ∷ left)) (sym is) (asked-for at request left (buffer.Closed refused))
asked-once view at (request ∷ left) (buffer.Full full) asked is =
    subst (IsAsked (request ∷ left)) (sym is) (asked-for at request left (buffer.Full full))
asked-once view at (request ∷ left) buffer.NoMemory asked is =
    subst (IsAsked (request ∷ left)) (sym is.1) (asked-maybe at request left buffer.NoMemory is.0)

-- references that were given back were held
pub record AreReturned (holds : List Ref) (calls : List MemoryCall) : Type 0 where
  pub done : All IsDone calls
  pub buffers : All IsBufferCall calls
  pub leaves : (held : List Ref) → Leaves (holds ++ held) calls held
  pub turns : turns_in calls ≡ 0
  pub bytes : bytes_in calls ≡ 0
  pub place : (at : AllocId) → All (AsksAt at) calls

pub returned-part : (holds : List Ref) (calls : List MemoryCall) → GivesBack holds calls → AreReturned holds calls
returned-part holds calls back =
    subst (λ cs. AreReturned holds cs) (sym back.1)
    (subst (λ hs. AreReturned hs (releases back.0)) back.2 (record {
      done = releases-done back.0;
      buffers = releases-buffers back.0;
      leaves = leaves-releases back.0;
      turns = turns-releases back.0;
      bytes = bytes-releases back.0;
      place = λ at. place-releases at back.0;
    }))

-- whatever refused it, what was given was given back
pub undone-part : (view : TokenView) (at : AllocId) (lengths : List ℕ) (refused : BufferRefused) (calls : List MemoryCall)
    → IsRefusedStore view at lengths refused calls → AreUndone (length lengths) calls
undone-part view at lengths refused calls is =
    let made = stored at is.granted in
    let once = asked-once view at is.left refused is.asked is.refusal in
    let back = returned-part (map (λ one. one.1) is.granted) is.returned is.given_back in
    let given = map (λ one. one.1) is.granted in
    subst (AreUndone (length lengths)) (sym is.order) (record {
      buffers = All-append IsBufferCall (grants at is.granted) (is.asked ++ is.returned) made.buffers
          (All-append IsBufferCall is.asked is.returned once.buffers back.buffers);
      leaves = λ held. leaves-append held (grants at is.granted) (given ++ held) (is.asked ++ is.returned) held (made.leaves held)
          (leaves-append (given ++ held) is.asked (given ++ held) is.returned held (once.leaves (given ++ held)) (back.leaves held));
      turns =
          let all = ap length is.requested in
          let parts = length-append (map (λ (one : ℕ × Ref). one.0) is.granted) is.left in
          let first = made.turns in
          let second = once.turns in
          let third = back.turns in
          let outer = turns-append (grants at is.granted) (is.asked ++ is.returned) in
          let inner = turns-append is.asked is.returned in
          omega (arith, all, parts, first, second, third, outer, inner);
    })

-- a refusal by a level is no want of memory
abbrev IsByLevel : BufferRefused → Type 0
IsByLevel (buffer.Full full) = ⊤
IsByLevel _ = ⊥

-- those before the refused one were planned, and so was it
refused-planned : (given : List Ref) (at : AllocId) (granted : List (ℕ × Ref)) (request : ℕ) (left : List ℕ) (refused : BufferRefused)
    → ArePlanned given
    (take (suc (length (grants at granted))) (map (plan.Grant at) (map (λ one. one.0) granted ++ request ∷ left)))
    (grants at granted ++ (Grant at request (Err refused) ∷ []))
refused-planned given at [] request left refused = ((Err refused, refl), tt)
refused-planned given at (one ∷ granted) request left refused =
    ((Ok one.1, refl), refused-planned (given ++ (one.1 ∷ [])) at granted request left refused)

refused-within : (at : AllocId) (granted : List (ℕ × Ref)) (request : ℕ) (left : List ℕ)
    → suc (length (grants at granted)) ≤ length {A = PlannedCall} (map (plan.Grant at) (map (λ one. one.0) granted ++ request ∷ left))
refused-within at [] request left = omega arith
refused-within at (one ∷ granted) request left = let rest = refused-within at granted request left in omega (arith, rest)

-- a level refused it
pub refused-part : (view : TokenView) (at : AllocId) (lengths : List ℕ) (full : Full) (calls : List MemoryCall)
    → IsRefusedStore view at lengths (buffer.Full full) calls → IsRefusedPart (map (plan.Grant at) lengths) full calls
refused-part view at lengths full calls is =
    subst (λ ls. IsRefusedPart (map (plan.Grant at) ls) full calls) (sym is.requested)
    (subst (IsRefusedPart (map (plan.Grant at) (map (λ one. one.0) is.granted ++ is.left)) full) (sym is.order)
    (parted is.granted is.left is.asked is.returned is.refusal))
  where
    parted : (granted : List (ℕ × Ref)) (left : List ℕ) (asked returned : List MemoryCall)
        → IsRefusedAt view at left (buffer.Full full) asked
        → IsRefusedPart (map (plan.Grant at) (map (λ one. one.0) granted ++ left)) full (grants at granted ++ (asked ++ returned))
    parted granted [] asked returned none = absurd (subst IsByLevel none.0 tt)
    parted granted (request ∷ left) asked returned one = record {
      asked = grants at granted;
      refused = Grant at request (Err (buffer.Full full));
      returned = returned;
      order = ap (λ cs. grants at granted ++ (cs ++ returned)) one;
      within = refused-within at granted request left;
      planned = λ given. refused-planned given at granted request left (buffer.Full full);
      done = grants-done at granted;
      memory = tt;
      full = refl;
    }
