-- Calls for buffers are planned calls, behind calls that gave references.
use Rattle.std.proofs.Common.{◌≡◌, ◌+◌, ◌<◌, ◌≤◌, ℕ, suc, ◌-◌, Bool, List, [], ◌∷◌, ◌++◌, All, length, map, take, drop, refl, sym, ◌∙◌, ap, subst, append_assoc, arith}
use Rattle.std.proofs.Math.ListN.{get_or-append}
use Rattle.std.proofs.Math.Seq.{drop-append-add}
use Rattle.std.proofs.lemmas.List.{append-nil, drop-append-le, take-append-le, length-append, length-drop}
use Rattle.std.proofs.lemmas.List.Elements.{All-cons, All-head, All-nil, All-tail}
use Rattle.std.proofs.lemmas.Simd.{pick_l-range_with_len}
use Rattle.std.specs.Prelude.{flat_map, slice_index_or, Ok}
use Rattle.std.specs.List.{range_with_len}
use Rattle.mem_num.specs.declared.alloc_id.AllocId.{AllocId}
use Rattle.mem_num.specs.declared.buffer_ref.Ref.{Ref}
use Rattle.mem_model.specs.Calls as plan
use Rattle.mem_model.specs.PlannedCalls.{PlannedCall, no_reference}
use Rattle.mem_buf.specs.Callers.{grants, releases}
use Rattle.mem_buf.specs.MemoryCall.{MemoryCall, Transfer, Release}
use Rattle.mem_buf.specs.Moving.{Move, move_calls}
use Rattle.query_model.specs.SequentialCalls as sequential
use Rattle.alloc_tree.specs.SoloPlanned.{ArePlanned, given_at, reference_by}

-- the references that calls gave, at their places
abbrev pub given_by : List MemoryCall → List Ref
given_by calls = map reference_by calls

-- planned calls behind planned calls
pub planned-append : (given : List Ref) (first second : List PlannedCall) (calls more : List MemoryCall)
    → ArePlanned given first calls → ArePlanned (given ++ given_by calls) second more → ArePlanned given (first ++ second) (calls ++ more)
planned-append given [] second [] more done rest = subst (λ g. ArePlanned g second more) (append-nil given) rest
planned-append given [] second (call ∷ calls) more impossible rest = absurd impossible
planned-append given (one ∷ first) second [] more impossible rest = absurd impossible
planned-append given (one ∷ first) second (call ∷ calls) more done rest = (
  done.0,
  planned-append (given ++ (reference_by call ∷ [])) first second calls more done.1
      (subst (λ g. ArePlanned g second more) (sym (append_assoc given (reference_by call ∷ []) (given_by calls))) rest),
)

-- a place before which so many references were given
abbrev pub StandsIn : List Ref → ℕ → Type 0
StandsIn given place = place < length given

-- what was given before some calls stands where it stood
pub given-stays : (given more : List Ref) (place : ℕ) → place < length given → given_at (given ++ more) place ≡ given_at given place
given-stays given more place before = get_or-append given more no_reference place before

pub all-stay : (given more : List Ref) (places : List ℕ) → All (StandsIn given) places
    → map (given_at (given ++ more)) places ≡ map (given_at given) places
all-stay given more [] before = refl
all-stay given more (place ∷ places) before =
    ap (λ r. r ∷ map (given_at (given ++ more)) places) (given-stays given more place (All-head (StandsIn given) place places before))
    ∙ ap (λ rs. given_at given place ∷ rs) (all-stay given more places (All-tail (StandsIn given) place places before))

-- places that stood before some calls stand before more
pub further : (given : List Ref) (more : List Ref) (places : List ℕ) → All (StandsIn given) places
    → All (StandsIn (given ++ more)) places
further given more [] before = All-nil (StandsIn (given ++ more))
further given more (place ∷ places) before = All-cons (StandsIn (given ++ more)) place places (let first = All-head (StandsIn given) place places before in let longer = length-append given more in omega (arith, first, longer))
    (further given more places (All-tail (StandsIn given) place places before))

-- buffers were granted as they were planned
pub grants-planned : (given : List Ref) (at : AllocId) (granted : List (ℕ × Ref))
    → ArePlanned given (map (plan.Grant at) (map (λ one. one.0) granted)) (grants at granted)
grants-planned given at [] = tt
grants-planned given at (one ∷ granted) = ((Ok one.1, refl), grants-planned (given ++ (one.1 ∷ [])) at granted)

-- references were given back as it was planned
pub releases-planned : (given : List Ref) (places : List ℕ) (returned : List (Ref × Bool))
    → map (λ one. one.0) returned ≡ map (given_at given) places → All (StandsIn given) places
    → ArePlanned given (sequential.release_calls places) (releases returned)
releases-planned given [] [] same before = tt
releases-planned given [] (one ∷ returned) same before = absurd (let long = ap length same in omega (arith, long))
releases-planned given (place ∷ places) [] same before = absurd (let long = ap length same in omega (arith, long))
releases-planned given (place ∷ places) (one ∷ returned) same before = (
  (one.1, ap (λ rs. Release (slice_index_or rs 0 no_reference) one.1) same),
  releases-planned (given ++ (no_reference ∷ [])) places returned
      (ap (drop 1) same ∙ sym (all-stay given (no_reference ∷ []) places (All-tail (StandsIn given) place places before)))
      (further given (no_reference ∷ []) places (All-tail (StandsIn given) place places before)),
)

-- references moved as it was planned
pub moves-planned : (given : List Ref) (target : AllocId) (places : List ℕ) (moves : List Move)
    → map (λ move. move.from) moves ≡ map (given_at given) places → All (StandsIn given) places
    → ArePlanned given (sequential.move_calls target places) (flat_map (move_calls target) moves)
moves-planned given target [] [] same before = tt
moves-planned given target [] (move ∷ moves) same before = absurd (let long = ap length same in omega (arith, long))
moves-planned given target (place ∷ places) [] same before = absurd (let long = ap length same in omega (arith, long))
moves-planned given target (place ∷ places) (move ∷ moves) same before =
    let first : move.from ≡ given_at given place = ap (λ rs. slice_index_or rs 0 no_reference) same in
    let still : given_at (given ++ (move.to ∷ [])) place ≡ given_at given place =
    given-stays given (move.to ∷ []) place (All-head (StandsIn given) place places before) in
    let joined : (given ++ (move.to ∷ [])) ++ (no_reference ∷ []) ≡ given ++ (move.to ∷ no_reference ∷ []) =
    append_assoc given (move.to ∷ []) (no_reference ∷ []) in
    let later = moves-planned (given ++ (move.to ∷ no_reference ∷ [])) target places moves
    (ap (drop 1) same ∙ sym (all-stay given (move.to ∷ no_reference ∷ []) places (All-tail (StandsIn given) place places before)))
    (further given (move.to ∷ no_reference ∷ []) places (All-tail (StandsIn given) place places before)) in (
      (Ok (move.to, move.fits), ap (λ r. Transfer r target (Ok (move.to, move.fits))) first),
      (
        (move.gone, ap (λ r. Release r move.gone) (first ∙ sym still)),
        subst (λ g. ArePlanned g (sequential.move_calls target places) (flat_map (move_calls target) moves)) (sym joined) later,
      ),
    )

-- what grants gave
pub given-grants : (at : AllocId) (granted : List (ℕ × Ref)) → given_by (grants at granted) ≡ map (λ one. one.1) granted
given-grants at [] = refl
given-grants at (one ∷ granted) = ap (λ rs. one.1 ∷ rs) (given-grants at granted)

-- how many calls these are
pub length-releases : (returned : List (Ref × Bool)) → length (given_by (releases returned)) ≡ length returned
length-releases [] = refl
length-releases (one ∷ returned) = ap suc (length-releases returned)

-- neighbouring places, among more
pub neighbours : (before xs after : List Ref) (first from count : ℕ) → length before + from ≡ first → from + count ≤ length xs
    → map (given_at (before ++ (xs ++ after))) (range_with_len first count) ≡ take count (drop from xs)
neighbours before xs after first from count starts within =
    let all = before ++ (xs ++ after) in
    let long : length all ≡ length before + (length xs + length after) = simp (length-append) in
    let part : map (given_at all) (range_with_len first count) ≡ take count (drop first all) =
    pick_l-range_with_len no_reference all first count (omega (arith, long, starts, within)) in
    let there : drop first all ≡ drop from xs ++ after =
    ap (λ n. drop n all) (sym starts) ∙ drop-append-add before (xs ++ after) from ∙ drop-append-le from xs after (omega (arith, within)) in
    let left : length (drop from xs) ≡ length xs - from = length-drop from xs in
    part ∙ ap (take count) there ∙ take-append-le count (drop from xs) after (omega (arith, left, within))
