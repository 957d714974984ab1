-- What calls leave held, one chain after another, and beside what else is held.
use Rattle.std.proofs.Common.{◌≡◌, ◌+◌, ◌≤◌, ℕ, Bool, List, [], ◌∷◌, ◌++◌, All, map, refl, sym, ◌∙◌, arith}
use Rattle.std.proofs.lemmas.List.Elements.{All-append, All-cons, All-nil}
use Rattle.std.proofs.lemmas.List.Sums.{sum_by-append, sum_by-cons}
use Rattle.std.specs.Prelude.{flat_map, Ok}
use Rattle.mem_num.specs.declared.alloc_id.AllocId.{AllocId}
use Rattle.mem_num.specs.declared.buffer_ref.Ref.{Ref}
use Rattle.mem_model.specs.CountedReferences.{one_to}
use Rattle.mem_model.specs.PlannedCalls.{no_reference}
use Rattle.mem_buf.specs.Callers.{grants, releases}
use Rattle.mem_buf.specs.MemoryCall.{MemoryCall, Grant, Release, Transfer}
use Rattle.mem_buf.specs.Moving.{Move, move_calls}
use Rattle.alloc_tree.specs.SoloPlanned.{reference_by}
use Rattle.pipeline.specs.BatchRun.{IsDone}
use Rattle.pipeline.specs.Holding.{AreSame, IsBufferCall, Leaves, held_count, released_by}

-- what is held beside each other is counted together
pub held-append : (held more : List Ref) (k n : ℕ) → held_count (held ++ more) k n ≡ held_count held k n + held_count more k n
held-append held more k n = sum_by-append (one_to k n) held more

-- one more is counted by itself
held-cons : (of : Ref) (held : List Ref) (k n : ℕ) → held_count (of ∷ held) k n ≡ one_to k n of + held_count held k n
held-cons of held k n = sum_by-cons (one_to k n) of held

pub same-trans : (one two three : List Ref) → AreSame one two → AreSame two three → AreSame one three
same-trans one two three first second k n real = first k n real ∙ second k n real

pub same-sym : (one two : List Ref) → AreSame one two → AreSame two one
same-sym one two same k n real = sym (same k n real)

-- in any order
pub same-swap : (one two : List Ref) → AreSame (one ++ two) (two ++ one)
same-swap one two k n real =
    let there = held-append one two k n in
    let back = held-append two one k n in
    omega (arith, there, back)

-- beside more
pub same-more : (one two more : List Ref) → AreSame one two → AreSame (one ++ more) (two ++ more)
same-more one two more same k n real =
    let first = held-append one more k n in
    let second = held-append two more k n in
    let equal = same k n real in
    omega (arith, first, second, equal)

same-cons : (of : Ref) (one two : List Ref) → AreSame one two → AreSame (of ∷ one) (of ∷ two)
same-cons of one two same k n real =
    let equal = same k n real in
    let first = held-cons of one k n in
    let second = held-cons of two k n in
    omega (arith, equal, first, second)

-- a reference to no chunk doesn't count
uncounted : (k n : ℕ) → 1 ≤ k → one_to k n no_reference ≡ 0
uncounted k n real = grind (arith, real)

pub same-none : (held : List Ref) → AreSame (no_reference ∷ held) held
same-none held k n real =
    let first = held-cons no_reference held k n in
    let none = uncounted k n real in
    omega (arith, first, none)

-- the same references lead to the same
pub leaves-from : (held others : List Ref) (calls : List MemoryCall) (left : List Ref) → AreSame held others → Leaves others calls left
    → Leaves held calls left
leaves-from held others [] left same leaves = same-trans held others left same leaves
leaves-from held others (call ∷ calls) left same leaves = (
  leaves.0,
  same-trans (reference_by call ∷ held) (reference_by call ∷ others) (released_by call ∷ leaves.0)
      (same-cons (reference_by call) held others same) leaves.1,
  leaves.2,
)

pub leaves-to : (held : List Ref) (calls : List MemoryCall) (left others : List Ref) → Leaves held calls left → AreSame left others
    → Leaves held calls others
leaves-to held [] left others leaves same = same-trans held left others leaves same
leaves-to held (call ∷ calls) left others leaves same = (leaves.0, leaves.1, leaves-to leaves.0 calls left others leaves.2 same)

-- one chain behind another
pub leaves-append : (held : List Ref) (calls : List MemoryCall) (middle : List Ref) (more : List MemoryCall) (left : List Ref)
    → Leaves held calls middle → Leaves middle more left → Leaves held (calls ++ more) left
leaves-append held [] middle more left first second = leaves-from held middle more left first second
leaves-append held (call ∷ calls) middle more left first second =
    (first.0, first.1, leaves-append first.0 calls middle more left first.2 second)

-- beside what else is held
pub leaves-beside : (held : List Ref) (calls : List MemoryCall) (left more : List Ref) → Leaves held calls left
    → Leaves (held ++ more) calls (left ++ more)
leaves-beside held [] left more same = same-more held left more same
leaves-beside held (call ∷ calls) left more leaves = (
  leaves.0 ++ more,
  same-more (reference_by call ∷ held) (released_by call ∷ leaves.0) more leaves.1,
  leaves-beside leaves.0 calls left more leaves.2,
)

-- buffers that were granted are held
pub leaves-grants : (held : List Ref) (at : AllocId) (granted : List (ℕ × Ref))
    → Leaves held (grants at granted) (map (λ one. one.1) granted ++ held)
leaves-grants held at [] = λ k n real. refl
leaves-grants held at (one ∷ granted) = (
  one.1 ∷ held,
  same-sym (no_reference ∷ one.1 ∷ held) (one.1 ∷ held) (same-none (one.1 ∷ held)),
  leaves-to (one.1 ∷ held) (grants at granted) (map (λ one. one.1) granted ++ (one.1 ∷ held)) (map (λ one. one.1) (one ∷ granted) ++ held)
      (leaves-grants (one.1 ∷ held) at granted) (seam (map (λ one. one.1) granted) one.1 held),
)
  where
    seam : (xs : List Ref) (x : Ref) (ys : List Ref) → AreSame (xs ++ (x ∷ ys)) (x ∷ (xs ++ ys))
    seam xs x ys k n real =
        let first = held-append xs (x ∷ ys) k n in
        let second = held-append xs ys k n in
        let one = held-cons x ys k n in
        let two = held-cons x (xs ++ ys) k n in
        omega (arith, first, second, one, two)

-- references that were given back aren't
pub leaves-releases : (returned : List (Ref × Bool)) (more : List Ref)
    → Leaves (map (λ one. one.0) returned ++ more) (releases returned) more
leaves-releases [] more = λ k n real. refl
leaves-releases (one ∷ returned) more = (
  map (λ one. one.0) returned ++ more,
  same-none (map (λ one. one.0) (one ∷ returned) ++ more),
  leaves-releases returned more,
)

-- references that moved are held where they moved to
pub leaves-moves : (target : AllocId) (moves : List Move) (more : List Ref)
    → Leaves (map (λ move. move.from) moves ++ more) (flat_map (move_calls target) moves) (map (λ move. move.to) moves ++ more)
leaves-moves target [] more = λ k n real. refl
leaves-moves target (move ∷ moves) more =
    let rest = map (λ move. move.from) moves ++ more in
    let later = leaves-moves target moves more in
    let held = move.to ∷ move.from ∷ rest in
    let ended = map (λ move. move.to) moves ++ more in (
      held,
      same-sym (no_reference ∷ held) held (same-none held),
      (
        move.to ∷ rest,
        moved move.to move.from rest,
        leaves-from (move.to ∷ rest) (rest ++ (move.to ∷ [])) (flat_map (move_calls target) moves) (move.to ∷ ended)
            (same-swap (move.to ∷ []) rest)
            (leaves-to (rest ++ (move.to ∷ [])) (flat_map (move_calls target) moves) (ended ++ (move.to ∷ [])) (move.to ∷ ended)
            (leaves-beside rest (flat_map (move_calls target) moves) ended (move.to ∷ []) later)
            (same-swap ended (move.to ∷ []))),
      ),
    )
  where
    moved : (to from : Ref) (rest : List Ref) → AreSame (no_reference ∷ to ∷ from ∷ rest) (from ∷ to ∷ rest)
    moved to from rest k n real =
        let none = same-none (to ∷ from ∷ rest) k n real in
        let one = held-cons to (from ∷ rest) k n in
        let two = held-cons from rest k n in
        let three = held-cons from (to ∷ rest) k n in
        let four = held-cons to rest k n in
        omega (arith, none, one, two, three, four)

-- each of these calls is one for a buffer that was done
pub grants-done : (at : AllocId) (granted : List (ℕ × Ref)) → All IsDone (grants at granted)
grants-done at [] = All-nil IsDone
grants-done at (one ∷ granted) =
    All-cons IsDone (Grant at one.0 (Ok one.1)) (grants at granted) (record { memory = tt; granted = refl }) (grants-done at granted)

pub releases-done : (returned : List (Ref × Bool)) → All IsDone (releases returned)
releases-done [] = All-nil IsDone
releases-done (one ∷ returned) =
    All-cons IsDone (Release one.0 one.1) (releases returned) (record { memory = tt; granted = refl }) (releases-done returned)

pub moves-done : (target : AllocId) (moves : List Move) → All IsDone (flat_map (move_calls target) moves)
moves-done target [] = All-nil IsDone
moves-done target (move ∷ moves) =
    All-append IsDone (move_calls target move) (flat_map (move_calls target) moves)
    (All-cons IsDone (Transfer move.from target (Ok (move.to, move.fits))) (Release move.from move.gone ∷ [])
    (record { memory = tt; granted = refl })
    (All-cons IsDone (Release move.from move.gone) [] (record { memory = tt; granted = refl }) (All-nil IsDone)))
    (moves-done target moves)

pub grants-buffers : (at : AllocId) (granted : List (ℕ × Ref)) → All IsBufferCall (grants at granted)
grants-buffers at [] = All-nil IsBufferCall
grants-buffers at (one ∷ granted) =
    All-cons IsBufferCall (Grant at one.0 (Ok one.1)) (grants at granted) tt (grants-buffers at granted)

pub releases-buffers : (returned : List (Ref × Bool)) → All IsBufferCall (releases returned)
releases-buffers [] = All-nil IsBufferCall
releases-buffers (one ∷ returned) =
    All-cons IsBufferCall (Release one.0 one.1) (releases returned) tt (releases-buffers returned)

pub moves-buffers : (target : AllocId) (moves : List Move) → All IsBufferCall (flat_map (move_calls target) moves)
moves-buffers target [] = All-nil IsBufferCall
moves-buffers target (move ∷ moves) =
    All-append IsBufferCall (move_calls target move) (flat_map (move_calls target) moves)
    (All-cons IsBufferCall (Transfer move.from target (Ok (move.to, move.fits))) (Release move.from move.gone ∷ []) tt
    (All-cons IsBufferCall (Release move.from move.gone) [] tt (All-nil IsBufferCall)))
    (moves-buffers target moves)
