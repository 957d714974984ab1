-- Buffers whose moving was refused, all of which were given back.
use Rattle.std.proofs.Common.{◌≡◌, ◌≤◌, List, [], ◌∷◌, ◌++◌, All, length, map, refl, sym, ◌∙◌, ap, subst, append_assoc, arith}
use Rattle.std.proofs.lemmas.List.{length-append, length-map}
use Rattle.std.proofs.lemmas.List.Elements.{All-append, All-cons, All-nil}
use Rattle.std.specs.Prelude.{flat_map, sum_by, Err}
use Rattle.mem_num.specs.declared.alloc_id.AllocId.{AllocId}
use Rattle.mem_num.specs.declared.buffer_ref.Ref.{Ref}
use Rattle.mem_num.specs.declared.ref_refused.RefRefused.{RefRefused}
use Rattle.mem_model.specs.CountedReferences.{one_to}
use Rattle.mem_buf.specs.Callers.{GivesBack}
use Rattle.mem_buf.specs.MemoryCall.{MemoryCall, Transfer}
use Rattle.mem_buf.specs.Moving.{AreMoved, IsMoveRefusal, IsRefusedMove, Move, move_calls}
use Rattle.pipeline.specs.Holding.{AreSame, IsBufferCall, Leaves, turns_in}
use Rattle.pipeline.proofs.HoldingLemmas.{held-append, leaves-append, leaves-from, leaves-moves, moves-buffers}
use Rattle.pipeline.proofs.StoredLemmas.{returned-part, turns-append}

-- a turn for each reference that moved
pub turns-moves : (target : AllocId) (moves : List Move) → turns_in (flat_map (move_calls target) moves) ≡ length moves
turns-moves target [] = refl
turns-moves target (move ∷ moves) =
    let first = turns-append (move_calls target move) (flat_map (move_calls target) moves) in
    let rest = turns-moves target moves in
    let one : turns_in (move_calls target move) ≡ 1 = refl in
    omega (arith, first, rest, one)

pub turns-moved : (target : AllocId) (sources targets : List Ref) (calls : List MemoryCall) → AreMoved target sources targets calls
    → turns_in calls ≡ length sources
turns-moved target sources targets calls are =
    ap turns_in are.order ∙ turns-moves target are.moves ∙ sym (length-map are.moves (λ (move : Move). move.from)) ∙ ap length are.from

-- as many references as moved
pub moved-count : (target : AllocId) (sources targets : List Ref) (calls : List MemoryCall) → AreMoved target sources targets calls
    → length targets ≡ length sources
moved-count target sources targets calls are =
    ap length (sym are.to) ∙ length-map are.moves (λ (move : Move). move.to)
    ∙ sym (length-map are.moves (λ (move : Move). move.from)) ∙ ap length are.from

-- what was asked for at last moved nothing
record IsUnmoved (left : List Ref) (asked : List MemoryCall) : Type 0 where
  pub buffers : All IsBufferCall asked
  pub leaves : (held : List Ref) → Leaves held asked held
  pub turns : turns_in asked ≤ length left

unmoved : (target : AllocId) (left : List Ref) (refused : RefRefused) (asked : List MemoryCall)
    → IsMoveRefusal target left refused asked → IsUnmoved left asked
unmoved target left refused [] is = record { buffers = All-nil IsBufferCall; leaves = λ held k n real. refl; turns = omega arith }
unmoved target [] refused (call ∷ asked) impossible = absurd impossible
unmoved target (first ∷ left) refused (call ∷ asked) is =
    subst (λ c. IsUnmoved (first ∷ left) (c ∷ asked)) (sym is.0)
    (subst (λ cs. IsUnmoved (first ∷ left) (Transfer first target (Err refused) ∷ cs)) (sym is.1) (record {
      buffers = All-cons IsBufferCall (Transfer first target (Err refused)) [] tt (All-nil IsBufferCall);
      leaves = λ held. (held, λ k n real. refl, λ k n real. refl);
      turns = omega arith;
    }))

-- what calls for buffers come to that give back all of these references
pub record AreGivenUp (sources : List Ref) (calls : List MemoryCall) : Type 0 where
  pub buffers : All IsBufferCall calls
  pub leaves : (held : List Ref) → Leaves (sources ++ held) calls held
  pub turns : turns_in calls ≤ length sources

-- in another order
swapped : (tos left held : List Ref) → AreSame (tos ++ (left ++ held)) ((left ++ tos) ++ held)
swapped tos left held k n real =
    let one = held-append tos (left ++ held) k n in
    let two = held-append left held k n in
    let three = held-append (left ++ tos) held k n in
    let four = held-append left tos k n in
    omega (arith, one, two, three, four)

pub given-up : (target : AllocId) (sources : List Ref) (refused : RefRefused) (calls : List MemoryCall)
    → IsRefusedMove target sources refused calls → AreGivenUp sources calls
given-up target sources refused calls is =
    subst (λ cs. AreGivenUp sources cs) (sym is.order)
    (subst (λ rs. AreGivenUp rs (flat_map (move_calls target) is.moves ++ (is.asked ++ is.returned))) (sym is.all)
    (parts is.moves is.left is.asked is.returned is.refusal is.given_back))
  where
    parts : (moves : List Move) (left : List Ref) (asked returned : List MemoryCall) → IsMoveRefusal target left refused asked
        → GivesBack (left ++ map (λ move. move.to) moves) returned
        → AreGivenUp (map (λ move. move.from) moves ++ left) (flat_map (move_calls target) moves ++ (asked ++ returned))
    parts moves left asked returned refusal back =
        let once = unmoved target left refused asked refusal in
        let part = returned-part (left ++ map (λ move. move.to) moves) returned back in
        let froms = map (λ move. move.from) moves in
        let tos = map (λ move. move.to) moves in
        record {
          buffers = All-append IsBufferCall (flat_map (move_calls target) moves) (asked ++ returned) (moves-buffers target moves)
              (All-append IsBufferCall asked returned once.buffers part.buffers);
          leaves = λ held.
              leaves-from ((froms ++ left) ++ held) (froms ++ (left ++ held)) (flat_map (move_calls target) moves ++ (asked ++ returned)) held
              (λ k n real. ap (λ rs. sum_by (one_to k n) rs) (append_assoc froms left held))
              (leaves-append (froms ++ (left ++ held)) (flat_map (move_calls target) moves) (tos ++ (left ++ held)) (asked ++ returned) held
              (leaves-moves target moves (left ++ held))
              (leaves-append (tos ++ (left ++ held)) asked (tos ++ (left ++ held)) returned held (once.leaves (tos ++ (left ++ held)))
              (leaves-from (tos ++ (left ++ held)) ((left ++ tos) ++ held) returned held (swapped tos left held) (part.leaves held))));
          turns =
              let outer = turns-append (flat_map (move_calls target) moves) (asked ++ returned) in
              let inner = turns-append asked returned in
              let first = turns-moves target moves in
              let second = once.turns in
              let third = part.turns in
              let long = length-append froms left in
              let many = length-map moves (λ (move : Move). move.from) in
              omega (arith, outer, inner, first, second, third, long, many);
        }
