-- The calls of a merge: those that were planned, up to one that a level refused, if one was.
use Rattle.std.proofs.Common.{◌≡◌, ℕ, suc, List, [], ◌∷◌, ◌++◌, length, map, take, refl, sym, ◌∙◌, ap, subst, append_assoc}
use Rattle.std.proofs.Common.{arith}
use Rattle.std.proofs.lemmas.Grind.{flat_map-append}
use Rattle.std.proofs.lemmas.List.{append-nil, length-append, map-append, take-append-le}
use Rattle.std.proofs.lemmas.List.Elements.{All-append}
use Rattle.std.specs.Prelude.{flat_map, Ok, Err}
use Rattle.std.specs.List.{range_with_len}
use Rattle.mem_num.specs.declared.buffer_ref.Ref.{Ref}
use Rattle.mem_num.specs.declared.full.Full.{Full as AnyFull}
use Rattle.mem_model.specs.Calls as planned_call
use Rattle.mem_buf.specs.MemoryCall.{MemoryCall}
use Rattle.mem_buf.specs.Moving.{AreMoved, move_calls}
use Rattle.mem_buf.specs.TokenView.{TokenView}
use Rattle.query_model.proofs.GroupLemmas.{each-part}
use Rattle.query_model.specs.Answer.{answer_of}
use Rattle.query_model.specs.Buffers.{buffer_lengths}
use Rattle.query_model.specs.Requests.{answer_kinds, result_id}
use Rattle.query_model.specs.SequentialCalls as sequential
use Rattle.query_model.specs.SequentialCalls.{answer_places, merge_calls, release_calls}
use Rattle.query_model.specs.declared.cell.Cell.{Cell}
use Rattle.query_model.specs.declared.output.Output.{Output}
use Rattle.query_model.specs.declared.output.Output.TheVariants.{Select, Group}
use Rattle.query_model.specs.declared.plan.Plan.{Plan}
use Rattle.alloc_tree.specs.SoloPlanned.{ArePlanned}
use Rattle.batch_vec.specs.Batches.{BatchView}
use Rattle.batch_vec.specs.declared.refused.OpRefused.TheVariants.{Full}
use Rattle.operators.specs.Instead.{IsStoreInstead}
use Rattle.pipeline.specs.BatchRun.{IsDone}
use Rattle.pipeline.specs.Holding.{IsBufferCall, Leaves}
use Rattle.pipeline.specs.Stages.{IsMergeDone, IsMergeRefused, parts_places}
use Rattle.pipeline.proofs.HoldingLemmas.{leaves-append, leaves-from, leaves-moves, moves-buffers, moves-done, same-swap}
use Rattle.pipeline.proofs.PlannedLemmas.{all-stay, further, given_by, moves-planned, planned-append, releases-planned}
use Rattle.pipeline.proofs.StoredLemmas.{is-stored, refused-part, returned-part}

-- a reference of a tree of one thread is its own hold
abbrev pub own : Ref → Ref
own hold = hold

module _ (plan : Plan) (rows : List (List Cell)) where
  -- the moves of batches, one after the other, are those of all their parts of the answer
  moves-joined : (picks numbers : List ℕ)
      → merge_calls plan rows numbers (Select picks)
      ≡ sequential.move_calls result_id (flat_map (λ batch. answer_places plan batch (Select picks)) numbers)
  moves-joined picks numbers =
      sym (each-part (sequential.move_calls result_id) (λ batch. answer_places plan batch (Select picks)) refl
      (flat_map-append (λ place. planned_call.Transfer place result_id ∷ planned_call.Release place ∷ [])) numbers)

  -- so are the releases
  releases-joined : (output : Output) (numbers : List ℕ)
      → flat_map (λ batch. release_calls (answer_places plan batch output)) numbers
      ≡ release_calls (flat_map (λ batch. answer_places plan batch output) numbers)
  releases-joined output numbers =
      sym (each-part release_calls (λ batch. answer_places plan batch output) refl (map-append planned_call.Release) numbers)

  -- the parts of a selection moved
  pub selection-done : (picks : List ℕ) (sources holds : List Ref) (calls : List MemoryCall) → plan.output ≡ Select picks
      → AreMoved result_id sources holds calls → IsMergeDone plan rows sources holds calls
  selection-done picks sources holds calls output are =
      subst (IsMergeDone plan rows sources holds) (sym are.order) (record {
        planned = λ given count there before.
            subst (λ ps. ArePlanned given ps (flat_map (move_calls result_id) are.moves))
            (sym (ap (merge_calls plan rows (range_with_len 1 count)) output ∙ moves-joined picks (range_with_len 1 count)
            ∙ ap (λ o. sequential.move_calls result_id (flat_map (λ batch. answer_places plan batch o) (range_with_len 1 count)))
            (sym output)))
            (moves-planned given result_id (parts_places plan count) are.moves (are.from ∙ sym there) before);
        done = moves-done result_id are.moves;
        buffers = moves-buffers result_id are.moves;
        leaves =
            subst (λ froms. Leaves froms (flat_map (move_calls result_id) are.moves) holds)
            (append-nil (map (λ move. move.from) are.moves) ∙ are.from)
            (subst (Leaves (map (λ move. move.from) are.moves ++ []) (flat_map (move_calls result_id) are.moves))
            (append-nil (map (λ move. move.to) are.moves) ∙ are.to) (leaves-moves result_id are.moves []));
      })

  module _ (view : TokenView) (key : ℕ) (sums : List ℕ) (sources : List Ref) (lengths : List ℕ) (output : plan.output ≡ Group key sums)
      (are : lengths ≡ buffer_lengths (answer_kinds plan) (answer_of plan rows)) where
    -- a merge of groups asks for a buffer for each length, and then gives all parts back
    groups-calls : (count : ℕ) → merge_calls plan rows (range_with_len 1 count) plan.output
        ≡ map (planned_call.Grant result_id) lengths ++ release_calls (parts_places plan count)
    groups-calls count =
        let numbers = range_with_len 1 count in
        let stores = map (planned_call.Grant result_id) (buffer_lengths (answer_kinds plan) (answer_of plan rows)) in
        ap (merge_calls plan rows numbers) output
        ∙ ap (λ ps. stores ++ ps)
        (releases-joined (Group key sums) numbers
        ∙ ap (λ o. release_calls (flat_map (λ batch. answer_places plan batch o) numbers)) (sym output))
        ∙ ap (λ ls. map (planned_call.Grant result_id) ls ++ release_calls (parts_places plan count)) (sym are)

    -- the groups were stored, and all parts given back
    pub groups-done : (batch : BatchView Ref) (calls : List MemoryCall)
        → IsStoreInstead own view result_id lengths sources (Ok batch) calls
        → IsMergeDone plan rows sources (map own batch.holds) calls
    groups-done batch calls is =
        let holds = map own batch.holds in
        let made = is-stored result_id lengths holds is.stored is.storing in
        let part = returned-part sources is.returned is.given_back in
        subst (IsMergeDone plan rows sources holds) (sym is.order) (record {
          planned = λ given count there before.
              let places = parts_places plan count in
              let gave = given_by is.stored in
              subst (λ ps. ArePlanned given ps (is.stored ++ is.returned)) (sym (groups-calls count))
              (planned-append given (map (planned_call.Grant result_id) lengths) (release_calls places) is.stored is.returned
              (made.planned given)
              (subst (ArePlanned (given ++ gave) (release_calls places)) (sym is.given_back.1)
              (releases-planned (given ++ gave) places is.given_back.0
              (is.given_back.2 ∙ sym (all-stay given gave places before ∙ there)) (further given gave places before))));
          done = All-append IsDone is.stored is.returned made.done part.done;
          buffers = All-append IsBufferCall is.stored is.returned made.buffers part.buffers;
          leaves = leaves-append sources is.stored (holds ++ sources) is.returned holds (made.leaves sources)
              (leaves-from (holds ++ sources) (sources ++ holds) is.returned holds (same-swap holds sources) (part.leaves holds));
        })

    -- a level refused one of their buffers
    pub groups-refused : (full : AnyFull) (calls : List MemoryCall)
        → IsStoreInstead {H = Ref} own view result_id lengths sources (Err (Full full)) calls → IsMergeRefused plan rows full calls
    groups-refused full calls is =
        let stores = map (planned_call.Grant result_id) lengths in
        let part = refused-part view result_id lengths full is.stored is.storing in
        record {
          asked = part.asked;
          refused = part.refused;
          later = part.returned ++ is.returned;
          order = is.order ∙ ap (λ cs. cs ++ is.returned) part.order
              ∙ append_assoc part.asked (part.refused ∷ part.returned) is.returned;
          within = λ count.
              let all = ap length (groups-calls count) in
              let long = length-append stores (release_calls (parts_places plan count)) in
              let some = part.within in
              omega (arith, all, long, some);
          planned = λ given count.
              subst (λ ps. ArePlanned given ps (part.asked ++ (part.refused ∷ [])))
              (sym (ap (take (suc (length part.asked))) (groups-calls count)
              ∙ take-append-le (suc (length part.asked)) stores (release_calls (parts_places plan count)) part.within))
              (part.planned given);
          done = part.done;
          memory = part.memory;
          full = part.full;
        }
