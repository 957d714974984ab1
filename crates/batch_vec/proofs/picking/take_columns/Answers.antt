-- One more column was taken out.
use Rattle.std.proofs.Common.{◌≡◌, ◌+◌, ◌*◌, ◌<◌, ◌∷◌, ◌++◌, ◌∙◌, [], ap, take, drop, get_or, length, arith, rules}
use Rattle.std.proofs.lemmas.List.{take_more}
use Rattle.std.specs.Vec.{vec_len, vec_capacity}
use Rattle.batch_vec.proofs.PickingLemmas.{HasTaken-none, HasTaken-one, pick_there, rest_long}
use Rattle.batch_vec.proofs.picking.take_columns.Goals as goal

pub picks-init : goal.picks-init
picks-init g c =
    let none = c.in-Ok-with_capacity.ensures.items in
    let capacity = c.in-Ok-with_capacity.ensures.capacity in
    record {
      two = c.requires.two;
      taken = HasTaken-none c.args.buffers.items c.args.columns c.requires.two _ _ _ c.in-Ok.ensures.value none (λ k. c.args.buffers.items);
      room = search rules;
    }

pub index_of-place-requires : goal.index_of-place-requires
index_of-place-requires g c =
    let same : c.as_slice.result.now ≡ c.picks.left.items = c.as_slice.ensures.value in
    let below : c.picks.pick-index < length c.args.picks.now = search rules in
    record {
      there = rw same (pick_there _ _ c.picks.invariant.two _ _ _ _ c.picks.pick-index c.picks.invariant.taken c.requires.different
          c.requires.within below);
    }

pub remove-requires-in-picks : goal.remove-requires-in-picks
remove-requires-in-picks g c =
    let long = rest_long _ _ c.picks.invariant.two _ _ _ _ c.picks.invariant.taken in
    let same : c.as_slice.result.now ≡ c.picks.left.items = c.as_slice.ensures.value in
    let place : c.index_of-place.result < length c.picks.left.items = rw same at c.index_of-place.ensures.within in
    let items : vec_len c.picks.rest ≡ length c.picks.rest.items = search rules in
    omega (arith, long, place, items)

pub remove-requires-in-picks-2 : goal.remove-requires-in-picks-2
remove-requires-in-picks-2 g c =
    let long = rest_long _ _ c.picks.invariant.two _ _ _ _ c.picks.invariant.taken in
    let same : c.as_slice.result.now ≡ c.picks.left.items = c.as_slice.ensures.value in
    let place : c.index_of-place.result < length c.picks.left.items = rw same at c.index_of-place.ensures.within in
    let items : vec_len c.picks.rest ≡ length c.picks.rest.items = search rules in
    let less : vec_len c.remove-in-picks.new.self + 1 ≡ vec_len c.picks.rest = c.remove-in-picks.ensures.len in
    omega (arith, long, place, items, less)

pub picks-preserved : goal.picks-preserved
picks-preserved g c =
    let i = c.picks.pick-index in
    let picks = c.args.picks.now in
    let place = c.index_of-place.result in
    let below : i < length picks = search rules in
    let same : c.as_slice.result.now ≡ c.picks.left.items = c.as_slice.ensures.value in
    let within : place < length c.picks.left.items = rw same at c.index_of-place.ensures.within in
    let there : get_or c.picks.left.items place (get_or picks i 0) ≡ get_or picks i 0 = rw same at c.index_of-place.ensures.value in
    let left_is : c.remove.new.self.items ≡ take place c.picks.left.items ++ drop (place + 1) c.picks.left.items =
    c.remove.ensures.by_index.2 in
    let first = c.remove-in-picks in
    let second = c.remove-in-picks-2 in
    let pushed : c.push_reserved-in-picks.new.self.items ≡ (c.picks.picked.items ++ first.result ∷ []) ++ second.result ∷ [] =
    c.push_reserved-in-picks.ensures.items ∙ ap (λ list. list ++ second.result ∷ []) c.push_reserved.ensures.items in
    let more : take (i + 1) picks ≡ take i picks ++ get_or picks i 0 ∷ [] = take_more picks i 0 below in
    let one : vec_len c.push_reserved.new.self ≡ vec_len c.picks.picked + 1 = c.push_reserved.ensures.len in
    let two : vec_len c.push_reserved-in-picks.new.self ≡ vec_len c.push_reserved.new.self + 1 = c.push_reserved-in-picks.ensures.len in
    let room1 : vec_capacity c.push_reserved.new.self ≡ vec_capacity c.picks.picked = c.push_reserved.ensures.capacity in
    let room2 : vec_capacity c.push_reserved-in-picks.new.self ≡ vec_capacity c.push_reserved.new.self =
    c.push_reserved-in-picks.ensures.capacity in
    let room = c.picks.invariant.room in
    record {
      two = c.picks.invariant.two;
      taken = rw (more, pushed) (HasTaken-one _ _ c.picks.invariant.two (take i picks) c.picks.left.items c.remove.new.self.items
          c.picks.picked.items c.picks.rest.items first.new.self.items second.new.self.items (get_or picks i 0) place first.result
          second.result c.picks.invariant.taken (c.requires.within i 0 below) within there left_is first.ensures.value
          first.ensures.by_index.2 second.ensures.value second.ensures.by_index.2);
      room = omega (arith, one, two, room1, room2, room, below);
    }
