-- One copy more.
use Rattle.std.proofs.Common.{◌≤◌, ◌∙◌, length, get_or, rules}
use Rattle.operators.proofs.GatherLemmas.{any-default, mapped-all, mapped-more}
use Rattle.operators.proofs.gathering.gathered.Goals as goal

pub places-preserved : goal.places-preserved
places-preserved g c = record {
  copies = λ d. mapped-more (λ place. get_or c.args.items.now place d) c.args.places.now c.places.place-index 0 _ _ _ (search rules)
      c.push_reserved.ensures.items (c.places.invariant.copies d)
      (c.index-items-place.is ∙ any-default c.args.items.now (get_or c.args.places.now c.places.place-index 0) c.index-items-place.result d
      (c.requires.within c.places.place-index 0 (search rules)));
  filled = search rules;
  room = search rules;
}

pub returns : goal.returns
returns g c =
    let behind : length c.args.places.now ≤ c.places.place-index = search rules in
    record {
      value = λ d. mapped-all (λ place. get_or c.args.items.now place d) c.args.places.now c.places.place-index _ behind
          (c.places.invariant.copies d);
    }
