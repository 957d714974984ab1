-- One place more.
use Rattle.std.proofs.Common.{rules}
use Rattle.operators.proofs.PlaceLemmas.{range-more}
use Rattle.operators.proofs.selecting.all_places.Goals as goal

pub places-preserved : goal.places-preserved
places-preserved c = record {
  places = range-more c.places.place _ _ c.push_reserved.ensures.items c.places.invariant.places;
  filled = search rules;
  room = search rules;
}
