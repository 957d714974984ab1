-- The keys of the first places.
use Rattle.std.proofs.Common.{◌≡◌, [], map, take, get_or}
use Rattle.query_model.specs.declared.cell.Cell.TheVariants.{Text}
use Rattle.operators.proofs.keys.Keys.texts.Given as goal

abbrev pub invariant-places : goal.invariant-places
invariant-places l = l.texts ≡ map (λ place. Text (get_or l.self place [])) (take l.place-index l.places)
