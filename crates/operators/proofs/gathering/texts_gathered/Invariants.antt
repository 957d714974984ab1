-- Texts for the first places.
use Rattle.std.proofs.Common.{◌≡◌, map, take, get_or}
use Rattle.csv.specs.Records.{cut_from}
use Rattle.query_model.specs.declared.cell.Cell.TheVariants.{Null, Text}
use Rattle.operators.proofs.gathering.texts_gathered.Given as goal

abbrev pub invariant-places : goal.invariant-places
invariant-places l = l.texts ≡ map (λ place. get_or (map Text (cut_from l.start l.ends l.bytes)) place Null) (take l.place-index l.places)
