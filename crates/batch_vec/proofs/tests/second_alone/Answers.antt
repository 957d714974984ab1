-- The picks differ.
use Rattle.std.proofs.Common.{◌≡◌, [], ◌∷◌, true, nat_eq, refl}
use Rattle.query_model.specs.Fit.{are_different}
use Rattle.batch_vec.proofs.tests.second_alone.Goals as goal

differ : are_different nat_eq (1 ∷ []) ≡ true
unfolding are_different
differ = refl

pub pick_columns-requires-clause-different : goal.pick_columns-requires-clause-different
pick_columns-requires-clause-different g c = differ
