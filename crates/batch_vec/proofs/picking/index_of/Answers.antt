-- A number that is there is found.
use Rattle.std.proofs.Common.{sym}
use Rattle.batch_vec.proofs.UnpickedLemmas.{index_found, index_missing}
use Rattle.batch_vec.proofs.picking.index_of.Goals as goal

pub returns-in-Some-clause-within : goal.returns-in-Some-clause-within
returns-in-Some-clause-within c = (index_found _ _ _ (sym c.in-Some.ensures.value)).0

pub returns-in-Some-clause-value : goal.returns-in-Some-clause-value
returns-in-Some-clause-value c = (index_found _ _ _ (sym c.in-Some.ensures.value)).1

pub returns-in-None-clause-value : goal.returns-in-None-clause-value
returns-in-None-clause-value c = absurd (index_missing c.args.numbers.now c.args.number (sym c.in-None.ensures.value) c.requires.there)
