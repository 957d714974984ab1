use Rattle.acct_words.proofs.BoundLemmas.{held_small, held_covers}
use Rattle.acct_words.proofs.laws.held_words_stay_small.Goals as goal

pub returns-clause-small : goal.returns-clause-small
returns-clause-small c = held_small

pub returns-clause-covers : goal.returns-clause-covers
returns-clause-covers c = held_covers
