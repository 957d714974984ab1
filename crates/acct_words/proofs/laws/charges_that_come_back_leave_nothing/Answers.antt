use Rattle.acct_words.proofs.ReturnLemmas.{charge_gives_back, refused_gives_back}
use Rattle.acct_words.proofs.laws.charges_that_come_back_leave_nothing.Goals as goal

pub returns-clause-charged : goal.returns-clause-charged
returns-clause-charged c = charge_gives_back

pub returns-clause-refused : goal.returns-clause-refused
returns-clause-refused c = refused_gives_back
