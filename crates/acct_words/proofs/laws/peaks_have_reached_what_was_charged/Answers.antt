use Rattle.acct_words.proofs.ReachLemmas.{charge_reached, force_reached}
use Rattle.acct_words.proofs.laws.peaks_have_reached_what_was_charged.Goals as goal

pub returns-clause-charged : goal.returns-clause-charged
returns-clause-charged c = charge_reached

pub returns-clause-forced : goal.returns-clause-forced
returns-clause-forced c = force_reached
