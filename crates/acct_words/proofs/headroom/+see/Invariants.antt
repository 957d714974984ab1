use Rattle.acct_words.proofs.headroom.+see.Given as goal

abbrev pub decreases-see : goal.decreases-see
decreases-see l = l.level
