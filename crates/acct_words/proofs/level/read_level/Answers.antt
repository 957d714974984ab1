use Rattle.acct_words.proofs.ClimbLemmas.{level_is_read}
use Rattle.acct_words.proofs.level.read_level.Goals as goal

pub returns-clause-view : goal.returns-clause-view
returns-clause-view c = level_is_read c.args.level c.read_limit-limit.result c.read_above.result _ _ _ c.read_limit-limit.ensures.view
    c.read_limit-limit.ensures.tells c.read_above.ensures.view
