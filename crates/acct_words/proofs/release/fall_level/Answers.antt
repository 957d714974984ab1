use Rattle.acct_words.specs.Moves.{falling}
use Rattle.acct_words.proofs.ReleaseLemmas.{level_left}
use Rattle.acct_words.proofs.release.fall_level.Goals as goal

pub returns-clause-level : goal.returns-clause-level
returns-clause-level c = level_left c.args.level c.args.amount falling c.fall-found.result c.read_above-above.result _ _ _ _
    c.fall-found.ensures.view c.read_above-above.ensures.view c.given_next.ensures
