use Rattle.acct_words.specs.Moves.{turning}
use Rattle.acct_words.proofs.ReleaseLemmas.{level_left}
use Rattle.acct_words.proofs.release.turn_level.Goals as goal

pub returns-clause-level : goal.returns-clause-level
returns-clause-level c = level_left c.args.level c.args.size turning c.turn-found.result c.read_above-above.result _ _ _ _
    c.turn-found.ensures.view c.read_above-above.ensures.view c.given_next.ensures
