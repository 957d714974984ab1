use Rattle.std.proofs.Common.{refl}
use Rattle.acct_words.specs.Entries.StepKind.{AddHeld}
use Rattle.acct_words.specs.Moves.{rising}
use Rattle.acct_words.proofs.ClimbLemmas.{has_reached, knows_level, level_gone}
use Rattle.acct_words.proofs.climb.climb_level.Goals as goal

pub end_level-requires-clause-reached : goal.end_level-requires-clause-reached
end_level-requires-clause-reached c = has_reached (AddHeld c.args.amount) rising c.args.level c.rise-found.result _ _ _ (λ f b e. refl) refl
    c.rise-found.ensures.view

pub end_level-requires-clause-known : goal.end_level-requires-clause-known
end_level-requires-clause-known c = record {
  fixed = c.rise-found.ensures.view.fixed;
  is = knows_level (AddHeld c.args.amount) rising c.args.level c.rise-found.result _ _ c.rise-found.ensures.view;
}

pub returns-clause-level : goal.returns-clause-level
returns-clause-level c = level_gone c.args.at c.args.level c.args.amount (AddHeld c.args.amount) rising c.args.forced c.args.clean
    c.rise-found.result
    _ _ _ _ _ c.rise-found.ensures.view c.end_level.ensures.level
