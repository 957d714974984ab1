use Rattle.std.proofs.Common.{true, refl}
use Rattle.acct_words.specs.Entries.StepKind.{AddHeld}
use Rattle.acct_words.specs.Moves.{forcing}
use Rattle.acct_words.proofs.ClimbLemmas.{has_reached, knows_level, level_gone}
use Rattle.acct_words.proofs.force.force_level.Goals as goal

pub end_level-requires-clause-reached : goal.end_level-requires-clause-reached
end_level-requires-clause-reached c = has_reached (AddHeld c.args.size) (forcing c.args.size) c.args.at c.begin_force-found.result
    _ _ _ (λ f b e. refl) refl
    c.begin_force-found.ensures.view

pub end_level-requires-clause-known : goal.end_level-requires-clause-known
end_level-requires-clause-known c = record {
  fixed = c.begin_force-found.ensures.view.fixed;
  is = knows_level (AddHeld c.args.size) (forcing c.args.size) c.args.at c.begin_force-found.result _ _ c.begin_force-found.ensures.view;
}

pub returns-clause-level : goal.returns-clause-level
returns-clause-level c = level_gone c.args.at c.args.at c.args.size (AddHeld c.args.size) (forcing c.args.size) true true
    c.begin_force-found.result
    _ _ _ _ _ c.begin_force-found.ensures.view c.end_level.ensures.level
