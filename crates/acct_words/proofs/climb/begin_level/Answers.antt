use Rattle.std.proofs.Common.{true, false, refl}
use Rattle.acct_words.specs.Entries.StepKind.{BeginCharge}
use Rattle.acct_words.specs.Moves.{beginning}
use Rattle.acct_words.proofs.ClimbLemmas.{has_reached, knows_level, level_gone}
use Rattle.acct_words.proofs.climb.begin_level.Goals as goal

pub end_level-requires-clause-reached : goal.end_level-requires-clause-reached
end_level-requires-clause-reached c = has_reached (BeginCharge c.args.size) (beginning c.args.size) c.args.at c.begin-found.result
    _ _ _ (λ f b e. refl) refl
    c.begin-found.ensures.view

pub end_level-requires-clause-known : goal.end_level-requires-clause-known
end_level-requires-clause-known c = record {
  fixed = c.begin-found.ensures.view.fixed;
  is = knows_level (BeginCharge c.args.size) (beginning c.args.size) c.args.at c.begin-found.result _ _ c.begin-found.ensures.view;
}

pub returns-clause-level : goal.returns-clause-level
returns-clause-level c = level_gone c.args.at c.args.at c.args.size (BeginCharge c.args.size) (beginning c.args.size) false true
    c.begin-found.result
    _ _ _ _ _ c.begin-found.ensures.view c.end_level.ensures.level
