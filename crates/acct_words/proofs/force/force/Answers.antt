use Rattle.std.proofs.Common.{true}
use Rattle.std.specs.Prelude.{length}
use Rattle.acct_words.specs.Entries.StepKind.{AddHeld}
use Rattle.acct_words.specs.Moves.{forcing}
use Rattle.acct_words.proofs.ClimbLemmas.{force_begins, force_going, force_ends, asked_in_tree}
use Rattle.acct_words.proofs.force.force.Goals as goal

pub climb_on-requires-clause-inside : goal.climb_on-requires-clause-inside
climb_on-requires-clause-inside c = asked_in_tree (length c.args.words.now.key.nodes.items) c.args.at c.args.at c.args.size
    (AddHeld c.args.size) (forcing c.args.size) true true _ _ _ _ c.force_level-full.ensures.level c.requires.level

pub climb_on-requires-clause-going : goal.climb_on-requires-clause-going
climb_on-requires-clause-going c =
    let b = force_begins c.args.at c.args.size c.args.token.now.me.0 _ _ _ c.requires.chunk c.force_level-full.ensures.level in
    force_going c.args.at c.args.size c.args.token.now.me.0 _ b.0 _ _ b.1 b.2

pub returns-clause-forced : goal.returns-clause-forced
returns-clause-forced c =
    force_ends c.args.at c.args.size c.args.token.now.me.0 c.force_level-full.new.token.me.0 _ _ _ _
    (force_begins c.args.at c.args.size c.args.token.now.me.0 _ _ _ c.requires.chunk c.force_level-full.ensures.level)
    c.climb_on.ensures.went
