use Rattle.std.proofs.Common.{true, false}
use Rattle.std.specs.Prelude.{length}
use Rattle.acct_words.specs.Entries.StepKind.{BeginCharge}
use Rattle.acct_words.specs.Moves.{beginning}
use Rattle.acct_words.proofs.ClimbLemmas.{charge_begins, charge_going, charge_ends, asked_in_tree}
use Rattle.acct_words.proofs.climb.climb.Goals as goal

pub climb_on-requires-clause-inside : goal.climb_on-requires-clause-inside
climb_on-requires-clause-inside c = asked_in_tree (length c.args.words.now.key.nodes.items) c.args.at c.args.at c.args.size
    (BeginCharge c.args.size) (beginning c.args.size) false true _ _ _ _ c.begin_level-full.ensures.level c.requires.level

pub climb_on-requires-clause-going : goal.climb_on-requires-clause-going
climb_on-requires-clause-going c =
    let b = charge_begins c.args.at c.args.size c.args.token.now.me.0 _ _ _ c.requires.chunk c.begin_level-full.ensures.level in
    charge_going c.args.at c.args.size c.args.token.now.me.0 _ b.0 _ _ b.1 b.2

pub returns-clause-climbed : goal.returns-clause-climbed
returns-clause-climbed c =
    charge_ends c.args.at c.args.size c.args.token.now.me.0 c.begin_level-full.new.token.me.0 _ _ _ _
    (charge_begins c.args.at c.args.size c.args.token.now.me.0 _ _ _ c.requires.chunk c.begin_level-full.ensures.level)
    c.climb_on.ensures.went
