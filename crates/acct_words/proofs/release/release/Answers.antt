use Rattle.std.proofs.Common.{◌∙◌, subst}
use Rattle.std.specs.Prelude.{length}
use Rattle.acct_words.specs.Moves.{falling, turning}
use Rattle.acct_words.specs.Climbs.{IsInTree}
use Rattle.acct_words.specs.Falls.{IsReleased}
use Rattle.acct_words.proofs.ReleaseLemmas.{release_begins, release_more, release_goes_down, given_in_tree}
use Rattle.acct_words.proofs.release.release.Goals as goal

pub loop-next-init : goal.loop-next-init
loop-next-init c =
    let e = c.turn_level-next.ensures in
    record {
      table = e.table;
      released = release_begins c.args.at c.args.size c.args.token.now.me.0 _ _ c.requires.charge e.level;
      inside = given_in_tree (length c.args.words.now.key.nodes.items) c.args.at c.args.size turning _ _ _ e.level c.requires.level;
    }

pub fall_level-next-requires-clause-down : goal.fall_level-next-requires-clause-down
fall_level-next-requires-clause-down c =
    let h = c.loop-next.invariant.released in
    release_goes_down c.args.at c.args.size c.in-Some.level c.in-Some.amount c.args.token.now.me.0 c.loop-next.token.me.0 h.0
    c.requires.charge
    (subst (IsReleased c.args.at c.args.size c.args.token.now.me.0 c.loop-next.token.me.0 h.0) c.in-Some.is h.1)

pub loop-next-preserved : goal.loop-next-preserved
loop-next-preserved c =
    let i = c.loop-next.invariant in
    let h = i.released in
    let e = c.fall_level-next.ensures in
    let count = length c.args.words.now.key.nodes.items in
    record {
      table = (e.table.0 ∙ i.table.0, e.table.1 ∙ i.table.1);
      released = release_more c.args.at c.args.size c.in-Some.level c.in-Some.amount c.args.token.now.me.0 c.loop-next.token.me.0 _ _
          c.requires.charge e.level
          (h.0, subst (IsReleased c.args.at c.args.size c.args.token.now.me.0 c.loop-next.token.me.0 h.0) c.in-Some.is h.1);
      inside = given_in_tree count c.in-Some.level c.in-Some.amount falling _ _ _ e.level
          (subst (IsInTree count) c.in-Some.is i.inside);
    }
