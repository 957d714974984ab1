use Rattle.std.proofs.Common.{refl, ap, ◌∙◌, sym, subst}
use Rattle.std.specs.Prelude.{length}
use Rattle.acct_words.specs.Entries.StepKind.{AddHeld}
use Rattle.acct_words.specs.Moves.{rising}
use Rattle.acct_words.specs.Climbs.{GoesOn, IsGoing, IsInTree}
use Rattle.acct_words.proofs.ClimbLemmas.{level_goes_on, goes_on_then, going_on, going_up, asked_in_tree, none_is}
use Rattle.acct_words.proofs.climb.climb_on.Goals as goal

pub loop-next-init : goal.loop-next-init
loop-next-init c = record {
  table = (refl, refl);
  start = refl;
  inside = c.requires.inside;
  going = c.requires.going;
  went = λ size chunk rest others bytes turns v steps h f. (steps, h, f);
}

pub climb_level-refused-requires-clause-up : goal.climb_level-refused-requires-clause-up
climb_level-refused-requires-clause-up c =
    going_up c.args.at c.args.forced c.in-Some.level c.in-Some.amount c.loop-next.token.me.0 c.loop-next.full
    (subst (IsGoing c.args.at c.args.forced c.loop-next.token.me.0 c.loop-next.full) c.in-Some.is c.loop-next.invariant.going)

pub loop-next-preserved : goal.loop-next-preserved
loop-next-preserved c =
    let i = c.loop-next.invariant in
    let e = c.climb_level-refused.ensures.level in
    let full = c.loop-next.full in
    let w = c.loop-next.token.me.0 in
    let x = c.climb_level-refused.new.token.me.0 in
    let count = length c.args.words.now.key.nodes.items in
    let one : GoesOn c.args.at c.args.forced w x full c.keep_first.new.full c.loop-next.next c.climb_level-refused.result.1
    = subst (λ (o : _). GoesOn c.args.at c.args.forced w x full c.keep_first.new.full o c.climb_level-refused.result.1) (sym c.in-Some.is)
    (level_goes_on c.args.at c.args.forced c.is_none-clean.result c.in-Some.level c.in-Some.amount w x full
    c.climb_level-refused.result.0 c.keep_first.new.full c.climb_level-refused.result.1
    (none_is full c.is_none-clean.result c.is_none-clean.ensures) e
    c.keep_first.ensures) in
    record {
      table = (c.climb_level-refused.ensures.table.0 ∙ i.table.0, c.climb_level-refused.ensures.table.1 ∙ i.table.1);
      start = ap (λ (y : _). y.start) e.view ∙ i.start;
      inside = asked_in_tree count c.args.at c.in-Some.level c.in-Some.amount (AddHeld c.in-Some.amount) rising c.args.forced
          c.is_none-clean.result w x c.climb_level-refused.result.0 c.climb_level-refused.result.1 e
          (subst (IsInTree count) c.in-Some.is i.inside);
      going = going_on c.args.at c.args.forced w x full c.keep_first.new.full c.loop-next.next c.climb_level-refused.result.1 one i.going;
      went = goes_on_then c.args.at c.args.forced c.args.token.now.me.0 w x c.args.full full c.keep_first.new.full c.args.next
          c.loop-next.next c.climb_level-refused.result.1 i.went one;
    }
