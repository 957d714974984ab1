use Rattle.std.proofs.Common.{sym, ◌∙◌, ◌<◌, rules, arith}
use Rattle.std.proofs.lemmas.Int.{ints, clamps}
use Rattle.alloc_tree.proofs.HeadroomLemmas.{IsSoundRow, older, headroom_unmade, headroom_root, headroom_child}
use Rattle.alloc_tree.proofs.solo_tree.SoloTree.+headroom_at.Goals as goal

pub returns-in_default-clause-value : goal.returns-in_default-clause-value
returns-in_default-clause-value t c = headroom_unmade c.self.inside c.args.self.now c.args.at c.self.view_is
    (sym c.get.ensures ∙ c.in_default.is)

pub headroom_at-requires : goal.headroom_at-requires
headroom_at-requires t c =
    let row : IsSoundRow c.self.inside c.args.self.now c.args.at c.in-Some.row = record {
      sound = c.self.invariant.sound;
      view = c.self.view_is;
      is = sym c.get.ensures ∙ c.in-Some.is;
    } in
    let smaller : c.in-Some-parent.parent.0 < c.args.at.0 = older row c.in-Some-parent.is in
    search rules

pub returns-in_default-parent-clause-value : goal.returns-in_default-parent-clause-value
returns-in_default-parent-clause-value t c =
    let row : IsSoundRow c.self.inside c.args.self.now c.args.at c.in-Some.row = record {
      sound = c.self.invariant.sound;
      view = c.self.view_is;
      is = sym c.get.ensures ∙ c.in-Some.is;
    } in
    omega (arith, ints, c.free_in-free.ensures ∙ headroom_root row c.in_default-parent.is)

pub returns-clause-value : goal.returns-clause-value
returns-clause-value t c =
    let row : IsSoundRow c.self.inside c.args.self.now c.args.at c.in-Some.row = record {
      sound = c.self.invariant.sound;
      view = c.self.view_is;
      is = sym c.get.ensures ∙ c.in-Some.is;
    } in
    omega (arith, ints, clamps, headroom_child row c.headroom_at.result c.in-Some-parent.is c.headroom_at.ensures.value)
