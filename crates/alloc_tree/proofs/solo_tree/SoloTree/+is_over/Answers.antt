use Rattle.std.proofs.Common.{sym, ◌∙◌, ◌<◌, rules}
use Rattle.alloc_tree.proofs.HeadroomLemmas.{IsSoundRow, older, over_unmade, over_root, over_here, over_above}
use Rattle.alloc_tree.proofs.solo_tree.SoloTree.+is_over.Goals as goal

pub returns-in_default : goal.returns-in_default
returns-in_default t c = over_unmade c.self.inside c.args.self.now c.args.at c.self.view_is (sym c.get.ensures ∙ c.in_default.is)

pub returns-in_default-parent : goal.returns-in_default-parent
returns-in_default-parent t c =
    let row : IsSoundRow c.self.inside c.args.self.now c.args.at c.in-Some.row = record {
      sound = c.self.invariant.sound;
      view = c.self.view_is;
      is = sym c.get.ensures ∙ c.in-Some.is;
    } in
    over_root row c.in_default-parent.is

pub is_over-requires : goal.is_over-requires
is_over-requires t c =
    let row : IsSoundRow c.self.inside c.args.self.now c.args.at c.in-Some.row = record {
      sound = c.self.invariant.sound;
      view = c.self.view_is;
      is = sym c.get.ensures ∙ c.in-Some.is;
    } in
    let smaller : c.in-Some-parent.parent.0 < c.args.at.0 = older row c.in-Some-parent.is in
    search rules

pub returns-then-is_past : goal.returns-then-is_past
returns-then-is_past t c =
    let row : IsSoundRow c.self.inside c.args.self.now c.args.at c.in-Some.row = record {
      sound = c.self.invariant.sound;
      view = c.self.view_is;
      is = sym c.get.ensures ∙ c.in-Some.is;
    } in
    over_here row c.in-Some-parent.is c.if-is_past.true

pub returns-else-is_past : goal.returns-else-is_past
returns-else-is_past t c =
    let row : IsSoundRow c.self.inside c.args.self.now c.args.at c.in-Some.row = record {
      sound = c.self.invariant.sound;
      view = c.self.view_is;
      is = sym c.get.ensures ∙ c.in-Some.is;
    } in
    c.is_over.ensures ∙ over_above row c.in-Some-parent.is c.if-is_past.false
