use Rattle.std.proofs.Common.{ℕ, ◌∙◌, sym, ap, arith, refl, Some, None, Ok, rules}
use Rattle.mem_model.specs.Chunk.{charges_of}
use Rattle.mem_model.specs.Close.{close_result}
use Rattle.mem_model.proofs.CallResultLemmas.{close-closed, close-used}
use Rattle.alloc_tree.proofs.CloseLemmas.{open_is, uses_are, shut_read, closed_at_parent, closed_root, gives_back, parent_counts}
use Rattle.alloc_tree.proofs.CountLemmas.{close_uncounted}
use Rattle.alloc_tree.proofs.DoneLemmas.{IsDone, seen, unchanged_told}
use Rattle.alloc_tree.proofs.LowerLemmas.{stays_open}
use Rattle.alloc_tree.proofs.StateLemmas.{made_in}
use Rattle.alloc_tree.proofs.solo_tree.SoloTree.close.Goals as goal

pub returns-in_default : goal.returns-in_default
returns-in_default c =
    let shut = open_is c.self.inside c.args.at.0 None c.self.view_is (sym c.get_open.ensures ∙ c.in_default.is) in
    let is = unchanged_told c.args.self.now (close-closed c.args.self.now.state c.args.at shut) in
    record { answer = is.told; after = is.after; uncounted = search rules }

-- the allocator is open, and this is its row
pub returns-then-row-gt0 : goal.returns-then-row-gt0
returns-then-row-gt0 c =
    let row = c.in-Some.row in
    let read = sym c.get_open.ensures ∙ c.in-Some.is in
    let open_ = open_is c.self.inside c.args.at.0 (Some row) c.self.view_is read in
    let uses = uses_are c.self.invariant.sound c.args.at.0 row c.self.view_is read in
    let is = unchanged_told c.args.self.now (close-used c.args.self.now.state c.args.at row.uses uses open_ c.if-row-gt0.true) in
    record { answer = is.told; after = is.after; uncounted = search rules }

pub release-requires : goal.release-requires
release-requires c =
    let shut = shut_read c.self.invariant.sound c.args.at c.get_open.ensures c.in-Some.is c.if-row-gt0.false c.put.ensures in
    let up = c.in-Some-parent.is in
    record {
      tree = shut.lawful.tree;
      «open» = shut.parent_open c.in-Some-parent.parent up;
      covered = (charges_of c.self.inside.chunks, gives_back shut (Some c.in-Some-parent.parent) up);
    }

pub drop_use-requires : goal.drop_use-requires
drop_use-requires c =
    let shut = shut_read c.self.invariant.sound c.args.at c.get_open.ensures c.in-Some.is c.if-row-gt0.false c.put.ensures in
    let p = c.in-Some-parent.parent in
    let kept = c.release.ensures.kept in
    record {
      made = made_in c.release.new.self p.0
          (stays_open c.put.new.self c.release.new.self p.0 kept (shut.parent_open p c.in-Some-parent.is));
      some = omega (arith, ap (λ (uses : ℕ → ℕ). uses p.0) (kept.uses ∙ shut.uses), parent_counts shut p c.in-Some-parent.is);
    }

child : (c : goal.After-drop_use)
    → IsDone c.args.self.now (close_result c.args.self.now.state c.args.at) (record c.self.inside { rows = c.drop_use.new.self }) (Ok tt)
child c =
    let shut = shut_read c.self.invariant.sound c.args.at c.get_open.ensures c.in-Some.is c.if-row-gt0.false c.put.ensures in
    let balance = c.release.ensures.released (charges_of c.self.inside.chunks)
    (gives_back shut (Some c.in-Some-parent.parent) c.in-Some-parent.is) in
    seen (λ s. close_result s c.args.at) c.self.view_is
    (closed_at_parent shut c.release.new.self c.drop_use.new.self c.in-Some-parent.parent c.in-Some-parent.is c.release.ensures.kept
    c.release.ensures.peaks balance c.drop_use.ensures.uses)

pub invariant_of-self : goal.invariant_of-self
invariant_of-self c = close_uncounted c.self.invariant c.self.view_is c.args.at (child c) refl

pub returns-in-Some-parent : goal.returns-in-Some-parent
returns-in-Some-parent c = record { answer = (child c).told; after = (child c).after; uncounted = search rules }

root : (c : goal.In_default-parent)
    → IsDone c.args.self.now (close_result c.args.self.now.state c.args.at) (record c.self.inside { rows = c.put.new.self }) (Ok tt)
root c =
    let shut = shut_read c.self.invariant.sound c.args.at c.get_open.ensures c.in-Some.is c.if-row-gt0.false c.put.ensures in
    seen (λ s. close_result s c.args.at) c.self.view_is (closed_root shut c.in_default-parent.is)

pub invariant_of-self-in_default-parent : goal.invariant_of-self-in_default-parent
invariant_of-self-in_default-parent c = close_uncounted c.self.invariant c.self.view_is c.args.at (root c) refl

pub returns-in_default-parent : goal.returns-in_default-parent
returns-in_default-parent c = record { answer = (root c).told; after = (root c).after; uncounted = search rules }
