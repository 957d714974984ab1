use Rattle.std.proofs.Common.{ℕ, ap, arith, true, false, refl, Ok, rules}
use Rattle.mem_model.specs.Chunk.{charges_of}
use Rattle.mem_model.specs.Release.{release_result}
use Rattle.alloc_tree.proofs.CountLemmas.{release_uncounted}
use Rattle.alloc_tree.proofs.DoneLemmas.{IsDone, seen}
use Rattle.alloc_tree.proofs.LowerLemmas.{stays_open}
use Rattle.alloc_tree.proofs.ReleaseLemmas.{read_for_release, refused_done, source_open, source_uses, room_to_move, same_done, gone_done}
use Rattle.alloc_tree.proofs.ReleaseLemmas.{next_open, charge_moves, moved_done, exceeds_by_size, freed_done}
use Rattle.alloc_tree.proofs.StateLemmas.{made_in}
use Rattle.alloc_tree.proofs.solo_tree.SoloTree.release.Goals as goal

-- the reference was given back before
pub returns-in_default : goal.returns-in_default
returns-in_default c =
    let whole = refused_done c.self.invariant.sound c.args.of c.release.new.self c.in_default.ensures.after c.release.ensures.left in
    let is = seen (λ s. release_result s c.args.of) c.self.view_is whole in
    record { answer = is.told; after = is.after; uncounted = search rules }

-- the ledger has references left
same : (c : goal.In-Same)
    → IsDone c.args.self.now (release_result c.args.self.now.state c.args.of) (record c.self.inside { chunks = c.release.new.self })
    (Ok false)
same c =
    let read = read_for_release c.self.invariant.sound c.args.of c.in-Some.ensures.after c.release.ensures.left in
    seen (λ s. release_result s c.args.of) c.self.view_is (same_done read.1 c.in-Same.is)

pub invariant_of-self-in-Same : goal.invariant_of-self-in-Same
invariant_of-self-in-Same c = release_uncounted c.self.invariant c.self.view_is c.args.of (same c) refl

pub returns-in-Same : goal.returns-in-Same
returns-in-Same c = record { answer = (same c).told; after = (same c).after; uncounted = search rules }

-- it is gone
pub drop_use-requires : goal.drop_use-requires
drop_use-requires c =
    let read = read_for_release c.self.invariant.sound c.args.of c.in-Some.ensures.after c.release.ensures.left in
    record { made = made_in c.self.inside.rows c.args.of.alloc.0 (source_open read.1); some = source_uses read.1 }

gone : (c : goal.After-drop_use)
    → IsDone c.args.self.now (release_result c.args.self.now.state c.args.of)
    (record c.self.inside { rows = c.drop_use.new.self; chunks = c.release.new.self }) (Ok true)
gone c =
    let read = read_for_release c.self.invariant.sound c.args.of c.in-Some.ensures.after c.release.ensures.left in
    seen (λ s. release_result s c.args.of) c.self.view_is (gone_done read.1 c.drop_use.new.self c.in-Gone.is c.drop_use.ensures.uses)

pub invariant_of-self-in-Gone : goal.invariant_of-self-in-Gone
invariant_of-self-in-Gone c = release_uncounted c.self.invariant c.self.view_is c.args.of (gone c) refl

pub returns-in-Gone : goal.returns-in-Gone
returns-in-Gone c = record { answer = (gone c).told; after = (gone c).after; uncounted = search rules }

-- it is gone, and the charge moves
pub move_charge-requires : goal.move_charge-requires
move_charge-requires c =
    let read = read_for_release c.self.invariant.sound c.args.of c.in-Some.ensures.after c.release.ensures.left in
    record {
      tree = c.self.invariant.sound.lawful.tree;
      from = source_open read.1;
      to = next_open read.1 c.in-Moved.next c.in-Moved.is;
      fits = room_to_move read.1 (omega arith);
      covered = (
        charges_of c.self.inside.chunks,
        charges_of c.release.new.self,
        c.self.invariant.sound.numbers.held,
        charge_moves read.1 c.in-Moved.next c.in-Moved.is,
      );
    }

pub drop_use-requires-in-Moved : goal.drop_use-requires-in-Moved
drop_use-requires-in-Moved c =
    let read = read_for_release c.self.invariant.sound c.args.of c.in-Some.ensures.after c.release.ensures.left in
    let n = c.args.of.alloc.0 in
    let kept = c.move_charge.ensures.kept in
    record {
      made = made_in c.move_charge.new.self n (stays_open c.self.inside.rows c.move_charge.new.self n kept (source_open read.1));
      some = omega (arith, ap (λ (uses : ℕ → ℕ). uses n) kept.uses, source_uses read.1);
    }

moved : (c : goal.After-drop_use-in-Moved)
    → IsDone c.args.self.now (release_result c.args.self.now.state c.args.of) (record c.self.inside {
      rows = c.drop_use-in-Moved.new.self;
      chunks = c.release.new.self;
    }) (Ok true)
moved c =
    let read = read_for_release c.self.invariant.sound c.args.of c.in-Some.ensures.after c.release.ensures.left in
    let moves = c.move_charge.ensures.moved (charges_of c.self.inside.chunks) (charges_of c.release.new.self)
    c.self.invariant.sound.numbers.held
    (charge_moves read.1 c.in-Moved.next c.in-Moved.is) in
    seen (λ s. release_result s c.args.of) c.self.view_is
    (moved_done read.1 c.move_charge.new.self c.drop_use-in-Moved.new.self c.in-Moved.next c.move_charge.result c.in-Moved.is
    c.move_charge.ensures.kept moves c.drop_use-in-Moved.ensures.uses)

pub invariant_of-self-in-Moved : goal.invariant_of-self-in-Moved
invariant_of-self-in-Moved c = release_uncounted c.self.invariant c.self.view_is c.args.of (moved c) refl

pub returns-in-Moved : goal.returns-in-Moved
returns-in-Moved c = record { answer = (moved c).told; after = (moved c).after; uncounted = search rules }

-- it was the last one
pub release-requires-in-Freed : goal.release-requires-in-Freed
release-requires-in-Freed c =
    let read = read_for_release c.self.invariant.sound c.args.of c.in-Some.ensures.after c.release.ensures.left in
    record {
      tree = c.self.invariant.sound.lawful.tree;
      «open» = source_open read.1;
      covered = (charges_of c.release.new.self, exceeds_by_size read.1 c.in-Freed.is);
    }

pub drop_use-requires-in-Freed : goal.drop_use-requires-in-Freed
drop_use-requires-in-Freed c =
    let read = read_for_release c.self.invariant.sound c.args.of c.in-Some.ensures.after c.release.ensures.left in
    let n = c.args.of.alloc.0 in
    let kept = c.release-in-Freed.ensures.kept in
    record {
      made = made_in c.release-in-Freed.new.self n (stays_open c.self.inside.rows c.release-in-Freed.new.self n kept (source_open read.1));
      some = omega (arith, ap (λ (uses : ℕ → ℕ). uses n) kept.uses, source_uses read.1);
    }

freed : (c : goal.After-drop_use-in-Freed)
    → IsDone c.args.self.now (release_result c.args.self.now.state c.args.of) (record c.self.inside {
      rows = c.drop_use-in-Freed.new.self;
      chunks = c.release.new.self;
    }) (Ok true)
freed c =
    let read = read_for_release c.self.invariant.sound c.args.of c.in-Some.ensures.after c.release.ensures.left in
    let balance = c.release-in-Freed.ensures.released (charges_of c.release.new.self) (exceeds_by_size read.1 c.in-Freed.is) in
    let lower = c.release-in-Freed in
    seen (λ s. release_result s c.args.of) c.self.view_is
    (freed_done read.1 lower.new.self c.drop_use-in-Freed.new.self c.in-Freed.is lower.ensures.kept lower.ensures.peaks balance
    c.drop_use-in-Freed.ensures.uses)

pub invariant_of-self-in-Freed : goal.invariant_of-self-in-Freed
invariant_of-self-in-Freed c = release_uncounted c.self.invariant c.self.view_is c.args.of (freed c) refl

pub returns-in-Freed : goal.returns-in-Freed
returns-in-Freed c = record { answer = (freed c).told; after = (freed c).after; uncounted = search rules }
