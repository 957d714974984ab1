use Rattle.std.proofs.Common.{refl, arith, rules}
use Rattle.mem_model.specs.Chunk.{charges_of}
use Rattle.alloc_tree.specs.Chunks.{chunk_of}
use Rattle.alloc_tree.specs.TakeOver.{take_over_result}
use Rattle.alloc_tree.proofs.CountLemmas.{take_over_uncounted}
use Rattle.alloc_tree.proofs.DoneLemmas.{IsDone, seen}
use Rattle.alloc_tree.proofs.TakeOverLemmas.{read_for_move, chunks_moved, source_open, target_open, room_to_move, charge_moves}
use Rattle.alloc_tree.proofs.TakeOverLemmas.{taken_over_done}
use Rattle.alloc_tree.proofs.solo_tree.SoloTree.take_over.Goals as goal

pub move_charge-fits-requires : goal.move_charge-fits-requires
move_charge-fits-requires c =
    let read = read_for_move c.args.of c.args.target c.in-Some.ledgers.now c.owner.result c.self.invariant.sound c.self.view_is
    c.requires.refers
    c.in-Some.ensures.chunk c.owner.ensures c.if-ne.ensures c.if-eq.ensures c.size-size.ensures in
    let chunks = c.self.inside.chunks in
    record {
      tree = c.self.invariant.sound.lawful.tree;
      from = source_open read;
      to = target_open read;
      fits = room_to_move read (omega arith);
      covered = (
        charges_of chunks,
        charges_of (chunks_moved chunks (chunk_of (c.args.of.chunk, c.in-Some.ledgers.now)) c.args.target),
        c.self.invariant.sound.numbers.held,
        charge_moves read,
      );
    }

whole : (c : goal.After-make_owner)
    → IsDone c.args.self.now (take_over_result c.args.self.now.state c.args.of c.args.target)
    (record c.self.inside { rows = c.move_charge-fits.new.self; chunks = c.make_owner.new.self }) c.move_charge-fits.result
whole c =
    let read = read_for_move c.args.of c.args.target c.in-Some.ledgers.now c.owner.result c.self.invariant.sound c.self.view_is
    c.requires.refers
    c.in-Some.ensures.chunk c.owner.ensures c.if-ne.ensures c.if-eq.ensures c.size-size.ensures in
    let left = charges_of (chunks_moved c.self.inside.chunks (chunk_of (c.args.of.chunk, c.in-Some.ledgers.now)) c.args.target) in
    let moves = c.move_charge-fits.ensures.moved (charges_of c.self.inside.chunks) left c.self.invariant.sound.numbers.held
    (charge_moves read) in
    seen (λ s. take_over_result s c.args.of c.args.target) c.self.view_is
    (taken_over_done read c.move_charge-fits.new.self c.make_owner.new.self c.move_charge-fits.result c.move_charge-fits.ensures.kept moves
    c.make_owner.ensures)

pub invariant_of-self : goal.invariant_of-self
invariant_of-self c = take_over_uncounted c.self.invariant c.self.view_is c.args.of c.args.target (whole c) refl

pub returns : goal.returns
returns c = record { answer = (whole c).told; after = (whole c).after; uncounted = search rules }
