use Rattle.alloc_tree.specs.Chunks.{chunk_of}
use Rattle.alloc_tree.proofs.RetainLemmas.{room_is}
use Rattle.alloc_tree.proofs.solo_tree.SoloTree.has_room_for.Goals as goal

pub returns-in-Some : goal.returns-in-Some
returns-in-Some c = room_is c.args.self.now.state c.args.of (chunk_of (c.args.of.chunk, c.in-Some.ledgers.now)) c.total.result c.into.result
    c.in-Some.ensures c.total.ensures.value c.into.ensures
