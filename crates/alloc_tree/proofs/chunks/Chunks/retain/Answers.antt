use Rattle.std.proofs.Common.{◌∙◌, ap, sym, refl, map, List, rules}
use Rattle.mem_model.specs.Chunk.{Chunk, retained, chunk_at}
use Rattle.ledger_map.specs.LedgerState.{IsUnchanged}
use Rattle.alloc_tree.specs.Chunks.{chunk_of, with_changed}
use Rattle.alloc_tree.proofs.ChunkLemmas.{found_at, none_changed, set_changed, set_same, set_in_order}
use Rattle.alloc_tree.proofs.ReferenceLemmas.{err_holds, unchanged_is_same, added_is_retained}
use Rattle.alloc_tree.proofs.chunks.Chunks.retain.Goals as goal

pub returns-in_default-clause-retained : goal.returns-in_default-clause-retained
returns-in_default-clause-retained c =
    ap (λ m. map chunk_of m.entries) c.get_mut.follows.holds-at-none
    ∙ none_changed _ c.args.number (sym c.in_default.ensures.value) (retained c.args.at.0)
    ∙ ap (with_changed (retained c.args.at.0) c.args.number) c.self.view_is

-- the allocator has a ledger
pub retain-requires : goal.retain-requires
retain-requires c =
    let chunk = chunk_of (c.args.number, c.in-Some.ledgers.now) in
    let found = ap (λ (chunks : List Chunk). chunk_at chunks c.args.number) (sym c.self.view_is)
    ∙ found_at _ c.args.number (sym c.in-Some.ensures.value) in
    record { live = c.requires.live chunk found; few_references = c.requires.room chunk found; room = search rules }

pub invariant_of-self-then-count-gt0 : goal.invariant_of-self-then-count-gt0
invariant_of-self-then-count-gt0 c = set_in_order _ c.args.number c.retain.new.self c.self.invariant
    (c.get_mut.follows.holds c.retain.new.self).0

pub returns-then-count-gt0-clause-retained : goal.returns-then-count-gt0-clause-retained
returns-then-count-gt0-clause-retained c =
    let same : IsUnchanged c.in-Some.ledgers.now c.in-Some.ledgers.now = record { size = refl; owner = refl; ledgers = refl } in
    set_changed _ c.args.number (sym c.in-Some.ensures.value) (retained c.args.at.0) c.retain.new.self c.self.invariant
    (c.get_mut.follows.holds c.retain.new.self).0
    (added_is_retained c.args.number c.args.at.0 same c.retain.ensures.added)
    ∙ ap (with_changed (retained c.args.at.0) c.args.number) c.self.view_is

-- it has none, and room is made for one
pub invariant_of-self-in_err-room : goal.invariant_of-self-in_err-room
invariant_of-self-in_err-room c = set_in_order _ c.args.number c.room.new.self c.self.invariant (c.get_mut.follows.holds c.room.new.self).0

pub returns-in_err-room-clause-err : goal.returns-in_err-room-clause-err
returns-in_err-room-clause-err c =
    err_holds c.from_residual.result (set_same _ c.args.number (sym c.in-Some.ensures.value) c.room.new.self c.self.invariant
    (c.get_mut.follows.holds c.room.new.self).0
    (unchanged_is_same c.args.number c.room.ensures.unchanged) ∙ c.self.view_is)

pub retain-requires-2 : goal.retain-requires-2
retain-requires-2 c =
    let chunk = chunk_of (c.args.number, c.in-Some.ledgers.now) in
    let found = ap (λ (chunks : List Chunk). chunk_at chunks c.args.number) (sym c.self.view_is)
    ∙ found_at _ c.args.number (sym c.in-Some.ensures.value) in
    rw c.room.ensures.unchanged.ledgers (record {
      live = c.requires.live chunk found;
      few_references = c.requires.room chunk found;
      room = search rules;
    })

pub invariant_of-self-2 : goal.invariant_of-self-2
invariant_of-self-2 c = set_in_order _ c.args.number c.retain-2.new.self c.self.invariant (c.get_mut.follows.holds c.retain-2.new.self).0

pub returns-clause-retained : goal.returns-clause-retained
returns-clause-retained c =
    set_changed _ c.args.number (sym c.in-Some.ensures.value) (retained c.args.at.0) c.retain-2.new.self c.self.invariant
    (c.get_mut.follows.holds c.retain-2.new.self).0
    (added_is_retained c.args.number c.args.at.0 c.room.ensures.unchanged c.retain-2.ensures.added)
    ∙ ap (with_changed (retained c.args.at.0) c.args.number) c.self.view_is
