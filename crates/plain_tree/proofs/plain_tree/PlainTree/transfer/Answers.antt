use Rattle.std.proofs.Common.{◌≡◌, ℕ, sym, ap, ◌∙◌, refl, Ok, true, [], ◌∷◌}
use Rattle.mem_model.specs.Chunk.{Chunk, retained, with_chunk}
use Rattle.mem_model.specs.declared.charge.Charge.{Charge}
use Rattle.mem_model.specs.Force.{force_sample, is_within_limits}
use Rattle.mem_model.specs.References.{reference_to}
use Rattle.mem_model.specs.Transfer.{transfer_result}
use Rattle.mem_model.proofs.LawfulReferenceLemmas.{lawful-with_chunk, lawful-retained, lawful-moved}
use Rattle.plain_tree.proofs.SoundLemmas.{answers-unchanged, answers-quiet}
use Rattle.plain_tree.proofs.ReferenceLemmas.{room-total, room-count, few-retained, few-with_chunk, answers-measured}
use Rattle.mem_model.proofs.CallResultLemmas.{transfer-nothing, transfer-closed, transfer-kept, transfer-moved}
use Rattle.plain_tree.proofs.plain_tree.PlainTree.transfer.Goals as goal

pub returns-in_default-clause-call : goal.returns-in_default-clause-call
returns-in_default-clause-call c =
    let tree = c.args.self.now in
    answers-unchanged (transfer_result tree.state c.args.of c.args.target) tree _ (transfer-nothing tree.state c.args.of c.args.target (sym c.in_default.ensures.value))

pub returns-then-not-is_open-clause-call : goal.returns-then-not-is_open-clause-call
returns-then-not-is_open-clause-call c =
    let tree = c.args.self.now in
    answers-unchanged (transfer_result tree.state c.args.of c.args.target) tree _
    (transfer-closed tree.state c.args.of c.args.target c.in-Some.chunk.now c.in-Some.ensures.referred.is (sym c.is_open.ensures ∙ c.if-not-is_open.true))

pub retained-requires : goal.retained-requires
retained-requires c =
    let tree = c.args.self.now in
    let sound = c.in-Some.ensures.sound in
    let chunk = c.in-Some.chunk.now in
    room-count chunk c.args.target.0 (room-total tree.state c.args.of chunk sound.lawful c.requires.room c.in-Some.ensures.referred.is)

pub put_chunks-requires-clause-lawful : goal.put_chunks-requires-clause-lawful
put_chunks-requires-clause-lawful c =
    let tree = c.args.self.now in
    let sound = c.in-Some.ensures.sound in
    let chunk = c.in-Some.chunk.now in
    rw (c.in_ok-chunks.ensures, c.in_ok-retained.ensures)
    (lawful-with_chunk tree.state (retained c.args.target.0 chunk) sound.lawful (lawful-retained tree.state chunk c.args.target.0 c.in-Some.ensures.referred.lawful (sym c.is_open.ensures ∙ c.if-not-is_open.false)))

pub put_chunks-requires-clause-references : goal.put_chunks-requires-clause-references
put_chunks-requires-clause-references c =
    let tree = c.args.self.now in
    let sound = c.in-Some.ensures.sound in
    let chunk = c.in-Some.chunk.now in
    let referred = c.in-Some.ensures.referred in
    rw (c.in_ok-chunks.ensures, c.in_ok-retained.ensures)
    (few-with_chunk (retained c.args.target.0 chunk) tree.state.chunks (few-retained tree.state chunk c.args.target.0 referred.lawful (room-total tree.state c.args.of chunk sound.lawful c.requires.room referred.is)) sound.references)

pub returns-then-not-moves_charge-clause-call : goal.returns-then-not-moves_charge-clause-call
returns-then-not-moves_charge-clause-call c =
    let tree = c.args.self.now in
    let chunk = c.in-Some.chunk.now in
    let target = c.args.target in
    rw (c.reference_to-reference.ensures, c.in_ok-retained.ensures) (answers-quiet (transfer_result tree.state c.args.of target) tree c.put_chunks.new.self (Ok (reference_to chunk target, true)) (record tree.state { chunks = with_chunk (retained target.0 chunk) tree.state.chunks })
    (transfer-kept tree.state c.args.of target chunk c.in-Some.ensures.referred.is (sym c.is_open.ensures ∙ c.if-not-is_open.false) (sym c.moves_charge.ensures ∙ c.if-not-moves_charge.true))
    (c.put_chunks.ensures ∙ ap (λ chunks. record tree { state = record tree.state { chunks = chunks } }) (c.in_ok-chunks.ensures ∙ ap (λ new. with_chunk new tree.state.chunks) c.in_ok-retained.ensures)))

pub put_chunks-requires-2-clause-lawful : goal.put_chunks-requires-2-clause-lawful
put_chunks-requires-2-clause-lawful c =
    let tree = c.args.self.now in
    let sound = c.in-Some.ensures.sound in
    let chunk = c.in-Some.chunk.now in
    let target = c.args.target in
    let made = c.in_ok-chunks-2.ensures ∙ ap (λ (new : Chunk). with_chunk (record new { owner = target }) tree.state.chunks) (c.retained-2.view_is ∙ c.in_ok-retained.ensures) in
    rw (c.in_ok-measure_force.ensures.ok, made)
    (lawful-with_chunk tree.state (record (retained target.0 chunk) { owner = target }) sound.lawful (lawful-moved tree.state chunk target c.in-Some.ensures.referred.lawful (sym c.is_open.ensures ∙ c.if-not-is_open.false)))

pub put_chunks-requires-2-clause-references : goal.put_chunks-requires-2-clause-references
put_chunks-requires-2-clause-references c =
    let tree = c.args.self.now in
    let sound = c.in-Some.ensures.sound in
    let chunk = c.in-Some.chunk.now in
    let target = c.args.target in
    let referred = c.in-Some.ensures.referred in
    let made = c.in_ok-chunks-2.ensures ∙ ap (λ (new : Chunk). with_chunk (record new { owner = target }) tree.state.chunks) (c.retained-2.view_is ∙ c.in_ok-retained.ensures) in
    rw made
    (few-with_chunk (record (retained target.0 chunk) { owner = target }) tree.state.chunks (few-retained tree.state chunk target.0 referred.lawful (room-total tree.state c.args.of chunk sound.lawful c.requires.room referred.is)) sound.references)

pub returns-clause-call : goal.returns-clause-call
returns-clause-call c =
    let tree = c.args.self.now in
    let chunk = c.in-Some.chunk.now in
    let target = c.args.target in
    let size : c.retained-2.inside.size ≡ chunk.size = ap (λ (x : Chunk). x.size) (c.retained-2.view_is ∙ c.in_ok-retained.ensures) in
    let force : Charge = record { at = target; amount = chunk.size } in
    let made = c.in_ok-chunks-2.ensures ∙ ap (λ (new : Chunk). with_chunk (record new { owner = target }) tree.state.chunks) (c.retained-2.view_is ∙ c.in_ok-retained.ensures) in
    let state = record tree.state { chunks = with_chunk (record (retained target.0 chunk) { owner = target }) tree.state.chunks } in
    let fits = c.in_ok-fits.ensures ∙ ap (λ (n : ℕ). is_within_limits tree.state (record { at = target; amount = n })) size in
    rw (fits, c.reference_to-reference.ensures, c.in_ok-retained.ensures)
    (answers-measured (transfer_result tree.state c.args.of target) tree c.put_chunks-2.new.self (Ok (reference_to chunk target, is_within_limits tree.state force)) state (force_sample tree.state force ∷ [])
    (transfer-moved tree.state c.args.of target chunk c.in-Some.ensures.referred.is (sym c.is_open.ensures ∙ c.if-not-is_open.false) (sym c.moves_charge.ensures ∙ c.if-not-moves_charge.false))
    (c.put_chunks-2.ensures ∙ rw (c.in_ok-measure_force.ensures.ok, made, size) refl))
