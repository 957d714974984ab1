use Rattle.std.proofs.Common.{sym, ap, ◌∙◌, Ok}
use Rattle.mem_model.specs.Chunk.{retained, with_chunk}
use Rattle.mem_model.specs.References.{reference_to}
use Rattle.mem_model.specs.Retain.{retain_result}
use Rattle.mem_model.proofs.LawfulReferenceLemmas.{lawful-with_chunk, lawful-retained}
use Rattle.plain_tree.proofs.SoundLemmas.{answers-unchanged, answers-quiet}
use Rattle.plain_tree.proofs.ReferenceLemmas.{room-total, room-count, few-retained, few-with_chunk}
use Rattle.mem_model.proofs.CallResultLemmas.{retain-nothing, retain-closed, retain-given}
use Rattle.plain_tree.proofs.plain_tree.PlainTree.retain.Goals as goal

pub returns-in_default-clause-call : goal.returns-in_default-clause-call
returns-in_default-clause-call c =
    let tree = c.args.self.now in
    answers-unchanged (retain_result tree.state c.args.of c.args.target) tree _ (retain-nothing tree.state c.args.of c.args.target (sym c.in_default.ensures.value))

pub returns-then-not-is_open-clause-call : goal.returns-then-not-is_open-clause-call
returns-then-not-is_open-clause-call c =
    let tree = c.args.self.now in
    answers-unchanged (retain_result tree.state c.args.of c.args.target) tree _
    (retain-closed tree.state c.args.of c.args.target c.in-Some.chunk.now c.in-Some.ensures.referred.is (sym c.is_open.ensures ∙ c.if-not-is_open.true))

pub retained-requires : goal.retained-requires
retained-requires c =
    let tree = c.args.self.now in
    let sound = c.in-Some.ensures.sound in
    let chunk = c.in-Some.chunk.now in
    room-count chunk c.args.target.0 (room-total tree.state c.args.of chunk sound.lawful c.requires.room c.in-Some.ensures.referred.is)

pub put_chunks-requires-clause-lawful : goal.put_chunks-requires-clause-lawful
put_chunks-requires-clause-lawful c =
    let tree = c.args.self.now in
    let sound = c.in-Some.ensures.sound in
    let chunk = c.in-Some.chunk.now in
    rw (c.in_ok-chunks.ensures, c.in_ok-retained.ensures)
    (lawful-with_chunk tree.state (retained c.args.target.0 chunk) sound.lawful (lawful-retained tree.state chunk c.args.target.0 c.in-Some.ensures.referred.lawful (sym c.is_open.ensures ∙ c.if-not-is_open.false)))

pub put_chunks-requires-clause-references : goal.put_chunks-requires-clause-references
put_chunks-requires-clause-references c =
    let tree = c.args.self.now in
    let sound = c.in-Some.ensures.sound in
    let chunk = c.in-Some.chunk.now in
    let referred = c.in-Some.ensures.referred in
    rw (c.in_ok-chunks.ensures, c.in_ok-retained.ensures)
    (few-with_chunk (retained c.args.target.0 chunk) tree.state.chunks (few-retained tree.state chunk c.args.target.0 referred.lawful (room-total tree.state c.args.of chunk sound.lawful c.requires.room referred.is)) sound.references)

pub returns-clause-call : goal.returns-clause-call
returns-clause-call c =
    let tree = c.args.self.now in
    let chunk = c.in-Some.chunk.now in
    rw (c.reference_to.ensures, c.in_ok-retained.ensures) (answers-quiet (retain_result tree.state c.args.of c.args.target) tree c.put_chunks.new.self (Ok (reference_to chunk c.args.target)) (record tree.state { chunks = with_chunk (retained c.args.target.0 chunk) tree.state.chunks })
    (retain-given tree.state c.args.of c.args.target chunk c.in-Some.ensures.referred.is (sym c.is_open.ensures ∙ c.if-not-is_open.false))
    (c.put_chunks.ensures ∙ ap (λ chunks. record tree { state = record tree.state { chunks = chunks } }) (c.in_ok-chunks.ensures ∙ ap (λ new. with_chunk new tree.state.chunks) c.in_ok-retained.ensures)))
