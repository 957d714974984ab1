use Rattle.std.proofs.Common.{sym, ap, ◌∙◌, Ok, not, refl}
use Rattle.mem_model.specs.Chunk.{Chunk, has_ledger, released}
use Rattle.mem_model.specs.Release.{after_release, release_samples, release_result}
use Rattle.mem_model.proofs.LawfulReferenceLemmas.{lawful-after_release}
use Rattle.plain_tree.proofs.SoundLemmas.{answers-unchanged}
use Rattle.mem_model.proofs.CallResultLemmas.{release-nothing, release-given}
use Rattle.plain_tree.proofs.ReferenceLemmas.{few-count, few-released, few-after_release, answers-measured}
use Rattle.mem_model.proofs.ReferenceLemmas.{referrer_open}
use Rattle.plain_tree.proofs.plain_tree.PlainTree.release.Goals as goal

pub returns-in_default-clause-call : goal.returns-in_default-clause-call
returns-in_default-clause-call c =
    let tree = c.args.self.now in
    answers-unchanged (release_result tree.state c.args.of) tree _ (release-nothing tree.state c.args.of (sym c.in_default.ensures.value))

pub released-requires-clause-few : goal.released-requires-clause-few
released-requires-clause-few c = few-count c.in-Some.chunk.now c.args.of.alloc.0 c.in-Some.ensures.referred.few

pub put_chunks-requires-clause-lawful : goal.put_chunks-requires-clause-lawful
put_chunks-requires-clause-lawful c =
    let tree = c.args.self.now in
    let sound = c.in-Some.ensures.sound in
    let chunk = c.in-Some.chunk.now in
    let referred = c.in-Some.ensures.referred in
    rw (c.in_ok-measure_release.ensures.ok, c.in_ok-chunks.ensures, c.in_ok-left.ensures)
    (lawful-after_release tree.state chunk c.args.of.alloc.0 sound.lawful referred.lawful (referrer_open tree.state chunk c.args.of.alloc.0 referred.lawful referred.some))

pub put_chunks-requires-clause-references : goal.put_chunks-requires-clause-references
put_chunks-requires-clause-references c =
    let tree = c.args.self.now in
    let sound = c.in-Some.ensures.sound in
    let chunk = c.in-Some.chunk.now in
    let referred = c.in-Some.ensures.referred in
    rw (c.in_ok-chunks.ensures, c.in_ok-left.ensures)
    (few-after_release (released c.args.of.alloc.0 chunk) tree.state.chunks (few-released tree.state chunk c.args.of.alloc.0 referred.lawful referred.few) sound.references)

pub returns-clause-call : goal.returns-clause-call
returns-clause-call c =
    let tree = c.args.self.now in
    let n = c.args.of.alloc.0 in
    let chunk = c.in-Some.chunk.now in
    let left = released n chunk in
    let state = record tree.state { chunks = after_release left tree.state.chunks } in
    rw (c.has_ledger.ensures, c.in_ok-left.ensures) (answers-measured (release_result tree.state c.args.of) tree c.put_chunks.new.self (Ok (not (has_ledger n left))) state (release_samples tree.state chunk.owner left)
    (release-given tree.state c.args.of chunk c.in-Some.ensures.referred.is)
    (c.put_chunks.ensures ∙ rw (c.in_ok-measure_release.ensures.ok, c.in_ok-chunks.ensures, c.in_ok-left.ensures, ap (λ (x : Chunk). x.owner) c.chunk.view_is) refl))
