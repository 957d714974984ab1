-- A further reference to a chunk is the tree's, and one to the empty buffer leaves the tree as it was.
use Rattle.std.proofs.Common.{◌≡◌, true, false, Ok, arith, refl, sym, subst}
use Rattle.std.proofs.lemmas.Bool.{eq-eqb, ne_eqb}
use Rattle.mem_buf.proofs.CauseLemmas.{transfer-causes}
use Rattle.mem_buf.specs.Answers.{IsTransferAnswer}
use Rattle.mem_buf.specs.MemoryCall.{Transfer}
use Rattle.mem_buf.specs.TokenView.{is_empty}
use Rattle.mem_model.specs.Transfer.{transfer_result}
use Rattle.alloc_tree.specs.SoloMeaning.{SoloMeans}
use Rattle.alloc_tree.specs.SoloView.{solo_view}
use Rattle.alloc_tree.proofs.SoloCallLemmas.{makes-transfer, turns-share}
use Rattle.alloc_tree.proofs.SoloShareLemmas.{IsShareCall, further-empty, nodes-transfer, answer-transfer, means-transfer}
use Rattle.alloc_tree.proofs.SoloShareLemmas.{means-transfer_empty}
use Rattle.alloc_tree.proofs.solo.SoloMemory.transfer.Goals as goal

pub returns-then-of-eq0-clause-makes : goal.returns-then-of-eq0-clause-makes
returns-then-of-eq0-clause-makes c =
    let tree = c.args.token.now in
    let of = c.args.of.now in
    let target = c.args.target in
    let empty : is_empty of ≡ true = eq-eqb _ 0 c.if-of-eq0.true in
    makes-transfer of target (Ok (c.empty_buffer.result, true)) tree tree
    (subst (λ given. IsTransferAnswer (solo_view tree) of target (Ok (given, true))) (sym c.empty_buffer.ensures.value)
    (further-empty of target, λ _. refl))
    (subst (λ given. SoloMeans (Transfer of target (Ok (given, true))) tree tree) (sym c.empty_buffer.ensures.value)
    (means-transfer_empty of target tree c.every_tree_is_lawful.ensures empty)) refl (omega arith)

pub returns : goal.returns
returns c =
    let tree = c.args.token.now in
    let new = c.transfer.new.self in
    let of = c.args.of.now in
    let target = c.args.target in
    let filled : is_empty of ≡ false = ne_eqb _ 0 c.if-of-eq0.false in
    let share : IsShareCall c.transfer.result (transfer_result tree.state of target) tree new =
    record { told = c.transfer.ensures.answer; after = c.transfer.ensures.after; same = c.transfer.ensures.no_memory } in
    let made = makes-transfer of target c.moved.result tree new
    (subst (IsTransferAnswer (solo_view tree) of target) (sym c.moved.ensures.value)
    (answer-transfer of target c.transfer.result tree new c.every_tree_is_lawful.ensures filled share))
    (subst (λ told. SoloMeans (Transfer of target told) tree new) (sym c.moved.ensures.value)
    (means-transfer of target c.transfer.result tree new filled share))
    (nodes-transfer of target c.transfer.result tree new share)
    (turns-share of tree.calls new.calls c.transfer.result filled c.transfer.ensures.counted) in
    let causes = transfer-causes (λ hold. hold) (solo_view tree) of target c.moved.result made.answer in
    record {
      same = refl;
      further = causes.further;
      empty = causes.empty;
      fits = causes.fits;
      closed = causes.closed;
      unpinned = causes.unpinned;
      makes = made;
    }
