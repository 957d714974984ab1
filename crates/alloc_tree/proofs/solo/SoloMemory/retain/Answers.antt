-- A further reference to a chunk is the tree's, and one to the empty buffer leaves the tree as it was.
use Rattle.std.proofs.Common.{◌≡◌, true, false, Ok, arith, refl, sym, subst}
use Rattle.std.proofs.lemmas.Bool.{eq-eqb, ne_eqb}
use Rattle.mem_buf.proofs.CauseLemmas.{retain-causes}
use Rattle.mem_buf.specs.Answers.{IsRetainAnswer}
use Rattle.mem_buf.specs.MemoryCall.{Retain}
use Rattle.mem_buf.specs.TokenView.{is_empty}
use Rattle.mem_model.specs.Retain.{retain_result}
use Rattle.alloc_tree.specs.SoloMeaning.{SoloMeans}
use Rattle.alloc_tree.specs.SoloView.{solo_view}
use Rattle.alloc_tree.proofs.SoloCallLemmas.{makes-retain, turns-share}
use Rattle.alloc_tree.proofs.SoloShareLemmas.{IsShareCall, further-empty, nodes-retain, answer-retain, means-retain, means-retain_empty}
use Rattle.alloc_tree.proofs.solo.SoloMemory.retain.Goals as goal

pub returns-then-of-eq0-clause-makes : goal.returns-then-of-eq0-clause-makes
returns-then-of-eq0-clause-makes c =
    let tree = c.args.token.now in
    let of = c.args.of.now in
    let target = c.args.target in
    let empty : is_empty of ≡ true = eq-eqb _ 0 c.if-of-eq0.true in
    makes-retain of target (Ok c.empty_buffer.result) tree tree
    (subst (λ given. IsRetainAnswer (solo_view tree) of target (Ok given)) (sym c.empty_buffer.ensures.value) (further-empty of target))
    (subst (λ given. SoloMeans (Retain of target (Ok given)) tree tree) (sym c.empty_buffer.ensures.value)
    (means-retain_empty of target tree c.every_tree_is_lawful.ensures empty)) refl (omega arith)

pub returns : goal.returns
returns c =
    let tree = c.args.token.now in
    let new = c.retain.new.self in
    let of = c.args.of.now in
    let target = c.args.target in
    let filled : is_empty of ≡ false = ne_eqb _ 0 c.if-of-eq0.false in
    let share : IsShareCall c.retain.result (retain_result tree.state of target) tree new =
    record { told = c.retain.ensures.answer; after = c.retain.ensures.after; same = c.retain.ensures.no_memory } in
    let made = makes-retain of target c.further.result tree new
    (subst (IsRetainAnswer (solo_view tree) of target) (sym c.further.ensures.value)
    (answer-retain of target c.retain.result tree new c.every_tree_is_lawful.ensures filled share))
    (subst (λ told. SoloMeans (Retain of target told) tree new) (sym c.further.ensures.value)
    (means-retain of target c.retain.result tree new filled share))
    (nodes-retain of target c.retain.result tree new share) (turns-share of tree.calls new.calls c.retain.result filled
    c.retain.ensures.counted) in
    let causes = retain-causes (λ hold. hold) (solo_view tree) of target c.further.result made.answer in
    record {
      same = refl;
      further = causes.further;
      empty = causes.empty;
      closed = causes.closed;
      unpinned = causes.unpinned;
      makes = made;
    }
