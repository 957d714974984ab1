-- The release of a reference is the tree's, and that of the empty buffer leaves the tree as it was.
use Rattle.std.proofs.Common.{◌≡◌, true, false, refl, sym, ◌∙◌, ap, subst}
use Rattle.std.proofs.lemmas.Bool.{eq-eqb, ne_eqb}
use Rattle.mem_buf.specs.MemoryCall.{Release}
use Rattle.mem_buf.specs.TokenView.{is_empty}
use Rattle.mem_model.specs.TreeState.{TreeState}
use Rattle.alloc_tree.specs.SoloMeaning.{SoloMeans}
use Rattle.alloc_tree.proofs.SoloCallLemmas.{makes-release}
use Rattle.alloc_tree.proofs.SoloShareLemmas.{nodes-release, means-release, means-release_empty}
use Rattle.alloc_tree.proofs.solo.SoloMemory.release.Goals as goal

pub returns-then-of-eq0-clause-makes : goal.returns-then-of-eq0-clause-makes
returns-then-of-eq0-clause-makes c =
    let tree = c.args.token.now in
    let empty : is_empty c.args.of ≡ true = eq-eqb _ 0 c.if-of-eq0.true in
    makes-release c.args.of false tree tree (λ _. refl) (means-release_empty c.args.of tree c.every_tree_is_lawful.ensures empty) refl refl

pub returns : goal.returns
returns c =
    let tree = c.args.token.now in
    let new = c.release.new.self in
    let of = c.args.of in
    let filled : is_empty of ≡ false = ne_eqb _ 0 c.if-of-eq0.false in
    record {
      empty = λ e. absurd cc;
      makes = makes-release of c.gone.result tree new (λ e. absurd cc)
          (subst (λ told. SoloMeans (Release of told) tree new) (sym c.gone.ensures.value)
          (means-release of c.release.result tree new filled c.release.ensures.answer c.release.ensures.after))
          (ap (λ (state : TreeState). state.nodes) c.release.ensures.after.state ∙ nodes-release of tree.state) c.release.ensures.uncounted;
    }
