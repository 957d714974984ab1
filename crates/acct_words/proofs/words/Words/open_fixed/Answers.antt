use Rattle.std.proofs.Common.{sym, subst}
use Rattle.acct_words.specs.Openings.{AreOpeningWords, IsFixedTree}
use Rattle.acct_words.proofs.OpeningLemmas.{opening_sound}
use Rattle.acct_words.proofs.words.Words.open_fixed.Goals as goal

pub of_words-requires : goal.of_words-requires
of_words-requires c =
    let copied = c.in-Ok.ensures.items_if_clones_equal (λ x y e. e) in
    opening_sound (record { nodes = c.in-Ok.nodes; budget = c.args.budget }) c.as_slice.result.now
    (subst IsFixedTree (sym copied) c.requires.tree) c.requires.budget
    (subst (λ (w : _). AreOpeningWords c.in-Ok.nodes.items w) (sym c.as_slice.ensures.value)
    (subst (λ (l : _). AreOpeningWords l c.in_ok-words.words.items) (sym copied) c.in_ok-words.ensures))
