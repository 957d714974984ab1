-- No texts.
use Rattle.std.proofs.Common.{[], sym, ◌∙◌, subst}
use Rattle.row_text.specs.Stored.{AreTexts, texts}
use Rattle.row_text.proofs.StoredLemmas.{texts-none}
use Rattle.operators.proofs.TextLemmas.{no-texts}
use Rattle.operators.proofs.texts.Texts.with_capacity.Goals as goal

pub invariant_of-result : goal.invariant_of-result
invariant_of-result c =
    subst (λ bytes. AreTexts bytes c.in_ok-ends.ends.items) (sym c.new.ensures.items)
    (subst (AreTexts []) (sym c.in_ok-ends.ensures.items) texts-none)

pub returns : goal.returns
returns c = record { value = (λ k. texts (c.new.ensures.items k) (c.in_ok-ends.ensures.items k)) ∙ no-texts }
