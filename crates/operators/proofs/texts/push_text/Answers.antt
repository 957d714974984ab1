-- One text more.
use Rattle.std.proofs.Common.{◌∙◌, ap, length, ◌+◌, ◌++◌, ◌∷◌, []}
use Rattle.operators.proofs.TextLemmas.{pushed-text}
use Rattle.operators.proofs.texts.push_text.Goals as goal

pub returns-clause-stored : goal.returns-clause-stored
returns-clause-stored c =
    (pushed-text c.args.bytes.now.items _ c.args.ends.now.items _ c.args.text.now _ c.requires.texts c.requires.utf8
    (ap (λ list. length list + length c.args.text.now) c.as_slice-start.ensures.value) c.in_ok-extend_from_slice.ensures.items
    (c.push_reserved.ensures.items
    ∙ ap (λ list. list ++ (length c.as_slice-start.result.now + length c.args.text.now) ∷ []) c.in_ok-reserve.ensures.items)).0

pub returns-clause-value : goal.returns-clause-value
returns-clause-value c =
    (pushed-text c.args.bytes.now.items _ c.args.ends.now.items _ c.args.text.now _ c.requires.texts c.requires.utf8
    (ap (λ list. length list + length c.args.text.now) c.as_slice-start.ensures.value) c.in_ok-extend_from_slice.ensures.items
    (c.push_reserved.ensures.items
    ∙ ap (λ list. list ++ (length c.as_slice-start.result.now + length c.args.text.now) ∷ []) c.in_ok-reserve.ensures.items)).1
