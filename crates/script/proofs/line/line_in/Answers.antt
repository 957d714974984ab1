-- No words, three or more than five say nothing.
use Rattle.std.proofs.Common.{◌∙◌, refl}
use Rattle.script.proofs.LineLemmas.{line_of-none, line_of-three, line_of-six}
use Rattle.script.proofs.line.line_in.Goals as goal

pub returns-in_err-word : goal.returns-in_err-word
returns-in_err-word c = c.from_residual.ensures ∙ line_of-none _ (c.in_err-word.ensures.none refl)

pub returns-in_err-third : goal.returns-in_err-third
returns-in_err-third c =
    c.from_residual-in_err-third.ensures
    ∙ line_of-three _ _ _ _ _ _ _ c.in_ok-word.ensures.some c.in-Some.ensures.some c.in-Some-first_word.ensures.some
    (c.in_err-third.ensures.none refl)

pub returns-in-Some-first_word-3 : goal.returns-in-Some-first_word-3
returns-in-Some-first_word-3 c =
    line_of-six _ _ _ _ _ _ _ _ _ _ _ _ _ c.in_ok-word.ensures.some c.in-Some.ensures.some c.in-Some-first_word.ensures.some
    c.in_ok-third.ensures.some c.in-Some-first_word-2.ensures.some c.in-Some-first_word-3.ensures.some
