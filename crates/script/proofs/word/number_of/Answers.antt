-- Digits are text, and digits that don't parse are no number.
use Rattle.std.proofs.Common.{rules, sym}
use Rattle.script.proofs.WordLemmas.{digits_utf8, number_of-unparsed}
use Rattle.script.proofs.word.number_of.Goals as goal

pub returns-in_default : goal.returns-in_default
returns-in_default c = absurd (c.in_default.ensures.cases.0 (digits_utf8 _ (sym c.if-not-are_digits.ensures)))

pub returns-in_default-parse : goal.returns-in_default-parse
returns-in_default-parse c =
    number_of-unparsed _ c.in_default-parse.field-0 (sym c.if-not-are_digits.ensures) (search rules)
    (rw c.in-Ok.ensures.cases.0 at c.in_default-parse.ensures.value.0)
