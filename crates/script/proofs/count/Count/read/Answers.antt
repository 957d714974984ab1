-- A line of text that isn't skipped says a line that may follow, or ends the reading.
use Rattle.std.proofs.Common.{sym, ◌∙◌, refl}
use Rattle.script.proofs.BoundLemmas.{line_bounds}
use Rattle.script.proofs.ReadingLemmas.{GoesOn-push}
use Rattle.script.proofs.SaysLemmas.{EndsHere-unread, EndsHere-out_of_place}
use Rattle.script.proofs.count.Count.read.Goals as goal

pub returns-in_default-clause-read : goal.returns-in_default-clause-read
returns-in_default-clause-read c = λ said counted.
    EndsHere-unread _ _ said (sym c.if-is_skipped.ensures) (sym c.line_in.ensures ∙ c.in_default.is)

pub returns-in_default-with-clause-read : goal.returns-in_default-with-clause-read
returns-in_default-with-clause-read c = λ said counted.
    EndsHere-out_of_place _ _ said c.in-Some.line (sym c.if-is_skipped.ensures) (sym c.line_in.ensures ∙ c.in-Some.is)
    (c.with.ensures.none c.in_default-with.is said counted)

pub returns-clause-read : goal.returns-clause-read
returns-clause-read c = λ said counted.
    let more = c.in-Some-with.ensures.some said counted in
    let is = sym c.line_in.ensures ∙ c.in-Some.is in
    (GoesOn-push _ _ said _ c.in-Some.line (sym c.if-is_skipped.ensures) is refl more.may, more)

pub returns-clause-bounds : goal.returns-clause-bounds
returns-clause-bounds c = line_bounds _ c.in-Some.line (sym c.line_in.ensures ∙ c.in-Some.is)
