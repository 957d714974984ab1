-- A line that can't stand there is the first unreadable one.
use Rattle.std.proofs.Common.{◌≡◌, ◌++◌, ◌∷◌, ◌∙◌, ap, subst, Ok}
use Rattle.std.specs.Str.Lines.{lines}
use Rattle.script.specs.Grammar.{IsFirstUnreadable}
use Rattle.script.proofs.ReadingLemmas.{ends_first}
use Rattle.script.proofs.read.read_script.Goals as goal

pub returns-then-not-branch-clause-bad : goal.returns-then-not-branch-clause-bad
returns-then-not-branch-clause-bad c = λ line e.
    let (done, split, numbered, old) = c.loop-rest.invariant.reached in
    let whole : lines c.args.bytes.now ≡ done ++ c.first_line.result.0.now ∷ lines c.first_line.result.1.now =
    split ∙ ap (λ left. done ++ left) c.first_line.ensures.line in
    let ends = c.take.ensures.ends_here (c.in_ok-take.was ∙ ap Ok c.if-not-branch.true) in
    let same : c.loop-rest.line ≡ line = cc in
    subst (IsFirstUnreadable c.args.form (lines c.args.bytes.now)) same
    (ends_first _ _ done _ _ c.loop-rest.reading c.loop-rest.line whole numbered old ends)
