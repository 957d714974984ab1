-- Each line goes on from those before it, and one that can't stand there is the first unreadable one.
use Rattle.std.proofs.Common.{◌≡◌, ◌++◌, [], ◌∷◌, ◌∙◌, ap, sym, subst, refl, Ok, arith, append_assoc, length-append}
use Rattle.std.proofs.lemmas.Bool.Decides.{nat_tests}
use Rattle.std.proofs.lemmas.List.{nil_from_length}
use Rattle.std.specs.Str.Lines.{lines}
use Rattle.script.specs.Grammar.{IsFirstUnreadable}
use Rattle.script.specs.Running.{printed_by}
use Rattle.script.proofs.ReadingLemmas.{ends_first}
use Rattle.script.proofs.RunLemmas.{whole_is_run}
use Rattle.script.proofs.SaysLemmas.{Says-nothing}
use Rattle.script.proofs.run.run_lines.Goals as goal

pub loop-rest-init : goal.loop-rest-init
loop-rest-init c = record {
  small = omega arith;
  reached = ([], [], refl, refl, Says-nothing _, c.in_ok-running.ensures c.args.out.now.items);
}

pub loop-rest-preserved : goal.loop-rest-preserved
loop-rest-preserved c =
    let (done, said, split, numbered, old, ran) = c.loop-rest.invariant.reached in
    let text = c.first_line.result.0.now in
    let (next, says, more) = c.take.ensures.goes_on (c.in_ok-take.was ∙ ap Ok c.if-not-branch.false) done said c.args.out.now.items old ran in
    record {
      small = omega (arith, c.loop-rest.invariant.small, c.first_line.ensures.shorter);
      reached = (
        done ++ text ∷ [],
        next,
        split ∙ ap (λ left. done ++ left) c.first_line.ensures.line ∙ sym (append_assoc done (text ∷ []) (lines c.first_line.result.1.now)),
        omega (arith, numbered, length-append done (text ∷ [])),
        says,
        more,
      );
    }

pub returns-clause-text : goal.returns-clause-text
returns-clause-text c =
    let (done, said, split, numbered, old, ran) = c.loop-rest.invariant.reached in
    whole_is_run _ _ done said _ _ _ (split ∙ ap (λ left. done ++ lines left) (nil_from_length c.loop-rest.rest.now (grind (arith, nat_tests, c.loop-rest-test.false, c.is_empty.ensures)))) old ran

pub returns-then-not-branch-clause-bad : goal.returns-then-not-branch-clause-bad
returns-then-not-branch-clause-bad c = λ line e.
    let (done, said, split, numbered, old, ran) = c.loop-rest.invariant.reached in
    let whole : lines c.args.bytes.now ≡ done ++ c.first_line.result.0.now ∷ lines c.first_line.result.1.now =
    split ∙ ap (λ left. done ++ left) c.first_line.ensures.line in
    let ends = c.take.ensures.ends_here (c.in_ok-take.was ∙ ap Ok c.if-not-branch.true) said c.args.out.now.items ran in
    let same : c.loop-rest.line ≡ line = cc in
    subst (IsFirstUnreadable _ (lines c.args.bytes.now)) same
    (ends_first _ _ done _ _ said c.loop-rest.line whole numbered old ends)

pub returns-then-not-branch-clause-grown : goal.returns-then-not-branch-clause-grown
returns-then-not-branch-clause-grown c =
    let (done, said, split, numbered, old, ran) = c.loop-rest.invariant.reached in
    (printed_by said, ap (λ out. out.items) (c.take.ensures.unchanged (c.in_ok-take.was ∙ ap Ok c.if-not-branch.true)) ∙ ran.printed)
