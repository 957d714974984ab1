-- A line more was run.
use Rattle.std.proofs.Common.{[], ◌∷◌, ◌++◌, ◌∙◌, ap, sym, subst}
use Rattle.script.specs.Count.{HasRead, IsBounded}
use Rattle.script.specs.Running.{HasRun}
use Rattle.script.proofs.RunLemmas.{one_more_run, numbers_for_one}
use Rattle.script.proofs.running.Running.take.Goals as goal

pub open_for-requires : goal.open_for-requires
open_for-requires c = subst IsBounded c.in-Says.is c.read.ensures.bounds

pub run-requires-clause-bounds : goal.run-requires-clause-bounds
run-requires-clause-bounds c = subst IsBounded c.in-Says.is c.read.ensures.bounds

pub run-requires-clause-numbers : goal.run-requires-clause-numbers
run-requires-clause-numbers c =
    let (said, before, ran) = c.requires in
    let read = subst (HasRead _ _ said _) c.in-Says.is (c.read.ensures.read said ran.counted) in
    let may = read.1.may in
    numbers_for_one _ _ _ said c.in-Says.line (c.in_ok-open_for-in-Says.ensures said may ran.come) may

pub returns-in_ok-extend_from_slice-in-Says-clause-goes_on :
    goal.returns-in_ok-extend_from_slice-in-Says-clause-goes_on
returns-in_ok-extend_from_slice-in-Says-clause-goes_on c = λ _ done said before old ran.
    let read = subst (HasRead _ _ said _) c.in-Says.is (c.read.ensures.read said ran.counted) in
    let may = read.1.may in
    let come = c.in_ok-open_for-in-Says.ensures said may ran.come in
    let grown = c.in_ok-extend_from_slice-in-Says.ensures.items ∙ ap (λ text. c.args.out.now.items ++ text) c.as_bytes.ensures.value in (
      said ++ c.in-Says.line ∷ [],
      read.0 done old,
      subst (HasRun _ _ before) (sym grown) (one_more_run _ said c.in-Says.line before c.args.out.now.items _ _ _ _ come may read.1.counted c.clear.ensures.bytes c.in_ok-run-in-Says.ensures.prints c.in_ok-run-in-Says.ensures.draws ran.printed),
    )
