use Rattle.std.proofs.Common.{◌∙◌, sym, nat_eq}
use Rattle.plan_text.proofs.DifferentLemmas.{are_different-found, are_different-more, are_different-none}
use Rattle.plan_text.proofs.picks.are_different.Goals as goal

pub returns-then-contains : goal.returns-then-contains
returns-then-contains c =
    let split = c.in-Some.ensures.cases.0 in
    sym (c.rest.invariant ∙ are_different-found nat_eq c.rest.rest.now c.in-Some.first.now c.in-Some.more.now split
    (sym c.contains.ensures.value ∙ c.if-contains.true))

pub rest-preserved : goal.rest-preserved
rest-preserved c =
    let split = c.in-Some.ensures.cases.0 in
    c.rest.invariant ∙ are_different-more nat_eq c.rest.rest.now c.in-Some.first.now c.in-Some.more.now split
    (sym c.contains.ensures.value ∙ c.if-contains.false)

pub returns : goal.returns
returns c = sym (c.rest.invariant ∙ are_different-none nat_eq c.rest.rest.now c.in_default.ensures.cases)
