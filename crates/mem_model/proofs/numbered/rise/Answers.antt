use Rattle.std.proofs.Common.{ℕ, ◌+◌, ◌<◌, ◌≤◌, AllPairs, take, refl, sym, subst, ◌∙◌}
use Rattle.std.proofs.lemmas.List.{take_all}
use Rattle.mem_model.proofs.NumberOrderLemmas.{Rises, rises-none, rises-more, rises-broken}
use Rattle.mem_model.proofs.numbered.rise.Goals as goal

pub loop-item-init : goal.loop-item-init
loop-item-init g c = rises-none g.T.Numbered.number_of

pub returns-then-number-least : goal.returns-then-number-least
returns-then-number-least g c =
    let past = subst (λ (n : ℕ). n < c.loop-item.least) (c.from-number.ensures ∙ c.number.ensures) c.if-number-least.true in (
      λ h. absurd (cc),
      λ pairs. absurd (rises-broken g.T.Numbered.number_of c.args.items.now c.loop-item.item-index c.loop-item.least c.item-item.result
          c.loop-item-test.true c.item-item.is c.loop-item.invariant past pairs),
    )

pub loop-item-preserved : goal.loop-item-preserved
loop-item-preserved g c =
    let number = c.from-number.ensures ∙ c.number.ensures in
    let next = subst (λ (n : ℕ). c.loop-item.least ≤ n) number c.if-number-least.false in
    subst (λ (n : ℕ). Rises g.T.Numbered.number_of (take (c.loop-item.item-index + 1) c.args.items.now) (n + 1)) (sym number)
    (rises-more g.T.Numbered.number_of c.args.items.now c.loop-item.item-index c.loop-item.least c.item-item.result
    c.loop-item-test.true c.item-item.is c.loop-item.invariant next)

pub returns : goal.returns
returns g c =
    let whole = take_all c.loop-item.item-index c.args.items.now c.loop-item-test.false in
    (λ _. subst (AllPairs (λ before after. g.T.Numbered.number_of before < g.T.Numbered.number_of after)) whole c.loop-item.invariant.in_order, λ _. refl)
