-- The place of a key among keys in order.
use Rattle.std.proofs.Common.{◌∙◌, arith}
use Rattle.query_model.specs.Answer.{with_key}
use Rattle.query_model.proofs.ProgramLemmas.{told-order, put-before, put-there, put-last}
use Rattle.query_model.proofs.keys.put_key.Goals as goal

pub returns-in-Less : goal.returns-in-Less
returns-in-Less c =
    let now = c.loop-place in
    c.in_ok-insert-in-Less.ensures.items
    ∙ put-before now.key now.keys.items now.place c.index.result.now
    (omega (arith, c.loop-place-test.true, c.len.ensures)) now.invariant.put
    (told-order c.cmp.result _ now.key c.index.result.now _ c.as_str.result.now c.as_str-in-loop-place.result.now
    c.cmp.ensures c.in-Less.is c.as_str.ensures.value c.as_str-in-loop-place.ensures.value c.index.ensures)
    ∙ (λ k. with_key (now.invariant.key k) (now.invariant.keys k))

pub returns-in-Equal : goal.returns-in-Equal
returns-in-Equal c =
    let now = c.loop-place in
    put-there now.key now.keys.items now.place c.index.result.now (omega (arith, c.loop-place-test.true, c.len.ensures)) now.invariant.put
    (told-order c.cmp.result _ now.key c.index.result.now _ c.as_str.result.now c.as_str-in-loop-place.result.now
    c.cmp.ensures c.in-Equal.is c.as_str.ensures.value c.as_str-in-loop-place.ensures.value c.index.ensures)
    ∙ (λ k. with_key (now.invariant.key k) (now.invariant.keys k))

pub returns : goal.returns
returns c =
    let now = c.loop-place in
    c.in_ok-push.ensures.items
    ∙ put-last now.key now.keys.items now.place (omega (arith, c.loop-place-test.false, c.len.ensures)) now.invariant.put
    ∙ (λ k. with_key (now.invariant.key k) (now.invariant.keys k))
