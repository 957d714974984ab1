-- The calls of the memory of one thread are calls of its tree.
use Rattle.std.proofs.Common.{◌≤◌, arith, length, map}
use Rattle.std.proofs.lemmas.List.{length-map}
use Rattle.uses.proofs.TreeStoringLemmas.{can_pay, leaves_stored}
use Rattle.uses.proofs.memories.store_in_tree.Goals as goal

pub store_all-requires : goal.store_all-requires
store_all-requires c =
    let inputs = c.args.inputs.now in
    let few : length (map length (map (λ input. input.items) inputs)) ≤ 65536 =
    omega (arith, length-map (map (λ input. input.items) inputs) length, length-map inputs (λ input. input.items), c.if-inputs.false) in
    record { budget = can_pay c.args.tree.now c.args.at _ few (omega (arith, c.if-calls.false, c.calls.ensures)) }

pub returns-clause-after : goal.returns-clause-after
returns-clause-after c =
    let law = c.calls_of_one_thread_are_calls_of_its_tree.ensures in
    leaves_stored law.state law.answers c.args.tree.now c.store_all.new.token c.args.at _ c.store_all.result c.store_all.ensures.calls
