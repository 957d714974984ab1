-- A listed token pays for eight further references.
use Rattle.std.proofs.Common.{◌≡◌, ◌≤◌, ap, length, map, sym, ◌∙◌, refl, arith, rules}
use Rattle.std.proofs.lemmas.List.{length-map}
use Rattle.mem_buf.specs.Listed.{listed_view}
use Rattle.mem_buf.proofs.PayLemmas.{CanShare-few}
use Rattle.batch_vec.proofs.tests.move_few.Goals as goal

pub move_batch-requires-clause-budget : goal.move_batch-requires-clause-budget
move_batch-requires-clause-budget g c =
    let few : length c.batch.inside.buffers.items ≤ 8 = search rules in
    let held : length c.args.batch.holds ≡ length c.batch.inside.buffers.items =
    ap (λ batch. length batch.holds) (sym c.batch.view_is) ∙ length-map c.batch.inside.buffers.items (λ buffer. buffer.hold) in
    let named = length-map c.args.batch.holds (λ hold. hold) in
    CanShare-few (listed_view c.push.new.self.items) _ _ refl (omega (arith, few, held, named))
