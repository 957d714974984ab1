-- A listed token pays for three further references.
use Rattle.std.proofs.Common.{◌≡◌, ◌≤◌, length, refl, arith, rules}
use Rattle.std.proofs.lemmas.List.{length-map}
use Rattle.mem_buf.specs.Listed.{listed_view}
use Rattle.mem_buf.proofs.PayLemmas.{CanShare-few}
use Rattle.mem_buf.proofs.tests.move_few.Goals as goal

pub move_buffers-requires : goal.move_buffers-requires
move_buffers-requires g c =
    let few : length c.args.bufs.items ≤ 3 = search rules in
    let same = length-map c.args.bufs.items (λ buf. buf.hold) in
    record { budget = CanShare-few (listed_view c.args.token.now.pinned.items) _ _ refl (omega (arith, few, same)) }
