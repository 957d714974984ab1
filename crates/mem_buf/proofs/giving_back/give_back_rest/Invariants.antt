-- Some were given back, and the others are left.
use Rattle.std.proofs.Common.{◌≡◌, length}
use Rattle.std.specs.Vec.Iter.{into_iter_items, into_iter_len}
use Rattle.mem_buf.proofs.GiveBackLemmas.{HasGivenBack}
use Rattle.mem_buf.proofs.giving_back.give_back_rest.Given as goal

abbrev pub invariant-loop-buf : goal.invariant-loop-buf
invariant-loop-buf g l =
    HasGivenBack g.M.Memory.model (λ buf. g.M.Memory.model.reference buf.hold) (into_iter_items l.fn.rest)
    (into_iter_items l.left) l.fn.token l.token
    × (into_iter_len l.left ≡ length (into_iter_items l.left))

abbrev pub decreases-loop-buf : goal.decreases-loop-buf
decreases-loop-buf g l = into_iter_len l.left
