use Rattle.std.proofs.Common.{◌≡◌, ◌+◌, ◌<◌, ◌^◌, take}
use Rattle.std.specs.List.{sum_by}
use Rattle.mem_model.proofs.bound.fits.Given as goal

abbrev pub invariant-loop-charge : goal.invariant-loop-charge
invariant-loop-charge l = record {
  sum : l.all ≡ sum_by (λ charge. charge.amount) (take l.charge-index l.charges);
  small : l.all < 2 ^ 64;
}

abbrev pub invariant-loop-node : goal.invariant-loop-node
invariant-loop-node l = record {
  sum : l.all ≡ sum_by (λ charge. charge.amount) l.charges + sum_by (λ node. node.reservation) (take l.node-index l.nodes);
  small : l.all < 2 ^ 64;
}
