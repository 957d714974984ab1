use Rattle.std.proofs.Common.{◌≡◌, filter, take, nat_lt}
use Rattle.mem_model.proofs.sample.newer_than.Given as goal

abbrev pub invariant-loop-level : goal.invariant-loop-level
invariant-loop-level l = l.newer.items ≡ filter (λ level. nat_lt l.number.0 level.number.0) (take l.level-index l.levels)
