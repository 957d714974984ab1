-- The names so far.
use Rattle.std.proofs.Common.{◌≡◌, ◌++◌, map, take}
use Rattle.pipeline.specs.Query.{name_at}
use Rattle.pipeline.proofs.printing.add_names.Given as goal

abbrev pub invariant-picks : goal.invariant-picks
invariant-picks l = l.names.items ≡ l.fn.names.items ++ map (λ pick. l.prefix ++ name_at l.columns pick) (take l.pick-index l.picks)
