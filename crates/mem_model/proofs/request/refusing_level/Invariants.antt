use Rattle.std.proofs.Common.{◌≡◌, filter, take, ◌∷◌}
use Rattle.mem_model.specs.Request.{is_past_limit, levels_of, lowest}
use Rattle.mem_model.proofs.request.refusing_level.Given as goal

abbrev pub invariant-loop-level : goal.invariant-loop-level
invariant-loop-level l =
    (l.level-items ≡ levels_of l.nodes l.charges l.fn.request)
    × (l.refusing ≡ lowest (filter (is_past_limit l.nodes (l.fn.request ∷ l.charges)) (take l.level-index l.level-items)))
