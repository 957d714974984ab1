use Rattle.std.proofs.Common.{◌≡◌, [], drop, map}
use Rattle.std.specs.List.{filter_map}
use Rattle.leak_report.specs.ReadReport.{tree_line_in, with_lines}
use Rattle.leak_report.proofs.judge.read.allocators_in.Given as goal

-- with the lines that are left, these are the allocators of all
abbrev pub invariant-loop-text : goal.invariant-loop-text
invariant-loop-text l =
    with_lines l.levels.items l.allocators.items (filter_map tree_line_in (map (λ line. line.now) (drop l.text-index l.lines)))
    ≡ with_lines [] [] (filter_map tree_line_in (map (λ line. line.now) l.lines))
