use Rattle.std.proofs.Common.{◌≡◌, ◌++◌, drop, filter, map}
use Rattle.leak_report.specs.ReadReport.{has_bytes}
use Rattle.leak_report.proofs.judge.word.with_bytes.Given as goal

-- the parts so far, and those that are left
abbrev pub invariant-loop-part : goal.invariant-loop-part
invariant-loop-part l =
    map (λ part. part.now) l.kept.items ++ filter has_bytes (map (λ part. part.now) (drop l.part-index l.parts)) ≡ filter has_bytes (map (λ part. part.now) l.parts)
