-- The sizes of the batches so far.
use Rattle.std.proofs.Common.{◌≡◌, map}
use Rattle.std.specs.List.{flat_map, range_with_len}
use Rattle.query_model.specs.Answer.{answer_of}
use Rattle.query_model.specs.Buffers.{buffer_sizes}
use Rattle.query_model.specs.Requests.{answer_kinds, batch_rows}
use Rattle.query_model.proofs.requests.kept_sizes.Given as goal

abbrev pub invariant-loop-batch : goal.invariant-loop-batch
invariant-loop-batch l = l.kept.items ≡ flat_map (λ part. buffer_sizes (answer_kinds l.plan) (answer_of l.plan part))
    (map (batch_rows l.plan l.rows) (range_with_len 1 l.batch))
