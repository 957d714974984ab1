-- A listed token pays for a few columns.
use Rattle.std.proofs.Common.{◌≤◌, List, length, refl, arith}
use Rattle.mem_num.specs.declared.alloc_id.AllocId.{AllocId}
use Rattle.mem_buf.specs.Callers.{CanPay}
use Rattle.mem_buf.specs.Listed.{listed_view}
use Rattle.query_model.specs.Buffers.{buffer_lengths}
use Rattle.query_model.specs.declared.cell.Cell.{Cell}
use Rattle.query_model.specs.declared.kind.Kind.{Kind}
use Rattle.batch_vec.proofs.StoreLemmas.{can_store_rows}

-- whatever stands in them
pub listed-pays : (pinned : List AllocId) (at : AllocId) (kinds : List Kind) (rows : List (List Cell)) → length kinds ≤ 8
    → CanPay (listed_view pinned) at (buffer_lengths kinds rows)
listed-pays pinned at kinds rows few = can_store_rows kinds rows (listed_view pinned) at refl (omega arith) (omega arith)
