-- A listed token pays for a few columns.
use Rattle.std.proofs.Common.{◌≤◌, List, length, refl, arith, rules}
use Rattle.mem_num.specs.declared.alloc_id.AllocId.{AllocId}
use Rattle.mem_buf.specs.Callers.{CanPay}
use Rattle.mem_buf.specs.Listed.{listed_view}
use Rattle.query_model.specs.Buffers.{buffer_lengths}
use Rattle.query_model.specs.declared.cell.Cell.{Cell}
use Rattle.query_model.specs.declared.kind.Kind.{Kind}
use Rattle.batch_vec.proofs.StoreLemmas.{can_store_rows}
use Rattle.batch_vec.proofs.tests.store.Goals as goal

listed_pays : (pinned : List AllocId) (at : AllocId) (kinds : List Kind) (rows : List (List Cell)) → length kinds ≤ 8
    → CanPay (listed_view pinned) at (buffer_lengths kinds rows)
listed_pays pinned at kinds rows few = can_store_rows kinds rows (listed_view pinned) at refl (omega arith) (omega arith)

pub store_rows-requires-clause-budget : goal.store_rows-requires-clause-budget
store_rows-requires-clause-budget g c =
    let few : length c.args.rows.now.kinds ≤ 8 = search rules in
    listed_pays c.push.new.self.items _ c.args.rows.now.kinds c.args.rows.now.rows few
