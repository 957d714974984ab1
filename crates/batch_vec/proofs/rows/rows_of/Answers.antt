-- The rows of the columns are those that are seen.
use Rattle.std.proofs.Common.{◌≡◌, ◌∙◌, ap}
use Rattle.batch_vec.specs.Batches.{bytes_of}
use Rattle.batch_vec.specs.Columns.{cells_from, rows_in}
use Rattle.batch_vec.proofs.BackLemmas.{table_kinds, table_long, table_rows, table_typed}
use Rattle.batch_vec.proofs.rows.rows_of.Goals as goal

pub from_columns-requires-clause-long : goal.from_columns-requires-clause-long
from_columns-requires-clause-long g c =
    let kinds = c.batch.inside.kinds.items in
    let buffers = bytes_of c.batch.inside.buffers.items in
    let are : c.in-Ok.columns.items ≡ cells_from 0 kinds (rows_in c.batch.inside.count kinds buffers) =
    c.in-Ok.ensures.columns ∙ (λ k. cells_from 0 (c.as_slice.ensures.value k)
    (rows_in c.batch.inside.count (c.as_slice.ensures.value k) (bytes_of (c.as_slice-2.ensures.value k)))) in
    table_long c.batch.inside.count kinds buffers _ _ c.batch.invariant are

pub from_columns-requires-clause-typed : goal.from_columns-requires-clause-typed
from_columns-requires-clause-typed g c =
    let kinds = c.batch.inside.kinds.items in
    let buffers = bytes_of c.batch.inside.buffers.items in
    let are : c.in-Ok.columns.items ≡ cells_from 0 kinds (rows_in c.batch.inside.count kinds buffers) =
    c.in-Ok.ensures.columns ∙ (λ k. cells_from 0 (c.as_slice.ensures.value k)
    (rows_in c.batch.inside.count (c.as_slice.ensures.value k) (bytes_of (c.as_slice-2.ensures.value k)))) in
    table_typed c.batch.inside.count kinds buffers _ _ c.batch.invariant are

pub returns-in-Ok-clause-kinds : goal.returns-in-Ok-clause-kinds
returns-in-Ok-clause-kinds g c =
    let kinds = c.batch.inside.kinds.items in
    let buffers = bytes_of c.batch.inside.buffers.items in
    let are : c.in-Ok.columns.items ≡ cells_from 0 kinds (rows_in c.batch.inside.count kinds buffers) =
    c.in-Ok.ensures.columns ∙ (λ k. cells_from 0 (c.as_slice.ensures.value k)
    (rows_in c.batch.inside.count (c.as_slice.ensures.value k) (bytes_of (c.as_slice-2.ensures.value k)))) in
    ap (λ table. table.kinds) c.from_columns.ensures.value ∙ table_kinds c.batch.inside.count kinds buffers _ _ c.batch.invariant are
    ∙ ap (λ batch. batch.kinds) c.batch.view_is

pub returns-in-Ok-clause-rows : goal.returns-in-Ok-clause-rows
returns-in-Ok-clause-rows g c =
    let kinds = c.batch.inside.kinds.items in
    let buffers = bytes_of c.batch.inside.buffers.items in
    let are : c.in-Ok.columns.items ≡ cells_from 0 kinds (rows_in c.batch.inside.count kinds buffers) =
    c.in-Ok.ensures.columns ∙ (λ k. cells_from 0 (c.as_slice.ensures.value k)
    (rows_in c.batch.inside.count (c.as_slice.ensures.value k) (bytes_of (c.as_slice-2.ensures.value k)))) in
    ap (λ table. table.rows) c.from_columns.ensures.value ∙ table_rows c.batch.inside.count kinds buffers _ _ c.batch.invariant are
    ∙ ap (λ batch. batch.rows) c.batch.view_is
