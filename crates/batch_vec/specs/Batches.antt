-- Batches as they are seen, and the calls that storing one comes to.
use Rattle.std.specs.Prelude.{◌≡◌, ℕ, List, map, Result, Ok, Err}
use Rattle.mem_num.specs.declared.alloc_id.AllocId.{AllocId}
use Rattle.mem_num.specs.declared.buffer_ref.Ref.{Ref}
use Rattle.mem_num.specs.declared.buffer_refused.BufferRefused.{BufferRefused}
use Rattle.mem_num.specs.declared.buffer_refused.BufferRefused.TheVariants as buffer
use Rattle.mem_buf.specs.declared.arrow_buf.ArrowBuf.{ArrowBuf}
use Rattle.mem_buf.specs.Callers.{grants}
use Rattle.mem_buf.specs.MemoryCall.{MemoryCall}
use Rattle.mem_buf.specs.Storing.{IsRefusedStore}
use Rattle.mem_buf.specs.TokenView.{TokenView}
use Rattle.mem_buf.specs.View.{bytes_in}
use Rattle.query_model.specs.declared.cell.Cell.{Cell}
use Rattle.query_model.specs.declared.kind.Kind.{Kind}
use Rattle.batch_vec.specs.Columns.{rows_in}
use Rattle.batch_vec.specs.declared.refused.OpRefused.{OpRefused}
use Rattle.batch_vec.specs.declared.refused.OpRefused.TheVariants.{Full, NoMemory}

-- rows with the kinds of their columns, and the holds of their buffers, two a column
pub record BatchView (H : Type 0) : Type 0 where
  pub kinds : List Kind
  pub rows : List (List Cell)
  pub holds : List H

-- the bytes of buffers
abbrev pub bytes_of : {H : Type 0} → List (ArrowBuf H) → List (List ℕ)
bytes_of buffers = map (λ buffer. bytes_in buffer.view) buffers

-- what is seen of a batch
abbrev pub view_of : {H : Type 0} → ℕ → List Kind → List (ArrowBuf H) → BatchView H
view_of count kinds buffers = record {
  kinds = kinds;
  rows = rows_in count kinds (bytes_of buffers);
  holds = map (λ buffer. buffer.hold) buffers;
}

-- the memory's refusal
abbrev pub buffer_refusal : OpRefused → BufferRefused
buffer_refusal (Full full) = buffer.Full full
buffer_refusal NoMemory = buffer.NoMemory

-- a buffer was granted for each length, in order; or one was refused, and those before it were given back
abbrev pub IsStoreRows : {H : Type 0} → (H → Ref) → TokenView → AllocId → List ℕ → Result (BatchView H) OpRefused → List MemoryCall → Type 0
IsStoreRows reference view at lengths (Ok batch) calls =
    (granted : List (ℕ × Ref)) × (calls ≡ grants at granted) × (map (λ one. one.0) granted ≡ lengths)
    × (map (λ one. one.1) granted ≡ map reference batch.holds)
IsStoreRows reference view at lengths (Err refused) calls = IsRefusedStore view at lengths (buffer_refusal refused) calls
