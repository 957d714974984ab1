-- Which calls the moving of a batch comes to, and the columns that are picked out of one.
use Rattle.std.specs.Prelude.{◌≡◌, ◌*◌, ◌∷◌, ℕ, List, [], ◌++◌, map, flat_map, take, drop, Result, Ok, Err}
use Rattle.mem_num.specs.declared.alloc_id.AllocId.{AllocId}
use Rattle.mem_num.specs.declared.buffer_ref.Ref.{Ref}
use Rattle.mem_num.specs.declared.no_memory.NoMemory.{NoMemory}
use Rattle.mem_num.specs.declared.ref_refused.RefRefused.TheVariants as sharing
use Rattle.mem_buf.specs.Moving.{AreMoved, IsRefusedMove}
use Rattle.mem_buf.specs.MemoryCall.{MemoryCall}
use Rattle.batch_vec.specs.Batches.{BatchView}

-- all references of a batch moved, and are those of this batch; or memory ran out, and all were given back
abbrev pub IsMoveBatch : {H : Type 0} → (H → Ref) → AllocId → List H → Result (BatchView H) NoMemory → List MemoryCall → Type 0
IsMoveBatch reference target holds (Ok batch) calls = AreMoved target (map reference holds) (map reference batch.holds) calls
IsMoveBatch reference target holds (Err refused) calls = IsRefusedMove target (map reference holds) sharing.NoMemory calls

-- of things that stand two a column, those of a column
abbrev pub two_of : {X : Type 0} → List X → ℕ → List X
two_of all column = take 2 (drop (2 * column) all)

-- those of columns, one column after the other
abbrev pub of_columns : {X : Type 0} → List X → List ℕ → List X
of_columns all columns = flat_map (two_of all) columns
