-- What a report prints: the lines of the tree, a line for each live chunk, and how many references there are.
use Rattle.std.specs.Prelude.{ℕ, List, ◌++◌, codes, decimal}
use Rattle.std.specs.List.{flat_map}
use Rattle.mem_num.specs.Text.{alloc_id_text}
use Rattle.mem_num.specs.declared.alloc_id.AllocId.{AllocId}
use Rattle.mem_model.specs.declared.ledger.Ledger.{Ledger}
use Rattle.mem_model.specs.Chunk.{Chunk, references_of}
use Rattle.mem_model.specs.TreeState.{TreeState}
use Rattle.leak_report.specs.TreeText.{tree_text}

-- a ledger in the line of its chunk: whose it is, and how many references it counts
abbrev pub ledger_text : Ledger → List ℕ
ledger_text ledger = codes " " ++ (alloc_id_text ledger.at.0 ++ (codes ":" ++ decimal ledger.count))

-- the line of a chunk: its number, its size, who is charged for it, and each ledger
abbrev pub chunk_text : Chunk → List ℕ
chunk_text chunk =
    codes "chunk " ++ (decimal chunk.number ++ (codes " size " ++ (decimal chunk.size
    ++ (codes " owner " ++ (alloc_id_text chunk.owner.0 ++ (codes " refs" ++ (flat_map ledger_text chunk.ledgers ++ codes "\n")))))))

-- the last line
abbrev pub references_text : ℕ → List ℕ
references_text references = codes "refs " ++ (decimal references ++ codes "\n")

-- the lines of some chunks, and how many references there are to them
abbrev pub chunks_text : List Chunk → List ℕ
chunks_text chunks = flat_map chunk_text chunks ++ references_text (references_of chunks)

-- the report of a tree, by what names are bound to its allocators and by the peak of each
abbrev pub report_text : List (List (List ℕ × AllocId)) → (ℕ → ℕ) → TreeState → List ℕ
report_text names peaks state = tree_text names peaks state ++ chunks_text state.chunks
