-- The lines that a run prints where it doesn't end as asked.
use Rattle.std.specs.Prelude.{ℕ, List, ◌++◌, codes, decimal}
use Rattle.query_model.specs.SequentialCalls.{FullBatch}

abbrev pub usage_text : List ℕ
usage_text = codes "usage: arrowmem trace FILE | drive FILE | query PLAN DATA [--workers N] | gen SEED ROWS WORKERS\n"

abbrev pub no_memory_text : List ℕ
no_memory_text = codes "no memory\n"

-- a line on a file
abbrev pub file_line : List ℕ → List ℕ → List ℕ
file_line what name = what ++ (name ++ codes "\n")

-- the line that names a place of a file, by its number
abbrev pub place_line : List ℕ → List ℕ → ℕ → List ℕ
place_line name what number = codes "input: " ++ (name ++ (what ++ (decimal number ++ codes "\n")))

-- the line that names the first unreadable line of a script
abbrev pub unreadable_text : List ℕ → ℕ → List ℕ
unreadable_text name line = place_line name (codes " line ") line

-- the line that names the first bad row of a table
abbrev pub bad_row_text : List ℕ → ℕ → List ℕ
bad_row_text name row = place_line name (codes " row ") row

-- the line on a refusal: the allocator that was full, its numbers, and the batch
abbrev pub refusal_text : FullBatch → List ℕ
refusal_text refusal =
    codes "full: #" ++ (decimal refusal.full.node.0 ++ (codes " held " ++ (decimal refusal.full.held
    ++ (codes " amount " ++ (decimal refusal.full.amount ++ (codes " limit " ++ (decimal refusal.full.limit
    ++ (codes " batch " ++ (decimal refusal.batch ++ codes "\n")))))))))
