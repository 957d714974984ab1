-- How a report is read off its text. Every text is read as some report, and no other can be lawful with this text.
use Rattle.std.specs.Prelude.{ℕ, ◌+◌, ◌-◌, ◌*◌, ◌/◌, ◌^◌, ◌==◌, Bool, not, ◌||◌, nat_lt, min, List, [], ◌∷◌, ◌++◌, length, filter, fold, count_by, insert, slice_index, take_while, if◌then◌else◌, Option, Some, None}
use Rattle.std.specs.List.{filter_map, list_any, slice_split}
use Rattle.mem_num.specs.Name.{is_name_byte}
use Rattle.mem_num.specs.declared.alloc_id.AllocId.{AllocId}
use Rattle.mem_model.specs.declared.ledger.Ledger.{Ledger}
use Rattle.mem_model.specs.Chunk.{Chunk, references_of}
use Rattle.leak_report.specs.Report.{PrintedAllocator, Report, TreeLine}

-- a byte of a number or of a name
abbrev pub is_word_byte : ℕ → Bool
is_word_byte byte = is_name_byte byte || (byte == 63)

-- whether a part has any byte
unfoldable pub has_bytes : List ℕ → Bool
has_bytes part = nat_lt 0 (length part)

-- the lines of a text
unfoldable pub lines_in : List ℕ → List (List ℕ)
lines_in text = filter has_bytes (slice_split (λ byte. byte == 10) text)

-- the numbers and names of a line
unfoldable pub words_in : List ℕ → List (List ℕ)
words_in line = filter has_bytes (slice_split (λ byte. not (is_word_byte byte)) line)

-- a number with a digit more; numbers end at the greatest of 64 bits
abbrev pub with_digit : ℕ → ℕ → ℕ
with_digit number byte = min (number * 10 + (byte - 48)) (2 ^ 64 - 1)

-- the number that a word is
abbrev pub value_in : List ℕ → ℕ
value_in word = fold with_digit 0 word

-- the same, up to the greatest of 32 bits
abbrev pub short_value_in : List ℕ → ℕ
short_value_in word = min (value_in word) (2 ^ 32 - 1)

-- the allocator of that number
abbrev pub id_in : List ℕ → AllocId
id_in word = record { 0 = short_value_in word }

-- how many levels deep a line stands, by its spaces
abbrev pub depth_of : List ℕ → ℕ
depth_of line = length (take_while (λ byte. byte == 32) line) / 2

-- the line of the tree with these words
abbrev pub tree_line_with : ℕ → List (List ℕ) → Option TreeLine
tree_line_with depth (number ∷ _ ∷ name ∷ reservation ∷ held ∷ peak ∷ limit ∷ _) = Some (record {
  depth = depth;
  number = id_in number;
  name = name;
  reservation = value_in reservation;
  held = value_in held;
  peak = value_in peak;
  limit = value_in limit;
})
tree_line_with depth _ = None

-- the line of the tree that a line is: it begins with a space or a number sign
abbrev pub tree_line_in : List ℕ → Option TreeLine
tree_line_in line =
    if (slice_index line 0 == 32) || (slice_index line 0 == 35) then tree_line_with (depth_of line) (words_in line) else None

-- the ledgers with these words
abbrev pub ledgers_with : List (List ℕ) → List Ledger
ledgers_with (at ∷ count ∷ more) = record { at = id_in at; count = value_in count } ∷ ledgers_with more
ledgers_with _ = []

-- the chunk with these words
abbrev pub chunk_with : List (List ℕ) → Option Chunk
chunk_with (_ ∷ number ∷ _ ∷ size ∷ _ ∷ owner ∷ _ ∷ ledgers) = Some (record {
  number = short_value_in number;
  size = value_in size;
  owner = id_in owner;
  ledgers = ledgers_with ledgers;
})
chunk_with _ = None

-- the chunk that a line is: it begins with a c
abbrev pub chunk_in : List ℕ → Option Chunk
chunk_in line = if slice_index line 0 == 99 then chunk_with (words_in line) else None

-- the parent of a line that stands so deep: the last line before that is one level higher
abbrev pub parent_after : List (ℕ × AllocId) → ℕ → Option AllocId
parent_after levels depth = fold (λ parent level. if depth == level.0 + 1 then Some level.1 else parent) None levels

-- the allocator of a line, with its parent
abbrev pub allocator_of_line : TreeLine → Option AllocId → PrintedAllocator
allocator_of_line line parent = record {
  number = line.number;
  parent = parent;
  name = line.name;
  reservation = line.reservation;
  held = line.held;
  peak = line.peak;
  limit = line.limit;
}

-- some allocators in order of number with one more, unless one has its number
abbrev pub with_allocator : List PrintedAllocator → PrintedAllocator → List PrintedAllocator
with_allocator allocators new =
    if list_any (λ printed. printed.number.0 == new.number.0) allocators then allocators
    else insert allocators (count_by (λ printed. nat_lt printed.number.0 new.number.0) allocators) new

-- some allocators with those of some lines, by the depths and numbers of the lines before these
abbrev pub with_lines : List (ℕ × AllocId) → List PrintedAllocator → List TreeLine → List PrintedAllocator
with_lines levels allocators [] = allocators
with_lines levels allocators (line ∷ lines) =
    with_lines (levels ++ (line.depth, line.number) ∷ []) (with_allocator allocators (allocator_of_line line (parent_after levels line.depth))) lines

-- the report of these allocators and chunks, with the references that these have
abbrev pub report_with : List PrintedAllocator → List Chunk → Report
report_with allocators chunks = record { allocators = allocators; chunks = chunks; references = references_of chunks }

-- the report that a text is read as
abbrev pub read_report : List ℕ → Report
read_report text = report_with (with_lines [] [] (filter_map tree_line_in (lines_in text))) (filter_map chunk_in (lines_in text))
