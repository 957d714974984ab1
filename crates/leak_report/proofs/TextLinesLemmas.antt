-- The lines of a report's text, one by one.
use Rattle.std.proofs.Common.{◌≡◌, ℕ, zero, suc, ◌<◌, ◌^◌, ◌==◌, List, [], ◌∷◌, ◌++◌, Bool, true, not, Option, Some, None, filter, map, refl, sym, ap, ◌∙◌, arith, inl, inr, codes, append_assoc}
use Rattle.std.specs.Fmt.{decimal}
use Rattle.std.specs.List.{filter_map, flat_map, list_all, AllByRecursion}
use Rattle.std.proofs.lemmas.Bool.{and_from, and_parts, cases_Bool, eqb-true, not-true, true≢false}
use Rattle.std.proofs.lemmas.List.{append-nil}
use Rattle.std.proofs.lemmas.List.Splits.{slice_split_at}
use Rattle.std.proofs.lemmas.List.Sums.{AllPass-from_list_all}
use Rattle.mem_model.specs.declared.ledger.Ledger.{Ledger}
use Rattle.mem_model.specs.Chunk.{Chunk}
use Rattle.leak_report.specs.ReadReport.{chunk_in, has_bytes, is_word_byte, lines_in, tree_line_in}
use Rattle.leak_report.specs.Report.{TreeLine, tree_line_text}
use Rattle.leak_report.specs.ReportText.{chunk_text, ledger_text, references_text}
use Rattle.leak_report.specs.TreeText.{indent}
use Rattle.leak_report.proofs.LineLemmas.{IsFineChunk, IsFineLedger, IsFineLine, chunk_body, chunk_in-body, chunk_in-tree_line, tree_line_body, tree_line_in-body, tree_line_in-chunk}
use Rattle.leak_report.proofs.WordLemmas.{IsWordBytes, IsWord-decimal, IsWord-name, some_bytes}

-- a byte within a line
abbrev pub is_within_line : ℕ → Bool
is_within_line byte = not (byte == 10)

-- a text within a line
abbrev pub IsWithinLine : List ℕ → Type 0
IsWithinLine text = list_all is_within_line text ≡ true

-- a line stands first, and those behind it follow
lines_in-line : (body s : List ℕ) → IsWithinLine body → has_bytes body ≡ true → lines_in (body ++ (10 ∷ s)) ≡ body ∷ lines_in s
unfolding lines_in
lines_in-line body s within some =
    ap (filter has_bytes) (slice_split_at (λ byte. byte == 10) body 10 s (λ k d inside. not-true _ (AllPass-from_list_all is_within_line body within k d inside)) refl)
    ∙ rw some refl

-- no text has no lines
lines_in-none : lines_in [] ≡ []
unfolding lines_in has_bytes
lines_in-none = refl

-- one text within a line before another is within a line
within-append : (xs ys : List ℕ) → IsWithinLine xs → IsWithinLine ys → IsWithinLine (xs ++ ys)
within-append [] ys first second = second
within-append (x ∷ xs) ys first second =
    let parts = and_parts (is_within_line x) (list_all is_within_line xs) first in
    and_from (is_within_line x) (list_all is_within_line (xs ++ ys)) parts.0 (within-append xs ys parts.1 second)

-- a byte of a word is within a line
word_byte_within : (byte : ℕ) → is_word_byte byte ≡ true → is_within_line byte ≡ true
word_byte_within byte is = elim (cases_Bool (byte == 10)) [
  | inl feed ↦ absurd (true≢false (sym is ∙ ap is_word_byte (eqb-true byte 10 feed)))
  | inr other ↦ ap not other
]

-- so are such bytes
bytes_within : (word : List ℕ) → IsWordBytes word → IsWithinLine word
bytes_within [] is = refl
bytes_within (x ∷ xs) is =
    let parts = and_parts (is_word_byte x) (list_all is_word_byte xs) is in
    and_from (is_within_line x) (list_all is_within_line xs) (word_byte_within x parts.0) (bytes_within xs parts.1)

-- a number, with a text within a line behind it
number_within : (n : ℕ) (s : List ℕ) → n < 2 ^ 64 → IsWithinLine s → IsWithinLine (decimal n ++ s)
number_within n s fits rest = within-append (decimal n) s (bytes_within (decimal n) (IsWord-decimal n (omega arith)).bytes) rest

-- spaces, with a text within a line behind them
indent_within : (depth : ℕ) (s : List ℕ) → IsWithinLine s → IsWithinLine (indent depth ++ s)
indent_within zero s rest = rest
indent_within (suc depth) s rest = indent_within depth s rest

-- what is printed of a line of the tree is within a line
tree_line_within : (line : TreeLine) → IsFineLine line → IsWithinLine (tree_line_body line)
tree_line_within line fine =
    indent_within line.depth _ (number_within line.number.0 _ (omega (arith, fine.number))
    (within-append line.name _ (bytes_within line.name (IsWord-name line.name fine.name).bytes)
    (number_within line.reservation _ fine.reservation (number_within line.held _ fine.held (number_within line.peak _ fine.peak (number_within line.limit _ fine.limit refl))))))

-- it has bytes
tree_line_some : (depth : ℕ) (s : List ℕ) → has_bytes (indent depth ++ (codes "#" ++ s)) ≡ true
tree_line_some zero s = some_bytes 35 s
tree_line_some (suc depth) s = some_bytes 32 _

-- a line of the tree is the first line
lines_in-tree_line : (line : TreeLine) (s : List ℕ) → IsFineLine line → lines_in (tree_line_text line ++ s) ≡ tree_line_body line ∷ lines_in s
lines_in-tree_line line s fine =
    let ended : tree_line_text line ++ s ≡ tree_line_body line ++ (10 ∷ s) = simp append_assoc in
    ap lines_in ended ∙ lines_in-line (tree_line_body line) s (tree_line_within line fine) (tree_line_some line.depth _)

-- what is printed of ledgers is within a line
ledgers_within : (ledgers : List Ledger) → AllByRecursion IsFineLedger ledgers → IsWithinLine (flat_map ledger_text ledgers)
ledgers_within [] fine = refl
ledgers_within (ledger ∷ ledgers) fine =
    within-append (ledger_text ledger) (flat_map ledger_text ledgers)
    (number_within ledger.at.0 _ (omega (arith, fine.0.at)) (bytes_within (decimal ledger.count) (IsWord-decimal ledger.count (omega (arith, fine.0.count))).bytes))
    (ledgers_within ledgers fine.1)

-- what is printed of a chunk is within a line
chunk_within : (chunk : Chunk) → IsFineChunk chunk → IsWithinLine (chunk_body chunk)
chunk_within chunk fine =
    number_within chunk.number _ (omega (arith, fine.number)) (number_within chunk.size _ fine.size
    (number_within chunk.owner.0 _ (omega (arith, fine.owner)) (ledgers_within chunk.ledgers fine.ledgers)))

-- a chunk's line is the first line
lines_in-chunk : (chunk : Chunk) (s : List ℕ) → IsFineChunk chunk → lines_in (chunk_text chunk ++ s) ≡ chunk_body chunk ∷ lines_in s
lines_in-chunk chunk s fine =
    let ended : chunk_text chunk ++ s ≡ chunk_body chunk ++ (10 ∷ s) = simp append_assoc in
    ap lines_in ended ∙ lines_in-line (chunk_body chunk) s (chunk_within chunk fine) (some_bytes 99 _)

-- what is printed of the references, without its line feed
abbrev pub references_body : ℕ → List ℕ
references_body references = codes "refs " ++ decimal references

-- it is the last line
lines_in-references : (references : ℕ) → references < 2 ^ 128 → lines_in (references_text references) ≡ references_body references ∷ []
lines_in-references references fits =
    let ended : references_text references ≡ references_body references ++ (10 ∷ []) = simp append_assoc in
    ap lines_in ended ∙ lines_in-line (references_body references) [] (bytes_within (decimal references) (IsWord-decimal references fits).bytes) (some_bytes 114 _)
    ∙ ap (λ lines. references_body references ∷ lines) lines_in-none

-- the lines of some items, and of what follows them
lines_in-items : {A : Type 0} (text body : A → List ℕ) (IsFine : A → Type 0) → ((x : A) (s : List ℕ) → IsFine x → lines_in (text x ++ s) ≡ body x ∷ lines_in s)
    → (xs : List A) (s : List ℕ) → AllByRecursion IsFine xs → lines_in (flat_map text xs ++ s) ≡ map body xs ++ lines_in s
lines_in-items text body IsFine first [] s fine = refl
lines_in-items text body IsFine first (x ∷ xs) s fine =
    ap lines_in (append_assoc (text x) (flat_map text xs) s) ∙ first x (flat_map text xs ++ s) fine.0 ∙ ap (λ lines. body x ∷ lines) (lines_in-items text body IsFine first xs s fine.1)

-- items that are read of their lines are read of all
filter_map-read : {A : Type 0} (read : List ℕ → Option A) (body : A → List ℕ) (IsFine : A → Type 0) → ((x : A) → IsFine x → read (body x) ≡ Some x)
    → (xs : List A) (rest : List (List ℕ)) → AllByRecursion IsFine xs → filter_map read (map body xs ++ rest) ≡ xs ++ filter_map read rest
filter_map-read read body IsFine reads [] rest fine = refl
filter_map-read read body IsFine reads (x ∷ xs) rest fine = rw (reads x fine.0) (ap (λ ys. x ∷ ys) (filter_map-read read body IsFine reads xs rest fine.1))

-- and other lines are passed over
filter_map-skip : {A B : Type 0} (read : List ℕ → Option B) (body : A → List ℕ) → ((x : A) → read (body x) ≡ None)
    → (xs : List A) (rest : List (List ℕ)) → filter_map read (map body xs ++ rest) ≡ filter_map read rest
filter_map-skip read body skips [] rest = refl
filter_map-skip read body skips (x ∷ xs) rest = rw (skips x) (filter_map-skip read body skips xs rest)

-- the lines of lines of the tree, of chunks and of the references
pub lines_in-report : (lines : List TreeLine) (chunks : List Chunk) (references : ℕ) → AllByRecursion IsFineLine lines → AllByRecursion IsFineChunk chunks → references < 2 ^ 128
    → lines_in (flat_map tree_line_text lines ++ (flat_map chunk_text chunks ++ references_text references)) ≡ map tree_line_body lines ++ (map chunk_body chunks ++ (references_body references ∷ []))
lines_in-report lines chunks references fine fine' fits =
    lines_in-items tree_line_text tree_line_body IsFineLine lines_in-tree_line lines _ fine
    ∙ ap (λ rest. map tree_line_body lines ++ rest) (lines_in-items chunk_text chunk_body IsFineChunk lines_in-chunk chunks (references_text references) fine'
    ∙ ap (λ rest. map chunk_body chunks ++ rest) (lines_in-references references fits))

-- the lines of the tree are read of these
pub tree_lines_read : (lines : List TreeLine) (chunks : List Chunk) (references : ℕ) → AllByRecursion IsFineLine lines
    → filter_map tree_line_in (map tree_line_body lines ++ (map chunk_body chunks ++ (references_body references ∷ []))) ≡ lines
tree_lines_read lines chunks references fine =
    filter_map-read tree_line_in tree_line_body IsFineLine tree_line_in-body lines _ fine
    ∙ ap (λ rest. lines ++ rest) (filter_map-skip tree_line_in chunk_body tree_line_in-chunk chunks (references_body references ∷ []))
    ∙ append-nil lines

-- and so are the chunks
pub chunks_read : (lines : List TreeLine) (chunks : List Chunk) (references : ℕ) → AllByRecursion IsFineChunk chunks
    → filter_map chunk_in (map tree_line_body lines ++ (map chunk_body chunks ++ (references_body references ∷ []))) ≡ chunks
chunks_read lines chunks references fine =
    filter_map-skip chunk_in tree_line_body chunk_in-tree_line lines _
    ∙ filter_map-read chunk_in chunk_body IsFineChunk chunk_in-body chunks (references_body references ∷ []) fine
    ∙ append-nil chunks
