-- Lines of the tree, chunks and ledgers are read off their lines.
use Rattle.std.proofs.Common.{◌≡◌, ℕ, zero, suc, ◌*◌, ◌<◌, ◌^◌, ◌==◌, List, [], ◌∷◌, ◌++◌, Some, None, length, refl, ap, ◌∙◌, arith, codes, append_assoc}
use Rattle.std.specs.Prelude.{take_while}
use Rattle.std.specs.Fmt.{decimal}
use Rattle.std.specs.List.{flat_map, AllByRecursion}
use Rattle.std.proofs.lemmas.List.Sums.{take_while-cons}
use Rattle.mem_num.specs.declared.alloc_id.AllocId.{AllocId}
use Rattle.mem_model.specs.declared.ledger.Ledger.{Ledger}
use Rattle.mem_model.specs.Chunk.{Chunk}
use Rattle.leak_report.specs.LawfulReport.{IsPrintedName}
use Rattle.leak_report.specs.ReadReport.{chunk_in, chunk_with, depth_of, has_bytes, id_in, ledgers_with, tree_line_in, tree_line_with, words_in}
use Rattle.leak_report.specs.Report.{TreeLine}
use Rattle.leak_report.specs.ReportText.{ledger_text}
use Rattle.leak_report.specs.TreeText.{indent}
use Rattle.leak_report.proofs.WordLemmas.{EndsWord, IsWord, IsWord-bytes, IsWord-decimal, IsWord-name, short_value_in-decimal, value_in-decimal, words_in-break, words_in-none, words_in-word}

-- what is printed of a line of the tree, without its line feed
abbrev pub tree_line_body : TreeLine → List ℕ
tree_line_body line =
    indent line.depth ++ (codes "#" ++ (decimal line.number.0 ++ (codes " Allocator(" ++ (line.name ++ (codes ") " ++ (decimal line.reservation ++ (codes "/" ++ (decimal line.held
    ++ (codes "/" ++ (decimal line.peak ++ (codes "/" ++ (decimal line.limit ++ codes " (res/actual/peak/limit)"))))))))))))

-- a line of the tree with a name and with numbers that fit
pub record IsFineLine (line : TreeLine) : Type 0 where
  pub number : line.number.0 < 2 ^ 32
  pub name : IsPrintedName line.name
  pub reservation : line.reservation < 2 ^ 64
  pub held : line.held < 2 ^ 64
  pub peak : line.peak < 2 ^ 64
  pub limit : line.limit < 2 ^ 64

-- the allocator of a number is read
id_in-decimal : (id : AllocId) → id.0 < 2 ^ 32 → id_in (decimal id.0) ≡ id
id_in-decimal id fits = (let is = short_value_in-decimal id.0 fits in λ i. record { 0 = is i })

-- a number stands first
number_first : (n : ℕ) (s : List ℕ) → n < 2 ^ 64 → EndsWord s → words_in (decimal n ++ s) ≡ decimal n ∷ words_in s
number_first n s fits ends = words_in-word (decimal n) s (IsWord-decimal n (omega arith)) ends

-- spaces and a sign are passed over
words_in-indent : (depth : ℕ) (s : List ℕ) → words_in (indent depth ++ (codes "#" ++ s)) ≡ words_in s
words_in-indent zero s = words_in-break 35 s refl
words_in-indent (suc depth) s =
    words_in-break 32 (codes " " ++ (indent depth ++ (codes "#" ++ s))) refl ∙ words_in-break 32 (indent depth ++ (codes "#" ++ s)) refl ∙ words_in-indent depth s

-- so is what follows the number
words_in-allocator : (s : List ℕ) → words_in (codes " Allocator(" ++ s) ≡ codes "Allocator" ∷ words_in s
words_in-allocator s =
    words_in-break 32 (codes "Allocator(" ++ s) refl ∙ words_in-word (codes "Allocator") (codes "(" ++ s) (IsWord-bytes _ _ refl) refl
    ∙ ap (λ words. codes "Allocator" ∷ words) (words_in-break 40 s refl)

-- and what follows the name
words_in-bracket : (s : List ℕ) → words_in (codes ") " ++ s) ≡ words_in s
words_in-bracket s = words_in-break 41 (codes " " ++ s) refl ∙ words_in-break 32 s refl

-- what follows the numbers of a line
abbrev last_words : List (List ℕ)
last_words = codes "res" ∷ codes "actual" ∷ codes "peak" ∷ codes "limit" ∷ []

words_in-last : words_in (codes " (res/actual/peak/limit)") ≡ last_words
unfolding words_in has_bytes
words_in-last = refl

-- the words of numbers with a stroke before each, and of what follows them
words_in-numbers : (held peak limit : ℕ) → held < 2 ^ 64 → peak < 2 ^ 64 → limit < 2 ^ 64
    → words_in (codes "/" ++ (decimal held ++ (codes "/" ++ (decimal peak ++ (codes "/" ++ (decimal limit ++ codes " (res/actual/peak/limit)"))))))
    ≡ decimal held ∷ decimal peak ∷ decimal limit ∷ last_words
words_in-numbers held peak limit fits fits' fits'' =
    words_in-break 47 _ refl ∙ number_first held _ fits refl
    ∙ ap (λ words. decimal held ∷ words) (words_in-break 47 _ refl ∙ number_first peak _ fits' refl
    ∙ ap (λ words. decimal peak ∷ words) (words_in-break 47 _ refl ∙ number_first limit _ fits'' refl ∙ ap (λ words. decimal limit ∷ words) words_in-last))

-- the words of a line of the tree
words_in-tree_line : (line : TreeLine) → IsFineLine line
    → words_in (tree_line_body line) ≡ decimal line.number.0 ∷ codes "Allocator" ∷ line.name ∷ decimal line.reservation ∷ decimal line.held ∷ decimal line.peak ∷ decimal line.limit ∷ last_words
words_in-tree_line line fine =
    words_in-indent line.depth _ ∙ number_first line.number.0 _ (omega (arith, fine.number)) refl
    ∙ ap (λ words. decimal line.number.0 ∷ words) (words_in-allocator _
    ∙ ap (λ words. codes "Allocator" ∷ words) (words_in-word line.name _ (IsWord-name line.name fine.name) refl
    ∙ ap (λ words. line.name ∷ words) (words_in-bracket _ ∙ number_first line.reservation _ fine.reservation refl
    ∙ ap (λ words. decimal line.reservation ∷ words) (words_in-numbers line.held line.peak line.limit fine.held fine.peak fine.limit))))

-- how many spaces stand before a sign
spaces_before : (depth : ℕ) (s : List ℕ) → length (take_while (λ byte. byte == 32) (indent depth ++ (codes "#" ++ s))) ≡ 2 * depth
spaces_before zero s = ap length (take_while-cons (λ byte. byte == 32) 35 s)
spaces_before (suc depth) s =
    let one = ap length (take_while-cons (λ byte. byte == 32) 32 (codes " " ++ (indent depth ++ (codes "#" ++ s)))) in
    let two = ap length (take_while-cons (λ byte. byte == 32) 32 (indent depth ++ (codes "#" ++ s))) in
    omega (arith, one, two, spaces_before depth s)

-- so they tell the depth
depth_of-indent : (depth : ℕ) (s : List ℕ) → depth_of (indent depth ++ (codes "#" ++ s)) ≡ depth
depth_of-indent depth s = (let spaces = spaces_before depth s in omega (arith, spaces))

-- a line that begins with spaces and a sign is read by its words
tree_line_in-indent : (depth : ℕ) (s : List ℕ) → tree_line_in (indent depth ++ (codes "#" ++ s)) ≡ tree_line_with (depth_of (indent depth ++ (codes "#" ++ s))) (words_in (indent depth ++ (codes "#" ++ s)))
tree_line_in-indent zero s = refl
tree_line_in-indent (suc depth) s = refl

-- a line of the tree is read
pub tree_line_in-body : (line : TreeLine) → IsFineLine line → tree_line_in (tree_line_body line) ≡ Some line
tree_line_in-body line fine =
    let depth = depth_of-indent line.depth _ in
    let number = id_in-decimal line.number fine.number in
    let reservation = value_in-decimal line.reservation fine.reservation in
    let held = value_in-decimal line.held fine.held in
    let peak = value_in-decimal line.peak fine.peak in
    let limit = value_in-decimal line.limit fine.limit in
    tree_line_in-indent line.depth _ ∙ ap (tree_line_with (depth_of (tree_line_body line))) (words_in-tree_line line fine)
    ∙ (λ i. Some (record { depth = depth i; number = number i; name = line.name; reservation = reservation i; held = held i; peak = peak i; limit = limit i }))

-- no chunk is read of it
chunk_in-indent : (depth : ℕ) (s : List ℕ) → chunk_in (indent depth ++ (codes "#" ++ s)) ≡ None
chunk_in-indent zero s = refl
chunk_in-indent (suc depth) s = refl

pub chunk_in-tree_line : (line : TreeLine) → chunk_in (tree_line_body line) ≡ None
chunk_in-tree_line line = chunk_in-indent line.depth _

-- a ledger with numbers that fit
pub record IsFineLedger (ledger : Ledger) : Type 0 where
  pub at : ledger.at.0 < 2 ^ 32
  pub count : ledger.count < 2 ^ 64

-- the text of ledgers ends a word
ledgers_end : (ledgers : List Ledger) → EndsWord (flat_map ledger_text ledgers)
ledgers_end [] = tt
ledgers_end (ledger ∷ ledgers) = refl

-- the words of ledgers
ledgers_with-text : (ledgers : List Ledger) → AllByRecursion IsFineLedger ledgers → ledgers_with (words_in (flat_map ledger_text ledgers)) ≡ ledgers
ledgers_with-text [] fine = ap ledgers_with words_in-none
ledgers_with-text (ledger ∷ ledgers) fine =
    let rest = flat_map ledger_text ledgers in
    let at = id_in-decimal ledger.at fine.0.at in
    let count = value_in-decimal ledger.count fine.0.count in
    let more = ledgers_with-text ledgers fine.1 in
    let flat : flat_map ledger_text (ledger ∷ ledgers) ≡ codes " #" ++ (decimal ledger.at.0 ++ (codes ":" ++ (decimal ledger.count ++ rest))) = simp append_assoc in
    let words : words_in (flat_map ledger_text (ledger ∷ ledgers)) ≡ decimal ledger.at.0 ∷ decimal ledger.count ∷ words_in rest =
    ap words_in flat ∙ words_in-break 32 _ refl ∙ words_in-break 35 _ refl ∙ number_first ledger.at.0 _ (omega (arith, fine.0.at)) refl
    ∙ ap (λ words. decimal ledger.at.0 ∷ words) (words_in-break 58 _ refl ∙ number_first ledger.count rest fine.0.count (ledgers_end ledgers)) in
    ap ledgers_with words ∙ (λ i. record { at = at i; count = count i } ∷ more i)

-- one word alone is no ledger
pub ledgers_with-short : (words : List (List ℕ)) → length words < 2 → ledgers_with words ≡ []
ledgers_with-short [] short = refl
ledgers_with-short (one ∷ []) short = refl
ledgers_with-short (one ∷ other ∷ words) short = absurd (omega arith)

-- what is printed of a chunk, without its line feed
abbrev pub chunk_body : Chunk → List ℕ
chunk_body chunk =
    codes "chunk " ++ (decimal chunk.number ++ (codes " size " ++ (decimal chunk.size ++ (codes " owner " ++ (codes "#" ++ (decimal chunk.owner.0 ++ (codes " refs" ++ flat_map ledger_text chunk.ledgers)))))))

-- a chunk with numbers that fit
pub record IsFineChunk (chunk : Chunk) : Type 0 where
  pub number : chunk.number < 2 ^ 32
  pub size : chunk.size < 2 ^ 64
  pub owner : chunk.owner.0 < 2 ^ 32
  pub ledgers : AllByRecursion IsFineLedger chunk.ledgers

-- a word between two spaces
words_in-label : (label s : List ℕ) → IsWord label → words_in (codes " " ++ (label ++ (codes " " ++ s))) ≡ label ∷ words_in s
words_in-label label s is = words_in-break 32 _ refl ∙ words_in-word label (codes " " ++ s) is refl ∙ ap (λ words. label ∷ words) (words_in-break 32 s refl)

-- the words of a chunk
words_in-chunk : (chunk : Chunk) → IsFineChunk chunk
    → words_in (chunk_body chunk) ≡ codes "chunk" ∷ decimal chunk.number ∷ codes "size" ∷ decimal chunk.size ∷ codes "owner" ∷ decimal chunk.owner.0 ∷ codes "refs" ∷ words_in (flat_map ledger_text chunk.ledgers)
words_in-chunk chunk fine =
    words_in-word (codes "chunk") _ (IsWord-bytes _ _ refl) refl
    ∙ ap (λ words. codes "chunk" ∷ words) (words_in-break 32 _ refl ∙ number_first chunk.number _ (omega (arith, fine.number)) refl
    ∙ ap (λ words. decimal chunk.number ∷ words) (words_in-label (codes "size") _ (IsWord-bytes _ _ refl)
    ∙ ap (λ words. codes "size" ∷ words) (number_first chunk.size _ fine.size refl
    ∙ ap (λ words. decimal chunk.size ∷ words) (words_in-label (codes "owner") _ (IsWord-bytes _ _ refl)
    ∙ ap (λ words. codes "owner" ∷ words) (words_in-break 35 _ refl ∙ number_first chunk.owner.0 _ (omega (arith, fine.owner)) refl
    ∙ ap (λ words. decimal chunk.owner.0 ∷ words) (words_in-break 32 _ refl ∙ words_in-word (codes "refs") _ (IsWord-bytes _ _ refl) (ledgers_end chunk.ledgers)))))))

-- a chunk is read
pub chunk_in-body : (chunk : Chunk) → IsFineChunk chunk → chunk_in (chunk_body chunk) ≡ Some chunk
chunk_in-body chunk fine =
    let number = short_value_in-decimal chunk.number fine.number in
    let size = value_in-decimal chunk.size fine.size in
    let owner = id_in-decimal chunk.owner fine.owner in
    let ledgers = ledgers_with-text chunk.ledgers fine.ledgers in
    ap chunk_with (words_in-chunk chunk fine) ∙ (λ i. Some (record { number = number i; size = size i; owner = owner i; ledgers = ledgers i }))

-- no line of the tree is read of it
pub tree_line_in-chunk : (chunk : Chunk) → tree_line_in (chunk_body chunk) ≡ None
tree_line_in-chunk chunk = refl
