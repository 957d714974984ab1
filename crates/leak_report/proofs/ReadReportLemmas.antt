-- A lawful report is read back from its text, so no two have the same.
use Rattle.std.proofs.Common.{◌≡◌, ℕ, ◌+◌, ◌-◌, ◌<◌, ◌≤◌, ◌^◌, ◌==◌, List, [], ◌∷◌, ◌++◌, take, drop, length, Bool, true, false, get_or, All, Option, None, Some, nat_lt, append_assoc, refl, sym, ap, subst, ◌∙◌, arith, inl, inr}
use Rattle.std.specs.List.{filter_map, flat_map, list_any, AllByRecursion}
use Rattle.std.proofs.lemmas.List.Concat.{flat_map-append}
use Rattle.std.proofs.lemmas.Bool.{cases_Bool, eqb-true}
use Rattle.std.proofs.lemmas.Bool.Decides.{nat_tests}
use Rattle.std.proofs.lemmas.List.Elements.{All-head, All-tail, recursion_from_All}
use Rattle.std.proofs.lemmas.List.Sums.{sum_by-cons}
use Rattle.mem_num.specs.declared.alloc_id.AllocId.{AllocId}
use Rattle.mem_model.specs.declared.ledger.Ledger.{Ledger}
use Rattle.mem_model.specs.Chunk.{Chunk, references_of}
use Rattle.mem_model.specs.Ledgers.{count_at, count_of}
use Rattle.leak_report.specs.LawfulReport.{AllocatorFits, IsLawful, IsLawfulReport, IsPrintedName, is_printed}
use Rattle.leak_report.specs.ReadReport.{chunk_in, lines_in, read_report, report_with, tree_line_in, with_lines}
use Rattle.leak_report.specs.Report.{PrintedAllocator, Report, has_parent, head_of, tree_line_of, tree_lines_of, lines_text, printed_text, tail_of, tree_line_text}
use Rattle.leak_report.specs.TreeText.{indent}
use Rattle.leak_report.proofs.FrontLemmas.{front_rest}
use Rattle.leak_report.proofs.LineLemmas.{IsFineChunk, IsFineLedger, IsFineLine}
use Rattle.leak_report.proofs.SameListLemmas.{with_lines-tree}
use Rattle.leak_report.proofs.TextLinesLemmas.{chunks_read, lines_in-report, tree_lines_read}

-- facts of all in both are facts of all in one behind the other
by_recursion-append : {A : Type 0} (P : A → Type 0) (xs ys : List A) → AllByRecursion P xs → AllByRecursion P ys → AllByRecursion P (xs ++ ys)
by_recursion-append P [] ys first second = second
by_recursion-append P (x ∷ xs) ys first second = (first.0, by_recursion-append P xs ys first.1 second)

-- an allocator with a name and with numbers that fit
record IsFine (printed : PrintedAllocator) : Type 0 where
  name : IsPrintedName printed.name
  fits : AllocatorFits printed

-- its line is fine
fine_line : (depth : ℕ) (x : PrintedAllocator) → IsFine x → IsFineLine (tree_line_of depth x)
fine_line depth x fine =
    record { number = fine.fits.number; name = fine.name; reservation = fine.fits.reservation; held = fine.fits.held; peak = fine.fits.peak; limit = fine.fits.limit }

-- so are the lines of all
fine_lines : (xs : List PrintedAllocator) (depth : ℕ) (parent : Option AllocId) → All IsFine xs → AllByRecursion IsFineLine (tree_lines_of xs depth parent)
fine_lines [] depth parent fine = tt
fine_lines (x ∷ later) depth parent fine =
    let behind = All-tail IsFine x later fine in
    let rest = fine_lines later depth parent behind in
    elim (cases_Bool (has_parent parent x)) [
      | inl child ↦ rw child (
        fine_line depth x (All-head IsFine x later fine),
        by_recursion-append IsFineLine (tree_lines_of later (depth + 1) (Some x.number)) (tree_lines_of later depth parent) (fine_lines later (depth + 1) (Some x.number) behind) rest,
      )
      | inr other ↦ rw other rest
    ]

-- the number of a printed allocator fits
printed_fits : (xs : List PrintedAllocator) (n : ℕ) → All AllocatorFits xs → list_any (λ printed. printed.number.0 == n) xs ≡ true → n < 2 ^ 32
printed_fits [] n fits printed = absurd cc
printed_fits (x ∷ xs) n fits printed = elim (cases_Bool (x.number.0 == n)) [
  | inl here ↦ (let same : x.number.0 ≡ n = eqb-true x.number.0 n here in let fit = All-head AllocatorFits x xs fits in omega (arith, fit.number))
  | inr other ↦ printed_fits xs n (All-tail AllocatorFits x xs fits) (rw other at printed)
]

-- whoever has a count is open, where each ledger's allocator is
counted_open : (is_open : ℕ → Bool) (ledgers : List Ledger) (n : ℕ) → All (λ ledger. is_open ledger.at.0 ≡ true) ledgers → 1 ≤ count_of ledgers n → is_open n ≡ true
counted_open is_open [] n open_ some = absurd (omega arith)
counted_open is_open (ledger ∷ ledgers) n open_ some = elim (cases_Bool (ledger.at.0 == n)) [
  | inl here ↦ (let P : ℕ → Type 0 = λ m. is_open m ≡ true in
      subst P (eqb-true ledger.at.0 n here) (All-head (λ (l : Ledger). is_open l.at.0 ≡ true) ledger ledgers open_))
  | inr other ↦ (
      let nothing : count_at n ledger ≡ 0 = rw other refl in
      counted_open is_open ledgers n (All-tail (λ (l : Ledger). is_open l.at.0 ≡ true) ledger ledgers open_) (omega (arith, some, sum_by-cons (count_at n) ledger ledgers)))
]

-- the chunks of a lawful report are fine
fine_chunks : (report : Report) → IsLawful report → All IsFineChunk report.chunks
fine_chunks report lawful k d within =
    let chunk = get_or report.chunks k d in
    let line = lawful.chunks k d within in
    let allocators = lawful.numbers.allocators in
    let ledgers : All IsFineLedger chunk.ledgers = λ i e inside. record {
      at = printed_fits report.allocators (get_or chunk.ledgers i e).at.0 allocators (line.open_ i e inside);
      count = lawful.numbers.counts k d within i e inside;
    } in
    record {
      number = lawful.numbers.chunks k d within;
      size = omega (arith, line.few_bytes);
      owner = printed_fits report.allocators chunk.owner.0 allocators (counted_open (is_printed report) chunk.ledgers chunk.owner.0 line.open_ line.owner);
      ledgers = recursion_from_All IsFineLedger chunk.ledgers ledgers;
    }

-- a lawful report is read back
pub read_report-lawful : (report : Report) → IsLawful report → read_report (printed_text report) ≡ report
read_report-lawful report lawful =
    let lines = tree_lines_of report.allocators 0 None in
    let fine = fine_lines report.allocators 0 None (λ k d within. record { name = lawful.names k d within; fits = lawful.numbers.allocators k d within }) in
    let fine' = recursion_from_All IsFineChunk report.chunks (fine_chunks report lawful) in
    let text = lines_in-report lines report.chunks report.references fine fine' lawful.numbers.references in
    let read = ap (filter_map tree_line_in) text ∙ tree_lines_read lines report.chunks report.references fine in
    let allocators : with_lines [] [] (filter_map tree_line_in (lines_in (printed_text report))) ≡ report.allocators = ap (with_lines [] []) read ∙ with_lines-tree report.allocators lawful.tree in
    let chunks : filter_map chunk_in (lines_in (printed_text report)) ≡ report.chunks = ap (filter_map chunk_in) text ∙ chunks_read lines report.chunks report.references fine' in
    let references = ap references_of chunks ∙ sym lawful.references in
    λ i. record { allocators = allocators i; chunks = chunks i; references = references i }

-- so no two have the same text
pub same_report : (one other : Report) → IsLawful one → IsLawful other → printed_text one ≡ printed_text other → one ≡ other
same_report one other lawful lawful' same = sym (read_report-lawful one lawful) ∙ ap read_report same ∙ read_report-lawful other lawful'

-- the lines of allocators as text, one by one
pub lines_text-tree_lines_of : (xs : List PrintedAllocator) (depth : ℕ) (parent : Option AllocId) → lines_text xs depth parent ≡ flat_map tree_line_text (tree_lines_of xs depth parent)
lines_text-tree_lines_of [] depth parent = refl
lines_text-tree_lines_of (x ∷ later) depth parent =
    let rest = lines_text-tree_lines_of later depth parent in
    let below = lines_text-tree_lines_of later (depth + 1) (Some x.number) in
    elim (cases_Bool (has_parent parent x)) [
      | inl child ↦ rw child (
          (λ i. (tree_line_text (tree_line_of depth x) ++ below i) ++ rest i)
          ∙ sym (flat_map-append tree_line_text (tree_line_of depth x ∷ tree_lines_of later (depth + 1) (Some x.number)) (tree_lines_of later depth parent)))
      | inr other ↦ rw other rest
    ]

-- the pieces of a line, one behind the other
pub line_joined : (depth : ℕ) (printed : PrintedAllocator) (before one two three four : List ℕ) → one ≡ before ++ indent depth → two ≡ one ++ head_of printed → three ≡ two ++ printed.name → four ≡ three ++ tail_of printed
    → four ≡ before ++ tree_line_text (tree_line_of depth printed)
line_joined depth printed before one two three four first second third fourth =
    fourth ∙ ap (λ xs. xs ++ tail_of printed) (third ∙ ap (λ xs. xs ++ printed.name) (second ∙ ap (λ xs. xs ++ head_of printed) first)) ∙ simp append_assoc

-- a test that there is some is passed where there is
pub some_counted : (n : ℕ) → nat_lt 0 n ≡ true → 1 ≤ n
some_counted n passed = grind (arith, nat_tests)

-- the lines of a child, of those below it, and of the others, one behind the other
pub child_joined : (xs : List PrintedAllocator) (x : PrintedAllocator) (depth : ℕ) (parent : Option AllocId) (number : AllocId) (before one two three : List ℕ) → x ≡ get_or xs 0 x → 1 ≤ length xs
    → true ≡ has_parent parent x → number ≡ x.number → one ≡ before ++ tree_line_text (tree_line_of depth x) → two ≡ one ++ lines_text (take (length xs - 1) (drop 1 xs)) (depth + 1) (Some number)
    → three ≡ two ++ lines_text (take (length xs - 1) (drop 1 xs)) depth parent → three ≡ before ++ lines_text xs depth parent
child_joined xs x depth parent number before one two three is some child named first second third =
    let later = take (length xs - 1) (drop 1 xs) in
    let whole : lines_text (x ∷ later) depth parent ≡ (tree_line_text (tree_line_of depth x) ++ lines_text later (depth + 1) (Some x.number)) ++ lines_text later depth parent = rw (sym child) refl in
    third ∙ ap (λ ys. ys ++ lines_text later depth parent) (second ∙ (λ i. first i ++ lines_text later (depth + 1) (Some (named i))))
    ∙ append_assoc (before ++ tree_line_text (tree_line_of depth x)) (lines_text later (depth + 1) (Some x.number)) (lines_text later depth parent)
    ∙ append_assoc before (tree_line_text (tree_line_of depth x)) (lines_text later (depth + 1) (Some x.number) ++ lines_text later depth parent)
    ∙ ap (λ ys. before ++ ys) (sym (append_assoc (tree_line_text (tree_line_of depth x)) (lines_text later (depth + 1) (Some x.number)) (lines_text later depth parent))
    ∙ sym whole ∙ ap (λ ys. lines_text ys depth parent) (sym (front_rest xs x is some)))

-- another has no lines here
pub other_joined : (xs : List PrintedAllocator) (x : PrintedAllocator) (depth : ℕ) (parent : Option AllocId) (before after : List ℕ) → x ≡ get_or xs 0 x → 1 ≤ length xs
    → false ≡ has_parent parent x → after ≡ before ++ lines_text (take (length xs - 1) (drop 1 xs)) depth parent → after ≡ before ++ lines_text xs depth parent
other_joined xs x depth parent before after is some other rest =
    let later = take (length xs - 1) (drop 1 xs) in
    let whole : lines_text (x ∷ later) depth parent ≡ lines_text later depth parent = rw (sym other) refl in
    rest ∙ ap (λ ys. before ++ ys) (sym whole ∙ ap (λ ys. lines_text ys depth parent) (sym (front_rest xs x is some)))

-- a lawful text is that of the lawful report that it is read as
pub read-lawful : (text : List ℕ) (allocators : List PrintedAllocator) (chunks : List Chunk) → report_with allocators chunks ≡ read_report text → IsLawfulReport text
    → IsLawful (report_with allocators chunks) × (printed_text (report_with allocators chunks) ≡ text)
read-lawful text allocators chunks read (report, lawful, is) =
    let same : report_with allocators chunks ≡ report = read ∙ ap read_report is ∙ read_report-lawful report lawful in
    (subst IsLawful (sym same) lawful, ap printed_text same ∙ sym is)
