-- The lines of a tree tell whose child each allocator is: the parent's line is the last one before that is one level higher.
use Rattle.std.proofs.Common.{◌≡◌, ℕ, ◌+◌, ◌≤◌, ◌==◌, List, [], ◌∷◌, ◌++◌, true, false, if◌then◌else◌, fold, Option, Some, None, is_none, refl, sym, ap, ◌∙◌, arith, inl, inr}
use Rattle.std.proofs.lemmas.Bool.{cases_Bool, eqb-true, eq-eqb, ne_eqb, cond-true, cond-false, true≢false}
use Rattle.std.proofs.lemmas.List.Sums.{fold-append}
use Rattle.mem_num.specs.declared.alloc_id.AllocId.{AllocId}
use Rattle.mem_model.specs.TreeNode.{is_number}
use Rattle.leak_report.specs.ReadReport.{allocator_of_line, parent_after, with_allocator, with_lines}
use Rattle.leak_report.specs.Report.{PrintedAllocator, TreeLine, tree_line_of, tree_lines_of, has_parent}

-- the allocators with this parent, each with those below it, in the order of their lines
abbrev pub in_line_order : List PrintedAllocator → Option AllocId → List PrintedAllocator
in_line_order [] parent = []
in_line_order (printed ∷ later) parent =
    (if has_parent parent printed then printed ∷ in_line_order later (Some printed.number) else []) ++ in_line_order later parent

-- the parent of a line at each depth, once a line was read
abbrev with_level : (ℕ → Option AllocId) → TreeLine → ℕ → Option AllocId
with_level levels line depth = if depth == line.depth + 1 then Some line.number else levels depth

-- and once some lines were read
abbrev levels_after : (ℕ → Option AllocId) → List TreeLine → ℕ → Option AllocId
levels_after levels [] = levels
levels_after levels (line ∷ lines) = levels_after (with_level levels line) lines

-- the allocators of some lines, by the parent at each depth
abbrev read_parents : (ℕ → Option AllocId) → List TreeLine → List PrintedAllocator
read_parents levels [] = []
read_parents levels (line ∷ lines) = allocator_of_line line (levels line.depth) ∷ read_parents (with_level levels line) lines

-- the levels after two lists of lines
levels_after-append : (levels : ℕ → Option AllocId) (xs ys : List TreeLine) → levels_after levels (xs ++ ys) ≡ levels_after (levels_after levels xs) ys
levels_after-append levels [] ys = refl
levels_after-append levels (x ∷ xs) ys = levels_after-append (with_level levels x) xs ys

-- and their allocators
read_parents-append : (levels : ℕ → Option AllocId) (xs ys : List TreeLine) → read_parents levels (xs ++ ys) ≡ read_parents levels xs ++ read_parents (levels_after levels xs) ys
read_parents-append levels [] ys = refl
read_parents-append levels (x ∷ xs) ys = ap (λ zs. allocator_of_line x (levels x.depth) ∷ zs) (read_parents-append (with_level levels x) xs ys)

-- the lines of a child, of those below it, and of the others
tree_lines_of-child : (x : PrintedAllocator) (later : List PrintedAllocator) (depth : ℕ) (parent : Option AllocId) → has_parent parent x ≡ true
    → tree_lines_of (x ∷ later) depth parent ≡ tree_line_of depth x ∷ (tree_lines_of later (depth + 1) (Some x.number) ++ tree_lines_of later depth parent)
tree_lines_of-child x later depth parent child = rw child refl

-- another has no lines here
tree_lines_of-other : (x : PrintedAllocator) (later : List PrintedAllocator) (depth : ℕ) (parent : Option AllocId) → has_parent parent x ≡ false → tree_lines_of (x ∷ later) depth parent ≡ tree_lines_of later depth parent
tree_lines_of-other x later depth parent other = rw other refl

-- lines from a depth on leave the levels down to it
levels_kept : (xs : List PrintedAllocator) (depth : ℕ) (parent : Option AllocId) (levels : ℕ → Option AllocId) (k : ℕ) → k ≤ depth → levels_after levels (tree_lines_of xs depth parent) k ≡ levels k
levels_kept [] depth parent levels k high = refl
levels_kept (x ∷ later) depth parent levels k high = elim (cases_Bool (has_parent parent x)) [
  | inl child ↦ (
      let first = with_level levels (tree_line_of depth x) in
      let below = tree_lines_of later (depth + 1) (Some x.number) in
      let apart : (k == depth + 1) ≡ false = ne_eqb k (depth + 1) (λ same. omega arith) in
      ap (λ lines. levels_after levels lines k) (tree_lines_of-child x later depth parent child)
      ∙ ap (λ (f : ℕ → Option AllocId). f k) (levels_after-append first below (tree_lines_of later depth parent))
      ∙ levels_kept later depth parent (levels_after first below) k high
      ∙ levels_kept later (depth + 1) (Some x.number) first k (omega arith)
      ∙ cond-false (k == depth + 1) (Some x.number) (levels k) apart)
  | inr other ↦ ap (λ lines. levels_after levels lines k) (tree_lines_of-other x later depth parent other) ∙ levels_kept later depth parent levels k high
]

-- a test for a parent tells it
number_is : (parent : AllocId) (told : Option AllocId) → is_number parent.0 told ≡ true → told ≡ Some parent
number_is parent None is = absurd (true≢false (sym is))
number_is parent (Some p) is = (let same : p.0 ≡ parent.0 = eqb-true p.0 parent.0 is in λ i. Some (record { 0 = same i }))

-- a test for none tells it
none_is : (told : Option AllocId) → is_none told ≡ true → told ≡ None
none_is None is = refl
none_is (Some p) is = absurd (true≢false (sym is))

-- an allocator that passes the test for a parent has it
parent_is : (parent : Option AllocId) (x : PrintedAllocator) → has_parent parent x ≡ true → x.parent ≡ parent
parent_is None x child = none_is x.parent child
parent_is (Some parent) x child = number_is parent x.parent child

-- the lines tell the allocators in their order
pub read_parents-lines_of : (xs : List PrintedAllocator) (depth : ℕ) (parent : Option AllocId) (levels : ℕ → Option AllocId) → levels depth ≡ parent → read_parents levels (tree_lines_of xs depth parent) ≡ in_line_order xs parent
read_parents-lines_of [] depth parent levels here = refl
read_parents-lines_of (x ∷ later) depth parent levels here = elim (cases_Bool (has_parent parent x)) [
  | inl child ↦ (
      let first = with_level levels (tree_line_of depth x) in
      let below = tree_lines_of later (depth + 1) (Some x.number) in
      let others = tree_lines_of later depth parent in
      let named : x.parent ≡ parent = parent_is parent x child in
      let same : allocator_of_line (tree_line_of depth x) (levels depth) ≡ x = ap (allocator_of_line (tree_line_of depth x)) (here ∙ sym named) in
      let deeper : read_parents first below ≡ in_line_order later (Some x.number) =
      read_parents-lines_of later (depth + 1) (Some x.number) first (cond-true (depth + 1 == depth + 1) (Some x.number) (levels (depth + 1)) (eq-eqb (depth + 1) (depth + 1) refl)) in
      let apart : (depth == depth + 1) ≡ false = ne_eqb depth (depth + 1) (λ e. omega arith) in
      let still : levels_after first below depth ≡ parent =
      levels_kept later (depth + 1) (Some x.number) first depth (omega arith) ∙ cond-false (depth == depth + 1) (Some x.number) (levels depth) apart ∙ here in
      let rest : read_parents (levels_after first below) others ≡ in_line_order later parent = read_parents-lines_of later depth parent (levels_after first below) still in
      let ordered : in_line_order (x ∷ later) parent ≡ x ∷ (in_line_order later (Some x.number) ++ in_line_order later parent) = rw child refl in
      ap (read_parents levels) (tree_lines_of-child x later depth parent child)
      ∙ ap (λ zs. allocator_of_line (tree_line_of depth x) (levels depth) ∷ zs) (read_parents-append first below others)
      ∙ (λ i. same i ∷ (deeper i ++ rest i))
      ∙ sym ordered)
  | inr other ↦ (
      let ordered : in_line_order (x ∷ later) parent ≡ in_line_order later parent = rw other refl in
      ap (read_parents levels) (tree_lines_of-other x later depth parent other) ∙ read_parents-lines_of later depth parent levels here ∙ sym ordered)
]

-- a line more is the parent of lines one level deeper
parent_after-more : (levels : List (ℕ × AllocId)) (line : TreeLine) (depth : ℕ) → parent_after (levels ++ (line.depth, line.number) ∷ []) depth ≡ with_level (parent_after levels) line depth
parent_after-more levels line depth =
    fold-append (λ (parent : Option AllocId) (level : ℕ × AllocId). if depth == level.0 + 1 then Some level.1 else parent) None levels ((line.depth, line.number) ∷ [])

-- the allocators of some lines are added one by one
with_lines-read : (levels : List (ℕ × AllocId)) (allocators : List PrintedAllocator) (lines : List TreeLine)
    → with_lines levels allocators lines ≡ fold with_allocator allocators (read_parents (parent_after levels) lines)
with_lines-read levels allocators [] = refl
with_lines-read levels allocators (line ∷ lines) =
    let more : parent_after (levels ++ (line.depth, line.number) ∷ []) ≡ with_level (parent_after levels) line = λ i depth. parent_after-more levels line depth i in
    let added = with_allocator allocators (allocator_of_line line (parent_after levels line.depth)) in
    with_lines-read (levels ++ (line.depth, line.number) ∷ []) added lines ∙ ap (λ f. fold with_allocator added (read_parents f lines)) more

-- so the lines of allocators are read as these, added one by one
pub with_lines-lines_of : (xs : List PrintedAllocator) → with_lines [] [] (tree_lines_of xs 0 None) ≡ fold with_allocator [] (in_line_order xs None)
with_lines-lines_of xs = with_lines-read [] [] (tree_lines_of xs 0 None) ∙ ap (fold with_allocator []) (read_parents-lines_of xs 0 None (parent_after []) refl)
