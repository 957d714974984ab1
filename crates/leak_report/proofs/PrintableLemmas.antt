-- A lawful tree is printed with names that are names and with numbers that fit.
use Rattle.std.proofs.Common.{◌≡◌, ℕ, ◌-◌, ◌<◌, ◌≤◌, ◌^◌, ◌==◌, List, [], ◌∷◌, map, get_or, take, drop, length, true, not, All, refl, subst, sym, arith, inl, inr}
use Rattle.std.specs.Option.{unwrap_or}
use Rattle.std.proofs.lemmas.Bool.{cases_Bool}
use Rattle.std.proofs.lemmas.List.Elements.{All-cons, All-filter, All-head, All-map, All-tail}
use Rattle.std.proofs.lemmas.List.Sums.{get_or-le-sum_by, sum_by-le}
use Rattle.mem_num.specs.declared.alloc_id.AllocId.{AllocId}
use Rattle.mem_model.specs.declared.ledger.Ledger.{Ledger}
use Rattle.mem_model.specs.declared.tree_node.TreeNode.{TreeNode}
use Rattle.mem_model.specs.Chunk.{Chunk}
use Rattle.mem_model.specs.Ledgers.{total_of}
use Rattle.mem_model.specs.LawfulState.{IsLawfulState}
use Rattle.mem_model.specs.TreeState.{TreeState, charges_in}
use Rattle.mem_model.proofs.BoundLemmas.{held_of_bound}
use Rattle.mem_model.proofs.LawfulBoundLemmas.{all_of-lawful, chunks_few}
use Rattle.alloc_tree.specs.Names.{NamesState, name_of, AreNames}
use Rattle.mem_num.specs.Name.{is_name}
use Rattle.leak_report.specs.LawfulReport.{AllocatorFits, IsPrintedName, NumbersFit}
use Rattle.leak_report.specs.PrintableTree.{IsPrintable}
use Rattle.leak_report.specs.Report.{open_nodes, printed_allocator, report_of}
use Rattle.leak_report.specs.TreeText.{name_in}
use Rattle.leak_report.proofs.FrontLemmas.{front_rest}

-- what an allocator is called is a name, where all bound names are, and where what stands for one is printed too
name_of-printed : (bindings : List (List ℕ × AllocId)) (n : ℕ) (other : List ℕ) → AreNames bindings → IsPrintedName other → IsPrintedName (unwrap_or (name_of bindings n) other)
name_of-printed [] n other are is = is
name_of-printed (binding ∷ bindings) n other are is = elim (cases_Bool (binding.1.0 == n)) [
  | inl here ↦ rw here (inl (All-head (λ (b : List ℕ × AllocId). is_name b.0 ≡ true) binding bindings are))
  | inr elsewhere ↦ rw elsewhere (name_of-printed bindings n other (All-tail (λ (b : List ℕ × AllocId). is_name b.0 ≡ true) binding bindings are) is)
]

-- so each allocator has a name, or what stands for one
pub name_in-printed : (names : List (List (List ℕ × AllocId))) (n : ℕ) → All AreNames names → IsPrintedName (name_in names n)
name_in-printed [] n are = inr refl
name_in-printed (bindings ∷ names) n are =
    name_of-printed bindings n (name_in names n) (All-head AreNames bindings names are) (name_in-printed names n (All-tail AreNames bindings names are))

-- the numbers of an allocator fit
allocator_fits : (names : List (List (List ℕ × AllocId))) (peaks : ℕ → ℕ) (state : TreeState) → IsLawfulState state → IsPrintable names peaks state
    → All (λ node. AllocatorFits (printed_allocator names peaks state node)) state.nodes
allocator_fits names peaks state lawful printable k d within =
    let node = get_or state.nodes k d in
    let bounds = lawful.nodes k d within in
    record {
      number = omega (arith, bounds.few);
      reservation = omega (arith, bounds.small);
      held = omega (arith, held_of_bound state.nodes (charges_in state) node.number.0 lawful.tree, all_of-lawful state lawful printable.drawn);
      peak = printable.peaks_fit k d within;
      limit = omega (arith, bounds.limited);
    }

-- a ledger counts no more than all do
count_fits : (ledgers : List Ledger) → total_of ledgers < 2 ^ 64 → All (λ ledger. ledger.count < 2 ^ 64) ledgers
count_fits ledgers few k d within = omega (arith, get_or-le-sum_by (λ (ledger : Ledger). ledger.count) ledgers k d within, few)

-- so do all numbers
pub NumbersFit-report_of : (names : List (List (List ℕ × AllocId))) (peaks : ℕ → ℕ) (state : TreeState) → IsLawfulState state → IsPrintable names peaks state → NumbersFit (report_of names peaks state)
NumbersFit-report_of names peaks state lawful printable =
    let total = sum_by-le (λ (chunk : Chunk). total_of chunk.ledgers) (2 ^ 64) state.chunks (λ k d within. let few : total_of (get_or state.chunks k d).ledgers < 2 ^ 64 = printable.references_fit k d within in omega arith) in
    record {
      allocators = All-map AllocatorFits (printed_allocator names peaks state) (open_nodes state.nodes)
          (All-filter (λ (node : TreeNode). not node.closed) (λ node. AllocatorFits (printed_allocator names peaks state node)) state.nodes (allocator_fits names peaks state lawful printable));
      chunks = λ k d within. omega (arith, lawful.given k d within, printable.drawn);
      counts = λ k d within. count_fits (get_or state.chunks k d).ledgers (printable.references_fit k d within);
      references = omega (arith, total, chunks_few state lawful, printable.drawn);
    }

-- bound names are names where those of the first are, and those of the others
pub are_names-more : (names : List NamesState) (first : NamesState) → first ≡ get_or names 0 first → 1 ≤ length names → AreNames first.bindings
    → All AreNames (map (λ n. n.bindings) (take (length names - 1) (drop 1 names))) → All AreNames (map (λ n. n.bindings) names)
are_names-more names first is some here later =
    let P : List NamesState → Type 0 = λ names. All AreNames (map (λ n. n.bindings) names) in
    let rest = take (length names - 1) (drop 1 names) in
    subst P (sym (front_rest names first is some)) (All-cons AreNames first.bindings (map (λ n. n.bindings) rest) here later)
