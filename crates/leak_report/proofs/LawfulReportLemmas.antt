-- The report of a lawful tree is lawful: its open allocators are a tree, in which each holds the same.
use Rattle.std.proofs.Common.{◌≡◌, ℕ, zero, suc, ◌+◌, ◌<◌, List, [], ◌∷◌, ◌++◌, ◌==◌, map, filter, get_or, Bool, true, false, not, ◌&&◌, if◌then◌else◌, All, Any, refl, sym, ap, subst, ◌∙◌, arith, inl, inr}
use Rattle.std.specs.List.{list_any}
use Rattle.std.specs.Option.{ForSome}
use Rattle.std.proofs.lemmas.Bool.{cases_Bool, and_right, cond-true, not-true, not_from_false}
use Rattle.std.proofs.lemmas.List.Elements.{All-filter, All-map, filter_passes}
use Rattle.std.proofs.lemmas.List.Kept.{AllPairs-filter}
use Rattle.mem_num.specs.declared.alloc_id.AllocId.{AllocId}
use Rattle.mem_model.specs.declared.charge.Charge.{Charge}
use Rattle.mem_model.specs.declared.tree_node.TreeNode.{TreeNode}
use Rattle.mem_model.specs.Chunk.{charges_of}
use Rattle.mem_model.specs.Held.{held_of}
use Rattle.mem_model.specs.LawfulState.{IsLawfulState}
use Rattle.mem_model.specs.Reservation.{counted_at_parent}
use Rattle.mem_model.specs.TreeNode.{IsAllocatorTree, IsParentOf, HasParentUnlessRoot, is_open_child, is_number}
use Rattle.mem_model.specs.TreeState.{TreeState}
use Rattle.leak_report.specs.LawfulReport.{IsLawful, IsLawfulReport, IsPrintedName, printed_node, nodes_of}
use Rattle.leak_report.specs.PrintableTree.{IsPrintable}
use Rattle.leak_report.specs.Report.{PrintedAllocator, open_nodes, printed_allocator, printed_text, report_of}
use Rattle.leak_report.specs.ReportText.{chunks_text, report_text}
use Rattle.leak_report.proofs.PrintLemmas.{printed_nodes, tree_text-printed}
use Rattle.leak_report.proofs.PrintableLemmas.{NumbersFit-report_of, name_in-printed}

-- an open allocator is printed as the node that it is
node_of-printed : (names : List (List (List ℕ × AllocId))) (peaks : ℕ → ℕ) (state : TreeState) (e : TreeNode) → e.closed ≡ false → printed_node (printed_allocator names peaks state e) ≡ e
node_of-printed names peaks state e open_ =
    ap (λ (b : Bool). let node : TreeNode = record { number = e.number; parent = e.parent; reservation = e.reservation; limit = e.limit; closed = b } in node) (sym open_)

-- so are all
nodes_of-printed : (names : List (List (List ℕ × AllocId))) (peaks : ℕ → ℕ) (state : TreeState) (nodes : List TreeNode) → map printed_node (printed_nodes names peaks state nodes) ≡ open_nodes nodes
nodes_of-printed names peaks state [] = refl
nodes_of-printed names peaks state (e ∷ nodes) =
    let rest = nodes_of-printed names peaks state nodes in
    elim (cases_Bool (not e.closed)) [
      | inl open_ ↦ rw open_ (ap (λ x. x ∷ map printed_node (printed_nodes names peaks state nodes)) (node_of-printed names peaks state e (not-true e.closed open_)) ∙ ap (λ xs. e ∷ xs) rest)
      | inr closed ↦ rw closed rest
    ]

-- what is found among some passes a test that all such pass
Any-filter : {X : Type 0} (P : X → Type 0) (p : X → Bool) (xs : List X) → ((x : X) → P x → p x ≡ true) → Any P xs → Any P (filter p xs)
Any-filter P p [] passes h = absurd (omega (arith, h.2))
Any-filter P p (x ∷ xs) passes (zero, y, within, is, here) =
    let pass : p x ≡ true = passes x (subst P (sym is) here) in
    rw pass (0, y, omega arith, is, here)
Any-filter P p (x ∷ xs) passes (suc k, y, within, is, here) =
    let later = Any-filter P p xs passes (k, y, omega arith, is, here) in
    elim (cases_Bool (p x)) [
      | inl pass ↦ rw pass (suc later.0, later.1, omega (arith, later.2), later.3, later.4)
      | inr fail ↦ rw fail later
    ]

-- the open nodes of a tree are a tree
pub IsAllocatorTree-open : (nodes : List TreeNode) → IsAllocatorTree nodes → IsAllocatorTree (open_nodes nodes)
IsAllocatorTree-open nodes tree =
    let is_live : TreeNode → Bool = λ node. not node.closed in
    let HasParent : TreeNode → Type 0 = λ node. ForSome node.parent (λ _. Any (IsParentOf node) nodes) in
    record {
      ordered = AllPairs-filter (λ older newer. older.number.0 < newer.number.0) is_live nodes tree.ordered;
      root = All-filter is_live HasParentUnlessRoot nodes tree.root;
      parents = λ k d within p is.
          let e = get_or (open_nodes nodes) k d in
          let parents : All HasParent (open_nodes nodes) = All-filter is_live HasParent nodes tree.parents in
          let passes : All (λ x. is_live x ≡ true) (open_nodes nodes) = filter_passes is_live nodes in
          Any-filter (IsParentOf e) is_live nodes
          (λ x parent. not_from_false x.closed (parent.open_ (not-true e.closed (passes k d within)))) (parents k d within p is);
    }

-- and each holds the same
held_of-open : (nodes : List TreeNode) (charges : List Charge) (n : ℕ) → held_of (open_nodes nodes) charges n ≡ held_of nodes charges n
held_of-open [] charges n = refl
held_of-open (e ∷ nodes) charges n =
    let rest = held_of-open nodes charges n in
    let child = held_of-open nodes charges e.number.0 in
    elim (cases_Bool (not e.closed)) [
      | inl open_ ↦ ap (λ xs. held_of xs charges n) (cond-true (not e.closed) (e ∷ open_nodes nodes) (open_nodes nodes) open_)
          ∙ ap (λ held. (if is_open_child n e then counted_at_parent e.reservation held else 0) + held_of (open_nodes nodes) charges n) child
          ∙ ap (λ held. (if is_open_child n e then counted_at_parent e.reservation (held_of nodes charges e.number.0) else 0) + held) rest
      | inr closed ↦ (let none : is_open_child n e ≡ false = and_right (is_number n e.parent) (not e.closed) closed in rw (none, closed) (omega (arith, rest)))
    ]

-- what is printed is open
is_printed-open : (names : List (List (List ℕ × AllocId))) (peaks : ℕ → ℕ) (state : TreeState) (nodes : List TreeNode) (n : ℕ)
    → list_any (λ printed. printed.number.0 == n) (printed_nodes names peaks state nodes) ≡ list_any (λ node. (node.number.0 == n) && not node.closed) nodes
is_printed-open names peaks state [] n = refl
is_printed-open names peaks state (e ∷ nodes) n =
    let rest = is_printed-open names peaks state nodes n in
    elim (cases_Bool (not e.closed)) [
      | inl open_ ↦ elim (cases_Bool (e.number.0 == n)) [
        | inl here ↦ rw (open_, here) refl
        | inr other ↦ rw (open_, other) rest
      ]
      | inr closed ↦ rw (closed, and_right (e.number.0 == n) false refl) rest
    ]

-- the report of a lawful tree is lawful, where it is printed with names and numbers that fit
pub IsLawful-report_of : (names : List (List (List ℕ × AllocId))) (peaks : ℕ → ℕ) (state : TreeState) → IsLawfulState state → IsPrintable names peaks state → IsLawful (report_of names peaks state)
IsLawful-report_of names peaks state lawful printable =
    let report = report_of names peaks state in
    let nodes : nodes_of report ≡ open_nodes state.nodes = nodes_of-printed names peaks state state.nodes in
    let charges = charges_of state.chunks in
    record {
      names = All-map (λ (printed : PrintedAllocator). IsPrintedName printed.name) (printed_allocator names peaks state) (open_nodes state.nodes)
          (λ k d within. name_in-printed names (get_or (open_nodes state.nodes) k d).number.0 printable.well_formed);
      numbers = NumbersFit-report_of names peaks state lawful printable;
      tree = subst IsAllocatorTree (sym nodes) (IsAllocatorTree-open state.nodes lawful.tree);
      held = All-map (λ (printed : PrintedAllocator). printed.held ≡ held_of (nodes_of report) charges printed.number.0) (printed_allocator names peaks state) (open_nodes state.nodes)
          (λ k d within. let n = (get_or (open_nodes state.nodes) k d).number.0 in sym (ap (λ xs. held_of xs charges n) nodes ∙ held_of-open state.nodes charges n));
      in_order = lawful.in_order;
      chunks = λ k d within. let chunk = lawful.chunks k d within in record {
        some = chunk.some;
        some_bytes = chunk.some_bytes;
        few_bytes = chunk.few_bytes;
        in_order = chunk.in_order;
        owner = chunk.owner;
        open_ = λ i e inside. is_printed-open names peaks state state.nodes (get_or (get_or state.chunks k d).ledgers i e).at.0 ∙ chunk.open_ i e inside;
      };
      references = refl;
    }

-- the text of a tree is that of its report
pub report_text-printed : (names : List (List (List ℕ × AllocId))) (peaks : ℕ → ℕ) (state : TreeState) → IsAllocatorTree state.nodes → report_text names peaks state ≡ printed_text (report_of names peaks state)
report_text-printed names peaks state tree = ap (λ xs. xs ++ chunks_text state.chunks) (tree_text-printed names peaks state tree)

-- so what its text says is lawful
pub IsLawfulReport-report_text : (names : List (List (List ℕ × AllocId))) (peaks : ℕ → ℕ) (state : TreeState) → IsLawfulState state → IsPrintable names peaks state → IsLawfulReport (report_text names peaks state)
IsLawfulReport-report_text names peaks state lawful printable =
    (report_of names peaks state, IsLawful-report_of names peaks state lawful printable, report_text-printed names peaks state lawful.tree)
