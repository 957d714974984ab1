-- What a call leaves of a tree, on rows.
use Rattle.std.proofs.Common.{◌≡◌, ℕ, ◌+◌, ◌≤◌, List, length, get_or, eqb, Option, Some, refl, sym, ap, subst, ◌∙◌}
use Rattle.std.proofs.lemmas.Bool.{eqb-true}
use Rattle.mem_num.specs.declared.buffer_ref.Ref.{Ref}
use Rattle.mem_model.specs.declared.charge.Charge.{Charge}
use Rattle.mem_model.specs.declared.tree_node.TreeNode.{TreeNode}
use Rattle.mem_model.specs.Balance.{Balances}
use Rattle.mem_model.specs.Charge.{charged_at}
use Rattle.mem_model.specs.Chunk.{Chunk, chunk_at}
use Rattle.mem_model.specs.Held.{counted_children}
use Rattle.mem_model.specs.LawfulChunk.{IsLawfulChunk}
use Rattle.mem_model.specs.LawfulState.{IsLawfulState}
use Rattle.mem_model.specs.Ledgers.{count_of}
use Rattle.mem_model.specs.MeasuredTree.{MeasuredTree, IsAfterCall, raised_peaks}
use Rattle.mem_model.specs.PeakSample.{PeakSample}
use Rattle.mem_model.specs.References.{referred_chunk}
use Rattle.mem_model.specs.TreeState.{TreeState, CallResult, unchanged, is_open}
use Rattle.mem_model.proofs.ReferenceLemmas.{found, referred_lawful, referred_number, referred_is_numbered}
use Rattle.alloc_tree.specs.declared.row.Row.{Row}
use Rattle.alloc_tree.specs.declared.solo_tree.SoloTree.TheInside.{Inside}
use Rattle.alloc_tree.specs.Fields.{IsSoundSolo, KeepsNumbers, state_of, tree_of}
use Rattle.alloc_tree.specs.Rows.{nodes_in, peaks_in, peaks_of}
use Rattle.alloc_tree.proofs.OpenLemmas.{peaks_of-at}

-- peaks by number, where samples raise those of the rows
peaks_raised : (old new : List (Option Row)) (samples : List PeakSample) → peaks_in new ≡ raised_peaks (peaks_in old) samples
    → (n : ℕ) → get_or (peaks_of new) n 0 ≡ raised_peaks (λ m. get_or (peaks_of old) m 0) samples n
peaks_raised old new samples is n =
    let before : peaks_in old ≡ (λ m. get_or (peaks_of old) m 0) = λ i m. sym (peaks_of-at old m) i in
    peaks_of-at new n ∙ ap (λ (f : ℕ → ℕ). f n) is ∙ ap (λ (f : ℕ → ℕ). raised_peaks f samples n) before

-- what a call leaves: a sound tree, its answer and its peaks
pub record IsDone {A : Type 0} (old : MeasuredTree) (call : CallResult A) (new : Inside) (answer : A) : Type 0 where
  pub sound : IsSoundSolo new
  pub told : answer ≡ call.answer
  pub after : IsAfterCall old call (tree_of new)

-- the tree that fields are, by its nodes and chunks
pub tree_is : (f : Inside) {nodes : List TreeNode} {chunks : List Chunk} → nodes_in f.rows ≡ nodes → f.chunks ≡ chunks
    → state_of f ≡ record { nodes = nodes; chunks = chunks; next = f.next; drawn = f.drawn }
tree_is f same_nodes same_chunks = λ i. record { nodes = same_nodes i; chunks = same_chunks i; next = f.next; drawn = f.drawn }

-- new fields that have the numbers of the tree that a call leaves
pub done : {A : Type 0} (f new : Inside) {call : CallResult A} {answer : A} {after : TreeState} {samples : List PeakSample}
    → call ≡ record { answer = answer; state = after; samples = samples } → state_of new ≡ after → length new.rows ≡ 64
    → IsLawfulState after → KeepsNumbers new.rows after → peaks_in new.rows ≡ raised_peaks (peaks_in f.rows) samples
    → IsDone (tree_of f) call new answer
done f new {samples = samples} is is_after places lawful numbers peaks = record {
  sound = record {
    lawful = subst IsLawfulState (sym is_after) lawful;
    numbers = subst (KeepsNumbers new.rows) (sym is_after) numbers;
    places = places;
  };
  told = sym (ap (λ c. c.answer) is);
  after = subst (λ c. IsAfterCall (tree_of f) c (tree_of new)) (sym is)
      (record { state = is_after; peaks = peaks_raised f.rows new.rows samples peaks });
}

-- the same of the tree that is seen
pub seen : {A : Type 0} {old tree : MeasuredTree} (call : TreeState → CallResult A) {new : Inside} {answer : A} → old ≡ tree
    → IsDone old (call old.state) new answer → IsDone tree (call tree.state) new answer
seen call {new = new} {answer = answer} view h = subst (λ (t : MeasuredTree). IsDone t (call t.state) new answer) view h

-- a tree that a call left as it was
pub record IsTold {A : Type 0} (tree : MeasuredTree) (call : CallResult A) (answer : A) : Type 0 where
  pub told : answer ≡ call.answer
  pub after : IsAfterCall tree call tree

pub unchanged_told : {A : Type 0} (tree : MeasuredTree) {call : CallResult A} {answer : A} → call ≡ unchanged tree.state answer
    → IsTold tree call answer
unchanged_told tree is = record {
  told = sym (ap (λ c. c.answer) is);
  after = subst (λ c. IsAfterCall tree c tree) (sym is) (record { state = refl; peaks = λ n. refl });
}

-- numbers that balance, where as much is charged everywhere
pub balance_same : (nodes : List TreeNode) (before after : List Charge) (old new : ℕ → ℕ) → Balances nodes before old
    → new ≡ old
    → ((n : ℕ) → charged_at after n ≡ charged_at before n) → Balances nodes after new
balance_same nodes before after old new balance held same =
    subst (Balances nodes after) (sym held) (λ n. balance n ∙ ap (λ (k : ℕ). k + counted_children old nodes n) (sym (same n)))

-- the chunk of a reference
pub record IsReferred (state : TreeState) (of : Ref) (chunk : Chunk) : Type 0 where
  pub found : referred_chunk state of ≡ Some chunk
  pub number : chunk.number ≡ of.chunk
  pub at_number : chunk_at state.chunks of.chunk ≡ Some chunk
  pub own : chunk_at state.chunks chunk.number ≡ Some chunk
  pub lawful : IsLawfulChunk (is_open state) chunk
  pub counted : 1 ≤ count_of chunk.ledgers of.alloc.0

pub referred : {state : TreeState} (of : Ref) (chunk : Chunk) → IsLawfulState state → referred_chunk state of ≡ Some chunk
    → IsReferred state of chunk
referred {state = state} of chunk lawful is =
    let both = referred_lawful state of chunk lawful is in
    let number = referred_number state of chunk lawful is in
    let at = referred_is_numbered state of chunk lawful is in
    record {
      found = is;
      number = number;
      at_number = at;
      own = ap (chunk_at state.chunks) number ∙ at;
      lawful = both.0;
      counted = both.1;
    }

-- a chunk that is found by its number is lawful, and has it
pub numbered_lawful : {state : TreeState} (n : ℕ) (chunk : Chunk) → IsLawfulState state → chunk_at state.chunks n ≡ Some chunk
    → IsLawfulChunk (is_open state) chunk × (chunk.number ≡ n)
numbered_lawful {state = state} n chunk lawful is =
    let both = found (IsLawfulChunk (is_open state)) (λ c. eqb c.number n) state.chunks chunk lawful.chunks is in
    (both.0, eqb-true chunk.number n both.1)
