-- Each step of a tree keeps the law of its state.
use Rattle.std.proofs.Common.{◌≡◌, ℕ, Bool, ◌+◌, ◌<◌, ◌≤◌, List, [], ◌∷◌, ◌++◌, get_or, true, not, ◌==◌, refl, sym, ap, subst, ◌∙◌, arith, Some, All, Any}
use Rattle.std.specs.List.{list_any}
use Rattle.std.specs.Option.{ForSome}
use Rattle.std.proofs.lemmas.List.Elements.{All-nil, All-cons, All-push, All-weaker, All-filter}
use Rattle.std.proofs.lemmas.List.Folds.{Any-from_list_any, list_any-from_Any}
use Rattle.std.proofs.lemmas.List.Kept.{AllPairs-filter}
use Rattle.std.proofs.lemmas.List.Quantifiers.{all_pairs_push}
use Rattle.mem_num.specs.declared.bounds.TheConstants.{LARGEST, MAX_LIMIT, MAX_RESERVATION, MOST_ALLOCATORS}
use Rattle.mem_num.specs.declared.alloc_id.AllocId.{AllocId}
use Rattle.mem_model.specs.declared.ledger.Ledger.{Ledger}
use Rattle.mem_model.specs.Chunk.{Chunk, new_chunk}
use Rattle.mem_model.specs.Ledgers.{AreInOrder}
use Rattle.mem_model.specs.declared.tree_node.TreeNode.{TreeNode}
use Rattle.mem_model.specs.TreeNode.{IsParentOf, HasParentUnlessRoot, IsAllocatorTree}
use Rattle.mem_model.specs.TreeState.{TreeState, root_node, opened, is_open}
use Rattle.mem_model.specs.Child.{child_node}
use Rattle.mem_model.specs.Release.{without_chunk}
use Rattle.mem_model.specs.LawfulChunk.{IsLawfulChunk}
use Rattle.mem_model.specs.LawfulState.{IsWithinBounds, IsLawfulState}
use Rattle.mem_model.proofs.OpenLemmas.{is_open_at, open_parts, same_id, Any-more}
use Rattle.mem_model.proofs.ReferenceLemmas.{ledger-counted}

-- a tree with its root alone is lawful
pub opened_lawful : (limit : ℕ) → limit ≤ MAX_LIMIT → IsLawfulState (opened limit)
opened_lawful limit limited =
    let root = root_node limit in
    record {
      tree = record {
        ordered = all_pairs_push (λ (older newer : TreeNode). older.number.0 < newer.number.0) [] root (λ i j d lt within. absurd (omega arith)) (λ k d within. absurd (omega arith));
        root = All-cons HasParentUnlessRoot root [] (λ _. refl, λ _. refl) (All-nil HasParentUnlessRoot);
        parents = All-cons (λ node. ForSome node.parent (λ _. Any (IsParentOf node) (root ∷ []))) root [] (λ p is. absurd cc) (All-nil (λ node. ForSome node.parent (λ _. Any (IsParentOf node) (root ∷ []))));
      };
      nodes = All-cons (IsWithinBounds 1) root [] (record { given = omega arith; few = omega arith; reserves = omega arith; small = omega arith; limited = limited; root = λ _. refl }) (All-nil (IsWithinBounds 1));
      in_order = λ i j d lt within. absurd (omega arith);
      chunks = All-nil (IsLawfulChunk (is_open (opened limit)));
      given = All-nil (λ (chunk : Chunk). chunk.number ≤ 0);
    }

-- a lawful chunk stays lawful where whoever refers to it stays open
pub lawful_after : (before after : ℕ → Bool) (chunk : Chunk) → IsLawfulChunk before chunk → All (λ ledger. after ledger.at.0 ≡ true) chunk.ledgers → IsLawfulChunk after chunk
lawful_after before after chunk h open_ =
    record { some = h.some; some_bytes = h.some_bytes; few_bytes = h.few_bytes; in_order = h.in_order; owner = h.owner; open_ = open_ }

-- a number that was given stays so when one more is drawn
given_later : (drawn : ℕ) (chunk : Chunk) → chunk.number ≤ drawn → chunk.number ≤ drawn + 1
given_later drawn chunk given = omega (arith, given)

-- a chunk number is spent
pub lawful-spend_chunk : (state : TreeState) → IsLawfulState state → IsLawfulState (record state { drawn = state.drawn + 1 })
lawful-spend_chunk state h = record {
  tree = h.tree;
  nodes = h.nodes;
  in_order = h.in_order;
  chunks = h.chunks;
  given = All-weaker (λ (chunk : Chunk). chunk.number ≤ state.drawn) (λ chunk. chunk.number ≤ state.drawn + 1) (given_later state.drawn) state.chunks h.given;
}

-- one ledger with one reference is in order
one_ledger : (at : AllocId) → AreInOrder (record { at = at; count = 1 } ∷ [])
one_ledger at = record {
  ordered = all_pairs_push (λ (before after : Ledger). before.at.0 < after.at.0) [] (record { at = at; count = 1 }) (λ i j d lt within. absurd (omega arith)) (λ k d within. absurd (omega arith));
  counted = All-cons (λ (ledger : Ledger). 1 ≤ ledger.count) (record { at = at; count = 1 }) [] (omega arith) (All-nil (λ (ledger : Ledger). 1 ≤ ledger.count));
}

-- a chunk is made of the next number, for an open owner
pub lawful-push_chunk : (state : TreeState) (size : ℕ) (owner : AllocId) → IsLawfulState state → 1 ≤ size → size ≤ LARGEST → is_open state owner.0 ≡ true
    → IsLawfulState (record state { chunks = state.chunks ++ new_chunk (state.drawn + 1) size owner ∷ []; drawn = state.drawn + 1 })
lawful-push_chunk state size owner h some few open_ =
    let chunk = new_chunk (state.drawn + 1) size owner in
    let after : TreeState = record state { chunks = state.chunks ++ chunk ∷ []; drawn = state.drawn + 1 } in
    record {
      tree = h.tree;
      nodes = h.nodes;
      in_order = all_pairs_push (λ (older newer : Chunk). older.number < newer.number) state.chunks chunk h.in_order
          (λ k d within. let given : (get_or state.chunks k d).number ≤ state.drawn = h.given k d within in omega arith);
      chunks = All-push (IsLawfulChunk (is_open after)) state.chunks chunk h.chunks
          (record {
            some = omega arith;
            some_bytes = some;
            few_bytes = few;
            in_order = one_ledger owner;
            owner = ledger-counted chunk.ledgers 0 (record { at = owner; count = 0 }) (one_ledger owner).counted (omega arith);
            open_ = All-cons (λ (ledger : Ledger). is_open after ledger.at.0 ≡ true) (record { at = owner; count = 1 }) [] open_ (All-nil (λ (ledger : Ledger). is_open after ledger.at.0 ≡ true));
          });
      given = All-push (λ (c : Chunk). c.number ≤ state.drawn + 1) state.chunks chunk
          (All-weaker (λ (c : Chunk). c.number ≤ state.drawn) (λ c. c.number ≤ state.drawn + 1) (given_later state.drawn) state.chunks h.given) (omega arith);
    }

-- the chunks but for one of them stay
pub lawful-without_chunk : (state : TreeState) (n : ℕ) → IsLawfulState state → IsLawfulState (record state { chunks = without_chunk n state.chunks })
lawful-without_chunk state n h = record {
  tree = h.tree;
  nodes = h.nodes;
  in_order = AllPairs-filter (λ (older newer : Chunk). older.number < newer.number) (λ (chunk : Chunk). not (chunk.number == n)) state.chunks h.in_order;
  chunks = All-filter (λ (chunk : Chunk). not (chunk.number == n)) (IsLawfulChunk (is_open state)) state.chunks h.chunks;
  given = All-filter (λ (chunk : Chunk). not (chunk.number == n)) (λ chunk. chunk.number ≤ state.drawn) state.chunks h.given;
}

-- a node within bounds stays so when a number more is given
bounds_later : (next : ℕ) (node : TreeNode) → IsWithinBounds next node → IsWithinBounds (next + 1) node
bounds_later next node h = record { given = (let given : node.number.0 < next = h.given in omega arith); few = h.few; reserves = h.reserves; small = h.small; limited = h.limited; root = h.root }

-- an allocator's number is spent
pub lawful-spend_number : (state : TreeState) → IsLawfulState state → IsLawfulState (record state { next = state.next + 1 })
lawful-spend_number state h = record {
  tree = h.tree;
  nodes = All-weaker (IsWithinBounds state.next) (IsWithinBounds (state.next + 1)) (bounds_later state.next) state.nodes h.nodes;
  in_order = h.in_order;
  chunks = h.chunks;
  given = h.given;
}

-- an open allocator is the parent of a younger node that names it
open_parent : (nodes : List TreeNode) (child : TreeNode) (p : AllocId) → child.parent ≡ Some p → list_any (is_open_at p.0) nodes ≡ true → All (λ node. node.number.0 < child.number.0) nodes → Any (IsParentOf child) nodes
open_parent nodes child p is open_ older =
    let found : Any (λ node. is_open_at p.0 node ≡ true) nodes = Any-from_list_any (is_open_at p.0) nodes open_ in
    let parts = open_parts p.0 found.1 found.4 in
    let less : (get_or nodes found.0 found.1).number.0 < child.number.0 = older found.0 found.1 found.2 in
    let number : p ≡ found.1.number = same_id p found.1.number (sym parts.0) in (
      found.0,
      found.1,
      found.2,
      found.3,
      record {
        number = is ∙ ap Some number;
        older = subst (λ (x : TreeNode). x.number.0 < child.number.0) found.3 less;
        open_ = λ _. parts.1;
      },
    )

-- whoever is open is open in a longer list
open_more : (nodes more : List TreeNode) (n : ℕ) → list_any (is_open_at n) nodes ≡ true → list_any (is_open_at n) (nodes ++ more) ≡ true
open_more nodes more n h =
    list_any-from_Any (is_open_at n) (nodes ++ more) (Any-more (λ node. is_open_at n node ≡ true) nodes more (Any-from_list_any (is_open_at n) nodes h))

-- a tree grows by a child of an open parent
tree-push : (nodes : List TreeNode) (child : TreeNode) (p : AllocId) → IsAllocatorTree nodes → child.parent ≡ Some p → list_any (is_open_at p.0) nodes ≡ true → All (λ node. node.number.0 < child.number.0) nodes → IsAllocatorTree (nodes ++ child ∷ [])
tree-push nodes child p tree is open_ older =
    let HasParentIn : List TreeNode → TreeNode → Type 0 = λ all node. ForSome node.parent (λ _. Any (IsParentOf node) all) in
    let parent : Any (IsParentOf child) nodes = open_parent nodes child p is open_ older in
    let less : parent.1.number.0 < child.number.0 = parent.4.older in
    record {
      ordered = all_pairs_push (λ (a b : TreeNode). a.number.0 < b.number.0) nodes child tree.ordered older;
      root = All-push HasParentUnlessRoot nodes child tree.root (λ none. absurd cc, λ zero. absurd (omega arith));
      parents = All-push (HasParentIn (nodes ++ child ∷ [])) nodes child
          (All-weaker (HasParentIn nodes) (HasParentIn (nodes ++ child ∷ [])) (λ node has q at. Any-more (IsParentOf node) nodes (child ∷ []) (has q at)) nodes tree.parents)
          (λ q at. Any-more (IsParentOf child) nodes (child ∷ []) parent);
    }

-- a child is made of the next number, under an open parent
pub lawful-push_child : (state : TreeState) (parent : AllocId) (reservation limit : ℕ) → IsLawfulState state → is_open state parent.0 ≡ true → state.next < MOST_ALLOCATORS → reservation ≤ limit → reservation ≤ MAX_RESERVATION → limit ≤ MAX_LIMIT
    → IsLawfulState (record state { nodes = state.nodes ++ child_node state parent reservation limit ∷ []; next = state.next + 1 })
lawful-push_child state parent reservation limit h open_ room reserves small limited =
    let child = child_node state parent reservation limit in
    let after : TreeState = record state { nodes = state.nodes ++ child ∷ []; next = state.next + 1 } in
    let older : All (λ node. node.number.0 < state.next) state.nodes = λ k d within. (h.nodes k d within).given in
    record {
      tree = tree-push state.nodes child parent h.tree refl open_ older;
      nodes = All-push (IsWithinBounds (state.next + 1)) state.nodes child (All-weaker (IsWithinBounds state.next) (IsWithinBounds (state.next + 1)) (bounds_later state.next) state.nodes h.nodes)
          (record { given = omega arith; few = room; reserves = reserves; small = small; limited = limited; root = λ none. absurd cc });
      in_order = h.in_order;
      chunks = λ k d within.
          let chunk = get_or state.chunks k d in
          lawful_after (is_open state) (is_open after) chunk (h.chunks k d within)
          (λ i l in_. open_more state.nodes (child ∷ []) (get_or chunk.ledgers i l).at.0 ((h.chunks k d within).open_ i l in_));
      given = h.given;
    }
