-- The level that refuses a request is past its limit, which is the one that a token shows.
use Rattle.std.proofs.Common.{◌≡◌, ℕ, zero, suc, ◌-◌, ◌<◌, List, [], ◌∷◌, Bool, true, ◌==◌, length, get_or, refl, sym, ◌∙◌, subst, arith}
use Rattle.std.proofs.Common.{Option, Some}
use Rattle.std.proofs.lemmas.Bool.{cond-true, cond-false, ltb-true, eq-eqb, ne_eqb}
use Rattle.std.proofs.lemmas.List.Elements.{All-filter, All-head, All-tail, All-cons, filter_passes}
use Rattle.std.specs.Prelude.{All, AllPairs, filter, slice_get, IfSome}
use Rattle.std.specs.List.{find}
use Rattle.std.specs.Option.{option_map}
use Rattle.mem_model.specs.declared.charge.Charge.{Charge}
use Rattle.mem_model.specs.declared.tree_node.TreeNode.{TreeNode}
use Rattle.mem_model.specs.Held.{held_of}
use Rattle.mem_model.specs.LawfulState.{IsLawfulState}
use Rattle.mem_model.specs.MeasuredTree.{MeasuredTree}
use Rattle.mem_model.specs.Request.{is_level, is_past_limit, levels_of, refusing_level, refusal_of}
use Rattle.mem_model.specs.TreeState.{charges_in}
use Rattle.mem_model.proofs.OpenLemmas.{pairs_head, pairs_tail}
use Rattle.mem_buf.specs.Answers.{IsPastLimit}
use Rattle.alloc_tree.specs.SoloView.{solo_view}

-- what is got from a list is as all of it
got : {X : Type 0} (P : X → Type 0) (xs : List X) (k : ℕ) (x : X) → All P xs → slice_get xs k ≡ Some x → P x
got P [] k x all is = absurd cc
got P (y ∷ ys) zero x all is = let same : y ≡ x = cc in subst P same (All-head P y ys all)
got P (y ∷ ys) (suc k) x all is = got P ys k x (All-tail P y ys all) is

-- whether a node has the number n
abbrev has_number : ℕ → TreeNode → Bool
has_number n node = node.number.0 == n

-- each node of a tree is the one of its number
each-found : (nodes : List TreeNode) → AllPairs (λ older newer. older.number.0 < newer.number.0) nodes
    → All (λ node. find (has_number node.number.0) nodes ≡ Some node) nodes
each-found [] rises = λ k d within. absurd (omega arith)
each-found (x ∷ xs) rises =
    let first = pairs_head (λ (older newer : TreeNode). older.number.0 < newer.number.0) x xs rises in
    let rest = each-found xs (pairs_tail (λ (older newer : TreeNode). older.number.0 < newer.number.0) x xs rises) in
    All-cons (λ node. find (has_number node.number.0) (x ∷ xs) ≡ Some node) x xs
    (cond-true (x.number.0 == x.number.0) (Some x) (find (has_number x.number.0) xs) (eq-eqb x.number.0 x.number.0 refl))
    (λ k d within.
    let y = get_or xs k d in
    let less : x.number.0 < y.number.0 = first k d within in
    cond-false (x.number.0 == y.number.0) (Some x) (find (has_number y.number.0) xs)
    (ne_eqb x.number.0 y.number.0 (λ same. omega (arith, less, same)))
    ∙ rest k d within)

-- a level that refuses is past its limit, and is found by its number
refusing-is : (nodes : List TreeNode) (charges : List Charge) (request : Charge) (level : TreeNode)
    → AllPairs (λ older newer. older.number.0 < newer.number.0) nodes → refusing_level nodes charges request ≡ Some level
    → (is_past_limit nodes (request ∷ charges) level ≡ true) × (find (has_number level.number.0) nodes ≡ Some level)
refusing-is nodes charges request level rises is =
    let levels = levels_of nodes charges request in
    let past = is_past_limit nodes (request ∷ charges) in
    let k = length (filter past levels) - 1 in (
      got (λ node. past node ≡ true) (filter past levels) k level (filter_passes past levels) is,
      got (λ node. find (has_number node.number.0) nodes ≡ Some node) (filter past levels) k level
          (All-filter past (λ node. find (has_number node.number.0) nodes ≡ Some node) levels
          (All-filter (is_level nodes charges request) (λ node. find (has_number node.number.0) nodes ≡ Some node) nodes
          (each-found nodes rises))) is,
    )

-- so what it tells is past the limit that a token shows
pub refusal-past : (tree : MeasuredTree) (request : Charge) (level : TreeNode) → IsLawfulState tree.state
    → refusing_level tree.state.nodes (charges_in tree.state) request ≡ Some level
    → IsPastLimit (solo_view tree) (refusal_of tree.state.nodes (charges_in tree.state) request level)
refusal-past tree request level lawful is =
    let both = refusing-is tree.state.nodes (charges_in tree.state) request level lawful.tree.ordered is in
    let above : level.limit < held_of tree.state.nodes (request ∷ charges_in tree.state) level.number.0 = ltb-true _ _ both.0 in
    record {
      past = omega arith;
      known = subst (λ (found : Option TreeNode). IfSome (option_map (λ (node : TreeNode). node.limit) found)
          (λ limit. level.limit ≡ limit))
          (sym both.1) refl;
    }
