-- What rows say of headroom: it comes from a row and from the parent's headroom.
use Rattle.std.proofs.Common.{◌≡◌, ℕ, ◌-◌, ◌<◌, ◌≤◌, ℤ, pos, ◌+ℤ◌, ◌-ℤ◌, List, get_or, Bool, true}
use Rattle.std.proofs.Common.{false, ◌||◌, ltb, Option, Some, None, sym, ap, ◌∙◌, ne_eqb}
use Rattle.std.specs.Int.{int_min}
use Rattle.std.specs.List.{Contains}
use Rattle.std.proofs.lemmas.Bool.{lt-ltb, le-ltb}
use Rattle.std.proofs.lemmas.List.{get_or_default}
use Rattle.mem_num.specs.declared.alloc_id.AllocId.{AllocId}
use Rattle.mem_model.specs.Headroom.{headroom_of, is_over_limit}
use Rattle.mem_model.specs.MeasuredTree.{MeasuredTree}
use Rattle.mem_model.specs.TreeState.{held_at}
use Rattle.mem_model.proofs.HeadroomLemmas.{HasNoNumber, older_parent, headroom_of-root, headroom_of-child, headroom_of-none}
use Rattle.mem_model.proofs.HeadroomLemmas.{is_over_limit-root, is_over_limit-child, is_over_limit-none}
use Rattle.alloc_tree.specs.declared.row.Row.{Row}
use Rattle.alloc_tree.specs.declared.solo_tree.SoloTree.TheInside.{Inside}
use Rattle.alloc_tree.specs.Fields.{IsSoundSolo, state_of, tree_of}
use Rattle.alloc_tree.specs.Rows.{row_at, nodes_in, row_node}
use Rattle.alloc_tree.proofs.LookLemmas.{row_holds}
use Rattle.alloc_tree.proofs.RowLemmas.{made_node, row_of_node}

-- where there is no row, no node has that number
not_made : (rows : List (Option Row)) (n : ℕ) → row_at rows n ≡ None → HasNoNumber n (nodes_in rows)
not_made rows n none k d within =
    let node = get_or (nodes_in rows) k d in
    let found = row_of_node rows node (k, within, get_or_default (nodes_in rows) k node d within) in
    ne_eqb n node.number.0 (λ same. absurd (let there : row_at rows n ≡ Some found.0 = ap (row_at rows) same ∙ found.1 in cc))

-- what a tree sees of its fields is what they are
abbrev IsView : Inside → MeasuredTree → Type 0
IsView fields tree = tree_of fields ≡ tree

-- an allocator that wasn't made has no headroom
pub headroom_unmade : (fields : Inside) (tree : MeasuredTree) (at : AllocId) → IsView fields tree → row_at fields.rows at.0 ≡ None
    → pos 0 ≡ headroom_of tree.state at.0
headroom_unmade fields tree at view none =
    sym (headroom_of-none (state_of fields) at (not_made fields.rows at.0 none))
    ∙ ap (λ (t : MeasuredTree). headroom_of t.state at.0) view

-- and is over no limit
pub over_unmade : (fields : Inside) (tree : MeasuredTree) (at : AllocId) → IsView fields tree → row_at fields.rows at.0 ≡ None
    → false ≡ is_over_limit tree.state at.0
over_unmade fields tree at view none =
    sym (is_over_limit-none (state_of fields) at (not_made fields.rows at.0 none))
    ∙ ap (λ (t : MeasuredTree). is_over_limit t.state at.0) view

-- a row of a sound tree, at its number
pub record IsSoundRow (fields : Inside) (tree : MeasuredTree) (at : AllocId) (row : Row) : Type 0 where
  pub sound : IsSoundSolo fields
  pub view : IsView fields tree
  pub is : row_at fields.rows at.0 ≡ Some row

module _ {fields : Inside} {tree : MeasuredTree} {at : AllocId} {row : Row} (h : IsSoundRow fields tree at row) where
  -- it holds what its allocator holds
  held_here : row.held ≡ held_at (state_of fields) at.0
  held_here = row_holds fields.rows (state_of fields) at.0 row h.sound.lawful.tree h.sound.numbers h.is

  its_node : Contains (nodes_in fields.rows) (row_node at.0 row)
  its_node = made_node fields.rows at.0 row h.is

  -- a parent has a smaller number
  pub older : {p : AllocId} → row.parent ≡ Some p → p.0 < at.0
  older {p = p} is = (older_parent (nodes_in fields.rows) (row_node at.0 row) p h.sound.lawful.tree its_node is).1.older

  -- the root's headroom is what its row leaves free
  pub headroom_root : row.parent ≡ None → pos row.limit -ℤ pos row.held ≡ headroom_of tree.state at.0
  headroom_root none =
      ap (λ (n : ℕ). pos row.limit -ℤ pos n) held_here
      ∙ sym (headroom_of-root (state_of fields) (row_node at.0 row) h.sound.lawful.tree its_node none)
      ∙ ap (λ (t : MeasuredTree). headroom_of t.state at.0) h.view

  -- that of another also depends on its parent's
  pub headroom_child : {p : AllocId} (above : ℤ) → row.parent ≡ Some p → above ≡ headroom_of tree.state p.0
      → int_min (pos row.limit -ℤ pos row.held) (above +ℤ pos (row.reservation - row.held)) ≡ headroom_of tree.state at.0
  headroom_child {p = p} above is parent =
      let state = state_of fields in
      let same : above ≡ headroom_of state p.0 = parent ∙ sym (ap (λ (t : MeasuredTree). headroom_of t.state p.0) h.view) in
      ap (λ z. int_min (pos row.limit -ℤ pos row.held) (z +ℤ pos (row.reservation - row.held))) same
      ∙ ap (λ (n : ℕ). int_min (pos row.limit -ℤ pos n) (headroom_of state p.0 +ℤ pos (row.reservation - n))) held_here
      ∙ sym (headroom_of-child state (row_node at.0 row) p h.sound.lawful.tree its_node is)
      ∙ ap (λ (t : MeasuredTree). headroom_of t.state at.0) h.view

  -- the root is over its limit where its row is
  pub over_root : row.parent ≡ None → ltb row.limit row.held ≡ is_over_limit tree.state at.0
  over_root none =
      ap (ltb row.limit) held_here ∙ sym (is_over_limit-root (state_of fields) (row_node at.0 row) h.sound.lawful.tree its_node none)
      ∙ ap (λ (t : MeasuredTree). is_over_limit t.state at.0) h.view

  over_child : {p : AllocId} (past : Bool) → row.parent ≡ Some p → ltb row.limit row.held ≡ past
      → (past || is_over_limit tree.state p.0) ≡ is_over_limit tree.state at.0
  over_child {p = p} past is test =
      let state = state_of fields in
      ap (λ b. b || is_over_limit tree.state p.0) (sym test)
      ∙ ap (λ (t : MeasuredTree). ltb row.limit row.held || is_over_limit t.state p.0) (sym h.view)
      ∙ ap (λ (n : ℕ). ltb row.limit n || is_over_limit state p.0) held_here
      ∙ sym (is_over_limit-child state (row_node at.0 row) p h.sound.lawful.tree its_node is)
      ∙ ap (λ (t : MeasuredTree). is_over_limit t.state at.0) h.view

  -- another is where its row is
  pub over_here : {p : AllocId} → row.parent ≡ Some p → row.limit < row.held
      → ltb row.limit row.held ≡ is_over_limit tree.state at.0
  over_here is past = lt-ltb row.limit row.held past ∙ over_child true is (lt-ltb row.limit row.held past)

  -- and else where its parent is
  pub over_above : {p : AllocId} → row.parent ≡ Some p → row.held ≤ row.limit
      → is_over_limit tree.state p.0 ≡ is_over_limit tree.state at.0
  over_above is within = over_child false is (le-ltb row.limit row.held within)
