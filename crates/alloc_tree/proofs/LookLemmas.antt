-- What the fields of a tree tell.
use Rattle.std.proofs.Common.{◌≡◌, ℕ, List, Option, Some, None, refl, sym, ◌∙◌}
use Rattle.std.specs.Option.{option_map}
use Rattle.mem_num.specs.declared.alloc_id.AllocId.{AllocId}
use Rattle.mem_model.specs.MeasuredTree.{placed_at, peak_at}
use Rattle.mem_model.specs.TreeState.{TreeState, charges_in, held_at, uses_of}
use Rattle.mem_model.specs.TreeNode.{IsAllocatorTree}
use Rattle.mem_model.proofs.BalanceLemmas.{balanced_is_held}
use Rattle.alloc_tree.specs.declared.row.Row.{Row}
use Rattle.alloc_tree.specs.declared.solo_tree.SoloTree.TheInside.{Inside}
use Rattle.alloc_tree.specs.Fields.{IsSoundSolo, KeepsNumbers, state_of, tree_of}
use Rattle.alloc_tree.specs.Placed.{placed_row}
use Rattle.alloc_tree.specs.Rows.{row_at, held_by}
use Rattle.alloc_tree.proofs.OpenLemmas.{placed_none, placed_some, peaks_of-at}
use Rattle.alloc_tree.proofs.RowLemmas.{kept_at}

-- a row holds what its allocator holds
pub row_holds : (rows : List (Option Row)) (state : TreeState) (n : ℕ) (row : Row) → IsAllocatorTree state.nodes
    → KeepsNumbers rows state → row_at rows n ≡ Some row → row.held ≡ held_at state n
row_holds rows state n row tree keeps is = sym (kept_at (λ r. r.held) rows n row is)
    ∙ balanced_is_held state.nodes (charges_in state) (held_by rows) tree keeps.held n

-- and has its uses
pub row_uses : (rows : List (Option Row)) (state : TreeState) (n : ℕ) (row : Row) → KeepsNumbers rows state
    → row_at rows n ≡ Some row → row.uses ≡ uses_of state n
row_uses rows state n row keeps is = sym (kept_at (λ r. r.uses) rows n row is) ∙ keeps.uses n

placed_by : (fields : Inside) (at : AllocId) (found : Option Row) → IsSoundSolo fields → row_at fields.rows at.0 ≡ found
    → option_map (placed_row at) found ≡ placed_at (peak_at (tree_of fields)) (state_of fields) at.0
placed_by fields at None sound is = placed_none (peak_at (tree_of fields)) (state_of fields) fields.rows refl at.0 is
placed_by fields at (Some row) sound is =
    let rows = fields.rows in
    let state = state_of fields in
    let peak : row.peak ≡ peak_at (tree_of fields) at.0 = sym (kept_at (λ r. r.peak) rows at.0 row is) ∙ sym (peaks_of-at rows at.0) in
    placed_some (peak_at (tree_of fields)) state rows refl at row is (row_holds rows state at.0 row sound.lawful.tree sound.numbers is) peak
    (row_uses rows state at.0 row sound.numbers is)

-- a row tells the numbers of its allocator
pub placed_of_row : (fields : Inside) (at : AllocId) → IsSoundSolo fields → option_map (placed_row at) (row_at fields.rows at.0)
    ≡ placed_at (peak_at (tree_of fields)) (state_of fields) at.0
placed_of_row fields at sound = placed_by fields at (row_at fields.rows at.0) sound refl
