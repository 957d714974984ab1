-- What a report prints of a tree: a line for each open allocator, behind that of its parent.
use Rattle.std.specs.Prelude.{ℕ, ◌+◌, ◌==◌, Bool, not, ◌&&◌, List, [], ◌∷◌, ◌++◌, map, filter, if◌then◌else◌, codes, decimal}
use Rattle.std.specs.List.{find, flat_map, repeat}
use Rattle.std.specs.Option.{option_map_or, unwrap_or}
use Rattle.mem_num.specs.Text.{alloc_id_text}
use Rattle.mem_num.specs.declared.alloc_id.AllocId.{AllocId}
use Rattle.mem_num.specs.declared.placed.Placed.{Placed}
use Rattle.mem_model.specs.declared.tree_node.TreeNode.{TreeNode}
use Rattle.mem_model.specs.MeasuredTree.{placed_node}
use Rattle.mem_model.specs.TreeNode.{is_open_child}
use Rattle.mem_model.specs.TreeState.{TreeState}
use Rattle.alloc_tree.specs.Names.{name_of}

-- two spaces for each level
abbrev pub indent : ℕ → List ℕ
indent depth = repeat depth (codes "  ")

-- what the first of some names that knows the allocator n calls it, and `?` where none does
abbrev pub name_in : List (List (List ℕ × AllocId)) → ℕ → List ℕ
name_in [] n = codes "?"
name_in (bindings ∷ names) n = unwrap_or (name_of bindings n) (name_in names n)

-- an allocator, its name and its numbers, as `BaseAllocator.toString` of Arrow Java writes them
abbrev pub node_text : Placed → List ℕ → List ℕ
node_text placed name =
    alloc_id_text placed.at.0 ++ (codes " Allocator(" ++ (name ++ (codes ") " ++ (decimal placed.node.reservation ++ (codes "/" ++ (decimal placed.node.held
    ++ (codes "/" ++ (decimal placed.node.peak ++ (codes "/" ++ (decimal placed.node.limit ++ codes " (res/actual/peak/limit)\n"))))))))))

-- its line, so many levels deep
abbrev pub line_text : List (List (List ℕ × AllocId)) → ℕ → Placed → List ℕ
line_text names depth placed = indent depth ++ node_text placed (name_in names placed.at.0)

-- whether it is an open child of the allocator n; the root is told as its own parent, and is no child
abbrev pub is_open_under : ℕ → Placed → Bool
is_open_under n placed = (placed.parent.0 == n) && not (placed.at.0 == n) && not placed.node.closed

-- the lines below the allocator n: those of each open child, and of what is below it; children stand behind their parent, so this goes down the list
abbrev pub lines_under : List (List (List ℕ × AllocId)) → List Placed → ℕ → ℕ → List ℕ
lines_under names [] depth n = []
lines_under names (placed ∷ later) depth n =
    (if is_open_under n placed then line_text names depth placed ++ lines_under names later (depth + 1) placed.at.0 else []) ++ lines_under names later depth n

-- the root's line and the lines below it; nothing where the root is closed
abbrev pub text_from : List (List (List ℕ × AllocId)) → List Placed → Placed → List ℕ
text_from names placed root = if root.node.closed then [] else line_text names 0 root ++ lines_under names placed 1 root.at.0

-- the text of some allocators with their numbers, in order of number
abbrev pub placed_text : List (List (List ℕ × AllocId)) → List Placed → List ℕ
placed_text names placed = option_map_or (text_from names placed) (find (λ node. node.at.0 == 0) placed) []

-- the allocators of a tree with their numbers, by the peak of each
abbrev pub placed_nodes : (ℕ → ℕ) → TreeState → List Placed
placed_nodes peaks state = map (placed_node peaks state) state.nodes

-- the text of a tree, by what names are bound to its allocators and by the peak of each
abbrev pub tree_text : List (List (List ℕ × AllocId)) → (ℕ → ℕ) → TreeState → List ℕ
tree_text names peaks state = placed_text names (placed_nodes peaks state)

-- the lines below the allocator n, so many levels deep
abbrev pub text_below : List (List (List ℕ × AllocId)) → (ℕ → ℕ) → TreeState → ℕ → ℕ → List ℕ
text_below names peaks state depth n = lines_under names (placed_nodes peaks state) depth n

-- the open children of the allocator n, in order of number
abbrev pub open_children : TreeState → ℕ → List TreeNode
open_children state n = filter (is_open_child n) state.nodes

-- child by child, the child's line and the text below that child
abbrev pub children_text : List (List (List ℕ × AllocId)) → (ℕ → ℕ) → TreeState → ℕ → ℕ → List ℕ
children_text names peaks state depth n =
    flat_map (λ child. line_text names depth (placed_node peaks state child) ++ text_below names peaks state (depth + 1) child.number.0) (open_children state n)
