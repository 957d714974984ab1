-- What a report says: open allocators, live chunks and a number of references, and how these are printed.
use Rattle.std.specs.Prelude.{ℕ, ◌+◌, Bool, not, List, [], ◌∷◌, ◌++◌, map, filter, if◌then◌else◌, codes, decimal, Option, Some, None, is_none}
use Rattle.std.specs.List.{flat_map}
use Rattle.mem_num.specs.Text.{alloc_id_text}
use Rattle.mem_num.specs.declared.alloc_id.AllocId.{AllocId}
use Rattle.mem_model.specs.declared.tree_node.TreeNode.{TreeNode}
use Rattle.mem_model.specs.Chunk.{Chunk, references_of}
use Rattle.mem_model.specs.TreeNode.{is_number}
use Rattle.mem_model.specs.TreeState.{TreeState, held_at}
use Rattle.leak_report.specs.ReportText.{chunk_text, references_text}
use Rattle.leak_report.specs.TreeText.{indent, name_in}

-- an open allocator: its number and name, whose child it is, and its numbers
pub record PrintedAllocator : Type 0 where
  pub number : AllocId
  pub parent : Option AllocId
  pub name : List ℕ
  pub reservation : ℕ
  pub held : ℕ
  pub peak : ℕ
  pub limit : ℕ

-- what a report says: the open allocators and the live chunks, both in order of number, and how many references there are
pub record Report : Type 0 where
  pub allocators : List PrintedAllocator
  pub chunks : List Chunk
  pub references : ℕ

-- a line of the tree: an allocator, so many levels deep
pub record TreeLine : Type 0 where
  pub depth : ℕ
  pub number : AllocId
  pub name : List ℕ
  pub reservation : ℕ
  pub held : ℕ
  pub peak : ℕ
  pub limit : ℕ

-- its text
abbrev pub tree_line_text : TreeLine → List ℕ
tree_line_text line =
    indent line.depth ++ (alloc_id_text line.number.0 ++ (codes " Allocator(" ++ (line.name ++ (codes ") " ++ (decimal line.reservation ++ (codes "/" ++ (decimal line.held
    ++ (codes "/" ++ (decimal line.peak ++ (codes "/" ++ (decimal line.limit ++ codes " (res/actual/peak/limit)\n")))))))))))

-- the line of an allocator, so many levels deep
abbrev pub tree_line_of : ℕ → PrintedAllocator → TreeLine
tree_line_of depth printed = record {
  depth = depth;
  number = printed.number;
  name = printed.name;
  reservation = printed.reservation;
  held = printed.held;
  peak = printed.peak;
  limit = printed.limit;
}

-- what stands before its name in its line, without the spaces
abbrev pub head_of : PrintedAllocator → List ℕ
head_of printed = alloc_id_text printed.number.0 ++ codes " Allocator("

-- what stands behind it
abbrev pub tail_of : PrintedAllocator → List ℕ
tail_of printed =
    codes ") " ++ (decimal printed.reservation ++ (codes "/" ++ (decimal printed.held ++ (codes "/" ++ (decimal printed.peak ++ (codes "/" ++ (decimal printed.limit
    ++ codes " (res/actual/peak/limit)\n")))))))

-- whether it has this parent, or none
abbrev pub has_parent : Option AllocId → PrintedAllocator → Bool
has_parent None printed = is_none printed.parent
has_parent (Some parent) printed = is_number parent.0 printed.parent

-- the lines of the allocators with this parent, each with those below it; children stand behind their parent, so this goes down the list
abbrev pub tree_lines_of : List PrintedAllocator → ℕ → Option AllocId → List TreeLine
tree_lines_of [] depth parent = []
tree_lines_of (printed ∷ later) depth parent =
    (if has_parent parent printed then tree_line_of depth printed ∷ tree_lines_of later (depth + 1) (Some printed.number) else []) ++ tree_lines_of later depth parent

-- the same lines as text, one by one
abbrev pub lines_text : List PrintedAllocator → ℕ → Option AllocId → List ℕ
lines_text [] depth parent = []
lines_text (printed ∷ later) depth parent =
    (if has_parent parent printed then tree_line_text (tree_line_of depth printed) ++ lines_text later (depth + 1) (Some printed.number) else []) ++ lines_text later depth parent

-- the text of a report: the lines from the root on, then the chunks, and the number of references
abbrev pub printed_text : Report → List ℕ
printed_text report =
    flat_map tree_line_text (tree_lines_of report.allocators 0 None) ++ (flat_map chunk_text report.chunks ++ references_text report.references)

-- an allocator of a tree, by what names are bound and by the peak of each
abbrev pub printed_allocator : List (List (List ℕ × AllocId)) → (ℕ → ℕ) → TreeState → TreeNode → PrintedAllocator
printed_allocator names peaks state node = record {
  number = node.number;
  parent = node.parent;
  name = name_in names node.number.0;
  reservation = node.reservation;
  held = held_at state node.number.0;
  peak = peaks node.number.0;
  limit = node.limit;
}

-- the open allocators
abbrev pub open_nodes : List TreeNode → List TreeNode
open_nodes nodes = filter (λ node. not node.closed) nodes

-- what the report of a tree says
abbrev pub report_of : List (List (List ℕ × AllocId)) → (ℕ → ℕ) → TreeState → Report
report_of names peaks state = record {
  allocators = map (printed_allocator names peaks state) (open_nodes state.nodes);
  chunks = state.chunks;
  references = references_of state.chunks;
}
