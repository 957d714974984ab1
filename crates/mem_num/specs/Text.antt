-- How the numbers and refusals are printed.
use Rattle.std.specs.Prelude.{ℕ, List, ◌++◌, if◌then◌else◌, codes, decimal}
use Rattle.mem_num.specs.declared.full.Full.{Full}
use Rattle.mem_num.specs.declared.child_refused.ChildRefused.{ChildRefused}
use Rattle.mem_num.specs.declared.child_refused.ChildRefused.TheVariants.{ReserveAboveLimit, Closed, Nodes, Full as ParentFull}

-- an allocator
abbrev pub alloc_id_text : ℕ → List ℕ
alloc_id_text number = codes "#" ++ decimal number

-- where a request was refused, as seen from where it began
abbrev pub place_text : Full → List ℕ
place_text full = if full.local then codes "local" else codes "parent"

-- a request that passes a limit
abbrev pub full_text : Full → List ℕ
full_text full =
    codes "full " ++ (alloc_id_text full.node.0 ++ (codes " held " ++ (decimal full.held
    ++ (codes " amount " ++ (decimal full.amount ++ (codes " limit " ++ (decimal full.limit ++ (codes " " ++ place_text full))))))))

-- a request past the largest buffer
abbrev pub too_large_text : ℕ → List ℕ
too_large_text request = codes "toolarge " ++ decimal request

-- a call at a closed allocator
abbrev pub closed_text : ℕ → List ℕ
closed_text number = codes "closed " ++ alloc_id_text number

-- a use of a chunk that isn't counted
abbrev pub released_text : ℕ → ℕ → List ℕ
released_text chunk number = codes "released chunk " ++ (decimal chunk ++ (codes " at " ++ alloc_id_text number))

-- a child that was not made
abbrev pub child_refused_text : ChildRefused → List ℕ
child_refused_text (ReserveAboveLimit reservation limit) = codes "above " ++ (decimal reservation ++ (codes " " ++ decimal limit))
child_refused_text (Closed closed) = closed_text closed.node.0
child_refused_text (Nodes next) = codes "nodes " ++ decimal next
child_refused_text (ParentFull full) = full_text full
