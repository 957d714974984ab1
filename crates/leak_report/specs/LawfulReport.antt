-- What makes a report lawful: its names are names, its numbers fit, and they agree with each other.
use Rattle.std.specs.Prelude.{◌≡◌, ℕ, ◌<◌, ◌^◌, ◌==◌, ◌⊎◌, Bool, true, false, List, codes, map, All}
use Rattle.std.specs.List.{list_any}
use Rattle.mem_num.specs.declared.bounds.TheConstants.{MOST_NUMBERS}
use Rattle.mem_num.specs.Name.{is_name}
use Rattle.mem_model.specs.declared.tree_node.TreeNode.{TreeNode}
use Rattle.mem_model.specs.Chunk.{AreInNumberOrder, charges_of, references_of}
use Rattle.mem_model.specs.Held.{held_of}
use Rattle.mem_model.specs.LawfulChunk.{IsLawfulChunk}
use Rattle.mem_model.specs.TreeNode.{IsAllocatorTree}
use Rattle.leak_report.specs.Report.{PrintedAllocator, Report, printed_text}

-- a printed allocator as one of a tree: it is open
abbrev pub printed_node : PrintedAllocator → TreeNode
printed_node printed = record { number = printed.number; parent = printed.parent; reservation = printed.reservation; limit = printed.limit; closed = false }

-- the printed allocators as those of a tree
abbrev pub nodes_of : Report → List TreeNode
nodes_of report = map printed_node report.allocators

-- whether the allocator n is printed
abbrev pub is_printed : Report → ℕ → Bool
is_printed report n = list_any (λ printed. printed.number.0 == n) report.allocators

-- a name, or what stands for one
abbrev pub IsPrintedName : List ℕ → Type 0
IsPrintedName name = (is_name name ≡ true) ⊎ (name ≡ codes "?")

-- the numbers of an allocator: its own of 32 bits, and bytes of 64
pub record AllocatorFits (printed : PrintedAllocator) : Type 0 where
  pub number : printed.number.0 < MOST_NUMBERS
  pub reservation : printed.reservation < 2 ^ 64
  pub held : printed.held < 2 ^ 64
  pub peak : printed.peak < 2 ^ 64
  pub limit : printed.limit < 2 ^ 64

-- the numbers of a report, as long as programs print them: those of chunks have 32 bits, the references of a ledger 64, and all references 128
pub record NumbersFit (report : Report) : Type 0 where
  pub allocators : All AllocatorFits report.allocators
  pub chunks : All (λ chunk. chunk.number < MOST_NUMBERS) report.chunks
  pub counts : All (λ chunk. All (λ ledger. ledger.count < 2 ^ 64) chunk.ledgers) report.chunks
  pub references : report.references < 2 ^ 128

-- names are names, and numbers fit; the allocators are a tree, in which each holds what its charges by the printed chunks and its
-- children come to; chunks are lawful, and no two have the same number; and the references are those that are counted
pub record IsLawful (report : Report) : Type 0 where
  pub names : All (λ printed. IsPrintedName printed.name) report.allocators
  pub numbers : NumbersFit report
  pub tree : IsAllocatorTree (nodes_of report)
  pub held : All (λ printed. printed.held ≡ held_of (nodes_of report) (charges_of report.chunks) printed.number.0) report.allocators
  pub in_order : AreInNumberOrder report.chunks
  pub chunks : All (IsLawfulChunk (is_printed report)) report.chunks
  pub references : report.references ≡ references_of report.chunks

-- a text that says something lawful
abbrev pub IsLawfulReport : List ℕ → Type 0
IsLawfulReport text = (report : Report) × IsLawful report × (text ≡ printed_text report)
