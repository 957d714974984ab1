-- Which trees are printed with names that are names and with numbers that fit.
use Rattle.std.specs.Prelude.{ℕ, ◌<◌, ◌^◌, List, All}
use Rattle.mem_num.specs.declared.bounds.TheConstants.{MOST_NUMBERS}
use Rattle.alloc_tree.specs.Names.{AreNames}
use Rattle.mem_num.specs.declared.alloc_id.AllocId.{AllocId}
use Rattle.mem_model.specs.Ledgers.{total_of}
use Rattle.mem_model.specs.TreeState.{TreeState}

-- bound names are names, chunk numbers have 32 bits, and peaks and the references to each chunk 64
pub record IsPrintable (names : List (List (List ℕ × AllocId))) (peaks : ℕ → ℕ) (state : TreeState) : Type 0 where
  pub well_formed : All AreNames names
  pub drawn : state.drawn < MOST_NUMBERS
  pub peaks_fit : All (λ node. peaks node.number.0 < 2 ^ 64) state.nodes
  pub references_fit : All (λ chunk. total_of chunk.ledgers < 2 ^ 64) state.chunks
