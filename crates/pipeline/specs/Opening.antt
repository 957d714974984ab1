-- The opening of the tree of a query: a child of the root for each reservation, with the limit beside it.
use Rattle.std.specs.Prelude.{◌≡◌, ℕ, suc, ◌≤◌, List, [], ◌∷◌, ◌++◌, All, drop, length, take, Some, Result, Ok, Err, ⊤}
use Rattle.mem_num.specs.declared.buffer_ref.Ref.{Ref}
use Rattle.mem_num.specs.declared.full.Full.{Full as AnyFull}
use Rattle.mem_model.specs.MeasuredTree.{MeasuredTree}
use Rattle.mem_model.specs.PlannedCalls.{no_reference}
use Rattle.mem_buf.specs.MemoryCall.{MemoryCall}
use Rattle.alloc_tree.specs.SoloCalls.{HasMemory}
use Rattle.alloc_tree.specs.SoloPlanned.{ArePlanned, reference_by}
use Rattle.query_model.specs.SequentialCalls.{opening_calls}
use Rattle.query_model.specs.declared.plan.Plan.{Plan}
use Rattle.pipeline.specs.BatchRun.{IsDone, full_of}
use Rattle.pipeline.specs.Closing.{child_nodes}
use Rattle.pipeline.specs.Holding.{Leaves}
use Rattle.pipeline.specs.declared.refused.QueryRefused.{QueryRefused}
use Rattle.pipeline.specs.declared.refused.QueryRefused.TheVariants.{Full, NoMemory}

-- a child was made for each reservation, in order, whatever was given before; no reference is given, and none is left
pub record AreOpened (limits reserves : List ℕ) (calls : List MemoryCall) : Type 0 where
  pub planned : (given : List Ref) → ArePlanned given (opening_calls limits reserves) calls
  pub done : All IsDone calls
  pub count : length calls ≡ length reserves
  pub none : All (λ call. reference_by call ≡ no_reference) calls
  pub leaves : Leaves [] calls []

-- a level refused a planned child, those before it were made, and none was asked for behind it
pub record IsOpeningRefused (limits reserves : List ℕ) (full : AnyFull) (batch : ℕ) (calls : List MemoryCall) : Type 0 where
  pub opening : batch ≡ 0
  pub asked : List MemoryCall
  pub refused : MemoryCall
  pub order : calls ≡ asked ++ (refused ∷ [])
  pub within : suc (length asked) ≤ length reserves
  pub planned : (given : List Ref) → ArePlanned given (take (suc (length asked)) (opening_calls limits reserves)) calls
  pub done : All IsDone asked
  pub memory : HasMemory refused
  pub told : full_of refused ≡ Some full

-- what making these children comes to, by its answer
abbrev pub OpensChildren : List ℕ → List ℕ → Result (Unit {0}) QueryRefused → List MemoryCall → Type 0
OpensChildren limits reserves (Ok done) calls = AreOpened limits reserves calls
OpensChildren limits reserves (Err (Full full batch)) calls = IsOpeningRefused limits reserves full batch calls
OpensChildren limits reserves (Err NoMemory) calls = ⊤

-- what the opening of a query's tree comes to
abbrev pub IsOpening : Plan → Result (Unit {0}) QueryRefused → List MemoryCall → Type 0
IsOpening plan result calls = OpensChildren (drop 1 plan.limits) plan.reserves result calls

-- these children of the root stand last, and no chunk was touched
pub record AddsChildren (limits reserves : List ℕ) (old new : MeasuredTree) : Type 0 where
  pub nodes : new.state.nodes ≡ old.state.nodes ++ child_nodes old.state.next limits reserves
  pub chunks : new.state.chunks ≡ old.state.chunks
