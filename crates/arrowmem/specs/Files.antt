-- What the files of a shelf are read as.
use Rattle.std.specs.Prelude.{◌≡◌, ℕ, List, Option, Some, Result, Ok}
use Rattle.mem_io.specs.Shelf.{Told, reading, after_call}
use Rattle.mem_io.specs.declared.shelf.ShelfFault.{ShelfFault}
use Rattle.query_model.specs.declared.cell.Cell.{Cell}
use Rattle.query_model.specs.declared.plan.Plan.{Plan}
use Rattle.row_text.specs.Table.{IsTable}
use Rattle.plan_text.specs.Plans.{IsPlanText}

-- the most bytes that an input may have
abbrev pub max_input : ℕ
max_input = 67108864

-- the bytes of an input, or why it wasn't given
abbrev pub Input : Type 0
Input = Result (List ℕ) ShelfFault

-- what the next call of a shelf gives for a file
abbrev pub input_of : Told → List ℕ → Input
input_of files name = reading files name max_input

-- the next call gives this plan
pub record PlanFile (files : Told) (name : List ℕ) (plan : Plan) : Type 0 where
  pub bytes : List ℕ
  pub given : input_of files name ≡ Ok bytes
  pub text : IsPlanText bytes plan

-- the next call gives a table of these rows
pub record TableFile (files : Told) (name : List ℕ) (plan : Plan) (rows : List (List Cell)) : Type 0 where
  pub bytes : List ℕ
  pub given : input_of files name ≡ Ok bytes
  pub text : IsTable plan.columns bytes rows

-- what a shelf tells after the calls of a query: one for the plan, and one more for the table if the plan was read
pub data QueryAsks (files : Told) (name : List ℕ) : Option Told → Type 0 where
  plan_alone : QueryAsks files name (Some (after_call files))
  both : {plan : Plan} → PlanFile files name plan → QueryAsks files name (Some (after_call (after_call files)))
