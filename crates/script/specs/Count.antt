-- How many lines of a script were read, and what a line of text comes to.
use Rattle.std.specs.Prelude.{◌≡◌, ℕ, List, [], ◌∷◌, ◌++◌, length, count_by}
use Rattle.script.specs.declared.count.Count.{Count}
use Rattle.script.specs.declared.count.TextLine.{TextLine}
use Rattle.script.specs.declared.count.TextLine.TheVariants.{Skipped, Says, Unreadable}
use Rattle.script.specs.declared.form.Form.{Form}
use Rattle.script.specs.declared.line.Line.{Line}
use Rattle.script.specs.Grammar.{HasBounds, is_tree, is_report}
use Rattle.script.specs.Reading.{MayFollow, GoesOn, EndsHere}

-- these lines were counted
pub record Counts (said : List Line) (count : Count) : Type 0 where
  pub lines : count.lines ≡ length said
  pub trees : count.trees ≡ count_by is_tree said
  pub reports : count.reports ≡ count_by is_report said

-- a line that may follow these was counted with them
pub record CountsOneMore (form : Form) (said : List Line) (line : Line) (count : Count) : Type 0 where
  pub may : MayFollow form said line
  pub counted : Counts (said ++ line ∷ []) count

-- what a line of text comes to after these lines, and the count then
abbrev pub HasRead : Form → List ℕ → List Line → Count → TextLine → Type 0
HasRead form text said count Skipped = GoesOn form text said said × Counts said count
HasRead form text said count (Says line) = GoesOn form text said (said ++ line ∷ []) × CountsOneMore form said line count
HasRead form text said count Unreadable = EndsHere form text said

-- the numbers of what a line of text says are in their bounds
abbrev pub IsBounded : TextLine → Type 0
IsBounded (Says line) = HasBounds line
IsBounded read = Unit {0}
