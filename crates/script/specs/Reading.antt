-- A script that is being read, line after line.
use Rattle.std.specs.Prelude.{◌≡◌, ℕ, ◌<◌, true, List, [], ◌∷◌, ◌++◌, length, count_by}
use Rattle.script.specs.declared.form.Form.{Form}
use Rattle.script.specs.declared.line.Line.{Line}
use Rattle.script.specs.Grammar.{ScriptParts, Says, is_root, is_tree, is_report, limit_of, stands_in}

-- this line may stand after these
pub record MayFollow (form : Form) (said : List Line) (line : Line) : Type 0 where
  pub root_first : is_root line ≡ true → said ≡ []
  pub in_form : stands_in form line ≡ true
  pub few_lines : length said < 1000000
  pub few_trees : is_tree line ≡ true → count_by is_tree said < 1000
  pub few_reports : is_report line ≡ true → count_by is_report said < 16

-- what was said until now is `old`, and with this line of text it is `new`
abbrev pub GoesOn : Form → List ℕ → List Line → List Line → Type 0
GoesOn form text old new = (done : List (List ℕ)) → Says form done old → Says form (done ++ text ∷ []) new

-- where this line of text comes after what was said until now, nothing is said
abbrev pub EndsHere : Form → List ℕ → List Line → Type 0
EndsHere form text old =
    (done more : List (List ℕ)) (said : List Line) → Says form done old → Says form (done ++ text ∷ more) said → ⊥

-- the script of these lines
abbrev pub script_of : List Line → ScriptParts
script_of said = record { limit = limit_of said; sections = said ∷ [] }
