-- What a line says, and which lines of text are which script.
use Rattle.std.specs.Prelude.{◌≡◌, ℕ, ◌-◌, ◌≤◌, Bool, true, false, not, ◌&&◌, List, [], ◌∷◌, ◌++◌, length, map, take, drop, count_by, if◌then◌else◌, Option, Some, None, codes, option_map, All}
use Rattle.std.specs.List.{flat_map}
use Rattle.std.specs.Str.{bytes_eq}
use Rattle.mem_num.specs.Name.{is_name, name_word}
use Rattle.mem_num.specs.declared.bounds.TheConstants.{MAX_LIMIT, MAX_RESERVATION}
use Rattle.script.specs.Words.{number_of, reservation_of, commands_of}
use Rattle.script.specs.declared.form.Form.{Form}
use Rattle.script.specs.declared.form.Form.TheVariants.{Trace, Drive}
use Rattle.script.specs.declared.line.Line.{Line}
use Rattle.script.specs.declared.line.Line.TheVariants.{Root, Child, Buffer, Retain, Transfer, Slice, Release, Close, Headroom, Tree, Report}

-- a line of two names and two numbers, where both are numbers
abbrev pub child_of : List ℕ → List ℕ → Option ℕ → Option ℕ → Option Line
child_of name parent (Some reservation) (Some limit) = Some (Child name parent reservation limit)
child_of name parent reservation limit = None

-- a slice of a source, where both numbers are numbers
abbrev pub slice_of : List ℕ → List ℕ → Option ℕ → Option ℕ → Option Line
slice_of name source (Some start) (Some length) = Some (Slice name source start length)
slice_of name source start length = None

-- what the words of a line say, if they say a line: `tree`, `report`; `root LIMIT`, `release NAME`, `close ALLOC`,
-- `headroom ALLOC`; `buffer NAME ALLOC SIZE`, `retain NAME SOURCE ALLOC`, `transfer NAME SOURCE ALLOC`;
-- `child NAME PARENT RES LIMIT`, `slice NAME SOURCE FROM LEN`
unfoldable pub line_of : List (List ℕ) → Option Line
line_of (word ∷ []) =
    if bytes_eq word (codes "tree") then Some Tree
    else if bytes_eq word (codes "report") then Some Report
    else None
line_of (word ∷ other ∷ []) =
    if bytes_eq word (codes "root") then option_map Root (number_of other)
    else if bytes_eq word (codes "release") then option_map Release (name_word other)
    else if bytes_eq word (codes "close") then option_map Close (name_word other)
    else if bytes_eq word (codes "headroom") then option_map Headroom (name_word other)
    else None
line_of (word ∷ name ∷ other ∷ last ∷ []) =
    if not (is_name name && is_name other) then None
    else if bytes_eq word (codes "buffer") then option_map (Buffer name other) (number_of last)
    else if bytes_eq word (codes "retain") then option_map (Retain name other) (name_word last)
    else if bytes_eq word (codes "transfer") then option_map (Transfer name other) (name_word last)
    else None
line_of (word ∷ name ∷ other ∷ first ∷ last ∷ []) =
    if not (is_name name && is_name other) then None
    else if bytes_eq word (codes "child") then child_of name other (reservation_of first) (number_of last)
    else if bytes_eq word (codes "slice") then slice_of name other (number_of first) (number_of last)
    else None
line_of words = None

-- a line that sets the root's limit
abbrev pub is_root : Line → Bool
is_root (Root limit) = true
is_root line = false

-- a line that asks for the tree
abbrev pub is_tree : Line → Bool
is_tree Tree = true
is_tree line = false

-- a line that asks for a report
abbrev pub is_report : Line → Bool
is_report Report = true
is_report line = false

-- the lines that may stand in a script of this form; one for threads is all setup yet, in which no slice stands
abbrev pub stands_in : Form → Line → Bool
stands_in Trace line = true
stands_in Drive (Slice name source start length) = false
stands_in Drive (Headroom at) = false
stands_in Drive Tree = false
stands_in Drive Report = false
stands_in Drive line = true

-- the root's limit: that of the root line, which stands first, or else the largest limit
abbrev pub limit_of : List Line → ℕ
limit_of (Root limit ∷ more) = limit
limit_of lines = MAX_LIMIT

-- what holds of a line that was read: a child's name is a name, and numbers are within their bounds
abbrev pub HasBounds : Line → Type 0
HasBounds (Root limit) = limit ≤ MAX_LIMIT
HasBounds (Child name parent reservation limit) = (reservation ≤ MAX_RESERVATION) × (limit ≤ MAX_LIMIT) × (is_name name ≡ true)
HasBounds (Slice name source start length) = (start ≤ MAX_LIMIT) × (length ≤ MAX_LIMIT)
HasBounds line = Unit {0}

-- a script: the root's limit, and its sections
pub record ScriptParts : Type 0 where
  pub limit : ℕ
  pub sections : List (List Line)

-- the lines of all sections, in order
abbrev pub lines_of : ScriptParts → List Line
lines_of script = flat_map (λ section. section) script.sections

-- these lines of text say these lines of a script, one for each that isn't skipped
pub record Says (form : Form) (text : List (List ℕ)) (said : List Line) : Type 0 where
  pub each : map line_of (commands_of text) ≡ map Some said
  pub root_first : All (λ line. is_root line ≡ false) (drop 1 said)
  pub in_form : All (λ line. stands_in form line ≡ true) said
  pub few_lines : length said ≤ 1000000
  pub few_trees : count_by is_tree said ≤ 1000
  pub few_reports : count_by is_report said ≤ 16

-- these lines of text are this script
pub record IsScript (form : Form) (text : List (List ℕ)) (script : ScriptParts) : Type 0 where
  pub lines : Says form text (lines_of script)
  pub one_section : script.sections ≡ lines_of script ∷ []
  pub limit : script.limit ≡ limit_of (lines_of script)

-- these lines of text are no script
abbrev pub IsUnreadable : Form → List (List ℕ) → Type 0
IsUnreadable form text = (script : ScriptParts) → IsScript form text script → ⊥

-- the line of this number, from 1 on, is the first unreadable one of these lines of text: those before it say some lines of a
-- script, and those up to it say none, whatever follows them
pub record IsFirstUnreadable (form : Form) (text : List (List ℕ)) (number : ℕ) : Type 0 where
  pub from_one : 1 ≤ number
  pub within : number ≤ length text
  pub before : (said : List Line) × Says form (take (number - 1) text) said
  pub ends : (more : List (List ℕ)) (said : List Line) → Says form (take number text ++ more) said → ⊥

-- a text has at most one reading: it is one script, or has one first unreadable line and is none
pub record TextsHaveOneReading : Type 0 where
  pub script : (form : Form) (text : List (List ℕ)) (a b : ScriptParts) → IsScript form text a → IsScript form text b → a ≡ b
  pub line : (form : Form) (text : List (List ℕ)) (m n : ℕ)
      → IsFirstUnreadable form text m → IsFirstUnreadable form text n → m ≡ n
  pub apart : (form : Form) (text : List (List ℕ)) (n : ℕ) → IsFirstUnreadable form text n → IsUnreadable form text
