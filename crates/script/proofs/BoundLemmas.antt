-- The numbers of a line that was read are in their bounds.
use Rattle.std.proofs.Common.{◌≡◌, ℕ, ◌≤◌, Bool, true, false, not, ◌&&◌, leb, ltb, List, [], ◌∷◌, length, map, All, Option, Some, None, if◌then◌else◌, refl, sym, subst, arith, codes}
use Rattle.std.specs.Option.{option_map}
use Rattle.std.specs.Str.{bytes_eq}
use Rattle.std.specs.Char.{is_ascii_digit}
use Rattle.std.specs.List.{list_all}
use Rattle.std.proofs.lemmas.Bool.{and_parts}
use Rattle.std.proofs.lemmas.Bool.Decides.{nat_tests}
use Rattle.std.specs.Str.Parse.{digits_value}
use Rattle.std.proofs.lemmas.List.Elements.{All-cons}
use Rattle.script.specs.declared.form.Form.{Form}
use Rattle.script.specs.declared.line.Line.{Line}
use Rattle.script.specs.declared.line.Line.TheVariants.{Root, Child, Buffer, Retain, Transfer, Slice, Release, Close, Headroom, Tree, Report}
use Rattle.mem_num.specs.declared.bounds.TheConstants.{MAX_LIMIT, MAX_RESERVATION}
use Rattle.mem_num.specs.Name.{is_name, name_word}
use Rattle.script.specs.Words.{is_numeral, number_of, reservation_of, commands_of}
use Rattle.script.specs.Grammar.{line_of, child_of, slice_of, limit_of, lines_of, HasBounds, ScriptParts, IsScript}

-- what is of a choice is of one side
from_if : {A : Type 0} (P : A → Type 0) (b : Bool) (x y : Option A) (v : A)
    → (x ≡ Some v → P v) → (y ≡ Some v → P v) → (if b then x else y) ≡ Some v → P v
from_if P true x y v left right is = left is
from_if P false x y v left right is = right is

-- what is of a choice that gives nothing unless a test passes is of the other side
from_unless : {A : Type 0} (P : A → Type 0) (b : Bool) (y : Option A) (v : A) → (b ≡ true → y ≡ Some v → P v) → (if not b then None else y) ≡ Some v → P v
from_unless P true y v right is = right refl is
from_unless P false y v right is = absurd cc

-- what is of a mapped value is of the value
from_map : {X A : Type 0} (P : A → Type 0) (f : X → A) (o : Option X) (v : A)
    → ((x : X) → o ≡ Some x → P (f x)) → option_map f o ≡ Some v → P v
from_map P f None v of is = absurd cc
from_map P f (Some x) v of is = let same : f x ≡ v = cc in subst P same (of x refl)

-- nothing is no line
from_none : {A : Type 0} (P : A → Type 0) (v : A) → None ≡ Some v → P v
from_none P v is = absurd cc

-- a value is itself
from_some : {A : Type 0} (P : A → Type 0) (x v : A) → P x → Some x ≡ Some v → P v
from_some P x v here is = let same : x ≡ v = cc in subst P same here

-- a value that is told where a test passes
from_test : (P : ℕ → Type 0) (b : Bool) (x v : ℕ) → (b ≡ true → P x) → (if b then Some x else None) ≡ Some v → P v
from_test P true x v here is = from_some P x v (here refl) is
from_test P false x v here is = from_none P v is

-- a number is at most the greatest limit
is_numeral-bound : (word : List ℕ) → is_numeral word ≡ true → digits_value 10 word ≤ MAX_LIMIT
unfolding is_numeral
is_numeral-bound word passes =
    let within = (and_parts (ltb 0 (length word) && list_all is_ascii_digit word) (leb (digits_value 10 word) MAX_LIMIT) passes).1 in
    grind (arith, nat_tests, within)

-- so is the value that is told of it
number_bound : (word : List ℕ) (value : ℕ) → number_of word ≡ Some value → value ≤ MAX_LIMIT
number_bound word value is = from_test (λ v. v ≤ MAX_LIMIT) (is_numeral word) (digits_value 10 word) value (is_numeral-bound word) is

-- a reservation is at most the largest
reservation_bound : (word : List ℕ) (value : ℕ) → reservation_of word ≡ Some value → value ≤ MAX_RESERVATION
reservation_bound word value is =
    from_test (λ v. v ≤ MAX_RESERVATION) (is_numeral word && leb (digits_value 10 word) MAX_RESERVATION) (digits_value 10 word) value
    (λ passes. let within = (and_parts (is_numeral word) (leb (digits_value 10 word) MAX_RESERVATION) passes).1 in grind (arith, nat_tests, within)) is

-- a child's are, and its name is one
child_bounds : (name parent : List ℕ) (reservation limit : Option ℕ) (line : Line) → is_name name ≡ true
    → ((r : ℕ) → reservation ≡ Some r → r ≤ MAX_RESERVATION) → ((l : ℕ) → limit ≡ Some l → l ≤ MAX_LIMIT)
    → child_of name parent reservation limit ≡ Some line → HasBounds line
child_bounds name parent (Some r) (Some l) line named reserved limited is = from_some HasBounds (Child name parent r l) line (reserved r refl, limited l refl, named) is
child_bounds name parent (Some r) None line named reserved limited is = from_none HasBounds line is
child_bounds name parent None limit line named reserved limited is = from_none HasBounds line is

-- and a slice's
slice_bounds : (name source : List ℕ) (start length : Option ℕ) (line : Line)
    → ((f : ℕ) → start ≡ Some f → f ≤ MAX_LIMIT) → ((l : ℕ) → length ≡ Some l → l ≤ MAX_LIMIT)
    → slice_of name source start length ≡ Some line → HasBounds line
slice_bounds name source (Some f) (Some l) line started ended is = from_some HasBounds (Slice name source f l) line (started f refl, ended l refl) is
slice_bounds name source (Some f) None line started ended is = from_none HasBounds line is
slice_bounds name source None length line started ended is = from_none HasBounds line is

-- those of a line that words say are
pub line_bounds : (words : List (List ℕ)) (line : Line) → line_of words ≡ Some line → HasBounds line
unfolding line_of
line_bounds [] line is = from_none HasBounds line is
line_bounds (word ∷ []) line is =
    from_if HasBounds (bytes_eq word (codes "tree")) (Some Tree) _ line (from_some HasBounds Tree line tt)
    (from_if HasBounds (bytes_eq word (codes "report")) (Some Report) None line (from_some HasBounds Report line tt) (from_none HasBounds line)) is
line_bounds (word ∷ other ∷ []) line is =
    let none = from_none HasBounds line in
    let named : (f : List ℕ → Line) → ((name : List ℕ) → HasBounds (f name)) → option_map f (name_word other) ≡ Some line → HasBounds line =
    λ f free. from_map HasBounds f (name_word other) line (λ name found. free name) in
    from_if HasBounds (bytes_eq word (codes "root")) (option_map Root (number_of other)) _ line
    (from_map HasBounds Root (number_of other) line (number_bound other))
    (from_if HasBounds (bytes_eq word (codes "release")) (option_map Release (name_word other)) _ line (named Release (λ name. tt))
    (from_if HasBounds (bytes_eq word (codes "close")) (option_map Close (name_word other)) _ line (named Close (λ name. tt))
    (from_if HasBounds (bytes_eq word (codes "headroom")) (option_map Headroom (name_word other)) None line (named Headroom (λ name. tt)) none))) is
line_bounds (word ∷ name ∷ at ∷ []) line is = from_none HasBounds line is
line_bounds (word ∷ name ∷ other ∷ last ∷ []) line is =
    let none = from_none HasBounds line in
    let named : (f : List ℕ → Line) → ((at : List ℕ) → HasBounds (f at)) → option_map f (name_word last) ≡ Some line → HasBounds line =
    λ f free. from_map HasBounds f (name_word last) line (λ at found. free at) in
    from_if HasBounds (not (is_name name && is_name other)) None _ line none
    (from_if HasBounds (bytes_eq word (codes "buffer")) (option_map (Buffer name other) (number_of last)) _ line
    (from_map HasBounds (Buffer name other) (number_of last) line (λ s found. tt))
    (from_if HasBounds (bytes_eq word (codes "retain")) (option_map (Retain name other) (name_word last)) _ line (named (Retain name other) (λ at. tt))
    (from_if HasBounds (bytes_eq word (codes "transfer")) (option_map (Transfer name other) (name_word last)) None line (named (Transfer name other) (λ at. tt)) none))) is
line_bounds (word ∷ name ∷ other ∷ first ∷ last ∷ []) line is =
    let none = from_none HasBounds line in
    from_unless HasBounds (is_name name && is_name other) _ line (λ named.
    from_if HasBounds (bytes_eq word (codes "child")) (child_of name other (reservation_of first) (number_of last)) _ line
    (child_bounds name other (reservation_of first) (number_of last) line (and_parts (is_name name) (is_name other) named).0 (reservation_bound first) (number_bound last))
    (from_if HasBounds (bytes_eq word (codes "slice")) (slice_of name other (number_of first) (number_of last)) None line
    (slice_bounds name other (number_of first) (number_of last) line (number_bound first) (number_bound last)) none)) is
line_bounds (word ∷ a ∷ b ∷ c ∷ d ∷ e ∷ more) line is = from_none HasBounds line is

-- those of all lines are, where each is said
says_bounds : (words : List (List (List ℕ))) (said : List Line) → map line_of words ≡ map Some said → All HasBounds said
says_bounds words [] each = λ k d within. absurd (omega arith)
says_bounds [] (line ∷ said) each = absurd cc
says_bounds (first ∷ words) (line ∷ said) each =
    let here : line_of first ≡ Some line = cc in
    let rest : map line_of words ≡ map Some said = cc in
    All-cons HasBounds line said (line_bounds first line here) (says_bounds words said rest)

-- and so is the root's limit
limit_bound : (lines : List Line) → All HasBounds lines → limit_of lines ≤ MAX_LIMIT
limit_bound (Root limit ∷ lines) all = all 0 (Root limit) (omega arith)
limit_bound _ all = omega arith

-- the numbers of a script are in their bounds
pub script_bounds : (form : Form) (text : List (List ℕ)) (script : ScriptParts) → IsScript form text script → All HasBounds (lines_of script)
script_bounds form text script is = says_bounds (commands_of text) (lines_of script) is.lines.each

-- so is its limit
pub script_limit : (form : Form) (text : List (List ℕ)) (script : ScriptParts) → IsScript form text script → script.limit ≤ MAX_LIMIT
script_limit form text script is =
    subst (λ limit. limit ≤ MAX_LIMIT) (sym is.limit) (limit_bound (lines_of script) (script_bounds form text script is))
