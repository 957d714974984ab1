-- What a push leaves, and that a text has at most one reading.
use Rattle.std.proofs.Common.{◌≡◌, ℕ, ◌+◌, ◌-◌, ◌<◌, List, [], ◌∷◌, ◌++◌, length, map, take, drop, false, Some, refl, sym, ap, ◌∙◌, arith, inl, inr, subst, append_assoc, length-append}
use Rattle.std.proofs.Math.Seq.{take-add}
use Rattle.std.proofs.lemmas.Bool.{cases_lt}
use Rattle.std.proofs.lemmas.List.{take_at, take-append-drop}
use Rattle.script.specs.Words.{words_of, is_skipped}
use Rattle.script.specs.Grammar.{line_of, limit_of, lines_of, Says, ScriptParts, IsScript, IsUnreadable, IsFirstUnreadable, TextsHaveOneReading}
use Rattle.script.specs.Reading.{MayFollow, GoesOn, EndsHere, script_of}
use Rattle.script.specs.declared.form.Form.{Form}
use Rattle.script.specs.declared.line.Line.{Line}
use Rattle.script.proofs.SaysLemmas.{Says-push}

-- lists of something are equal where their elements are
map-Some-injective : {X : Type 0} (xs ys : List X) → map Some xs ≡ map Some ys → xs ≡ ys
map-Some-injective [] [] e = refl
map-Some-injective [] (y ∷ ys) e = absurd cc
map-Some-injective (x ∷ xs) [] e = absurd cc
map-Some-injective (x ∷ xs) (y ∷ ys) e = let rest : xs ≡ ys = map-Some-injective xs ys cc in cc

-- a text says at most one list of lines
Says-unique : (form : Form) (text : List (List ℕ)) (a b : List Line) → Says form text a → Says form text b → a ≡ b
Says-unique form text a b left right = map-Some-injective a b (sym left.each ∙ right.each)

-- a script is that of its lines
IsScript-is : (form : Form) (text : List (List ℕ)) (script : ScriptParts) → IsScript form text script
    → script ≡ script_of (lines_of script)
IsScript-is form text script h =
    let limits : ℕ → ScriptParts = λ limit. record { limit = limit; sections = script.sections } in
    let limit = limit_of (lines_of script) in
    let all : List (List Line) → ScriptParts = λ sections. record { limit = limit; sections = sections } in
    ap limits h.limit ∙ ap all h.one_section

-- a text is at most one script
one_script : (form : Form) (text : List (List ℕ)) (a b : ScriptParts) → IsScript form text a → IsScript form text b → a ≡ b
one_script form text a b left right =
    let same : lines_of a ≡ lines_of b = Says-unique form text (lines_of a) (lines_of b) left.lines right.lines in
    IsScript-is form text a left ∙ ap script_of same ∙ sym (IsScript-is form text b right)

-- no line after the first unreadable one is another
not_before : (form : Form) (text : List (List ℕ)) (m n : ℕ) → IsFirstUnreadable form text m → IsFirstUnreadable form text n
    → m < n → ⊥
not_before form text m n first later lt =
    let between = n - 1 - m in
    let sum : n - 1 ≡ m + between = omega (arith, lt) in
    let split : take (n - 1) text ≡ take m text ++ take between (drop m text) =
    ap (λ k. take k text) sum ∙ take-add m between text in
    let said = later.before.0 in
    first.ends (take between (drop m text)) said (subst (λ t. Says form t said) split later.before.1)

-- a text has at most one first unreadable line
one_line : (form : Form) (text : List (List ℕ)) (m n : ℕ) → IsFirstUnreadable form text m → IsFirstUnreadable form text n
    → m ≡ n
one_line form text m n left right = elim (cases_lt m n) [
  | inl lt ↦ absurd (not_before form text m n left right lt)
  | inr ge ↦ elim (cases_lt n m) [
    | inl lt' ↦ absurd (not_before form text n m right left lt')
    | inr ge' ↦ omega (arith, ge, ge')
  ]
]

-- a text with an unreadable line is no script
no_script : (form : Form) (text : List (List ℕ)) (n : ℕ) → IsFirstUnreadable form text n → IsUnreadable form text
no_script form text n first = λ script is.
    first.ends (drop n text) (lines_of script) (subst (λ t. Says form t (lines_of script)) (sym (take-append-drop n text)) is.lines)

-- a text has at most one reading
pub one_reading : TextsHaveOneReading
one_reading = record { script = one_script; line = one_line; apart = no_script }

-- a line with which a reading ends is the first unreadable one
pub ends_first : (form : Form) (whole done rest : List (List ℕ)) (text : List ℕ) (said : List Line) (number : ℕ)
    → whole ≡ done ++ text ∷ rest → number ≡ length done + 1 → Says form done said → EndsHere form text said
    → IsFirstUnreadable form whole number
ends_first form whole done rest text said number is numbered old ends =
    let before : take (number - 1) whole ≡ done = rw is (take_at done (text ∷ rest) (number - 1) (omega (arith, numbered))) in
    let through : take number whole ≡ done ++ text ∷ [] =
    ap (take number) (is ∙ sym (append_assoc done (text ∷ []) rest))
    ∙ take_at (done ++ text ∷ []) rest number (length-append done (text ∷ []) ∙ sym numbered) in
    record {
      from_one = omega (arith, numbered);
      within = omega (arith, numbered, ap length is, length-append done (text ∷ rest));
      before = (said, subst (λ t. Says form t said) (sym before) old);
      ends = λ more all says.
          ends done more all old
          (subst (λ t. Says form t all) (ap (λ t. t ++ more) through ∙ append_assoc done (text ∷ []) more) says);
    }

-- a line that may follow goes on
pub GoesOn-push : (form : Form) (text : List ℕ) (said new : List Line) (line : Line)
    → is_skipped (words_of text) ≡ false → line_of (words_of text) ≡ Some line
    → new ≡ said ++ line ∷ [] → MayFollow form said line → GoesOn form text said new
GoesOn-push form text said new line command is pushed follows =
    subst (GoesOn form text said) (sym pushed) (Says-push form text said line command is follows)
