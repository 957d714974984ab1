-- What lines of text say, with one line more.
use Rattle.std.proofs.Common.{◌≡◌, ℕ, ◌<◌, ◌≤◌, List, [], ◌∷◌, ◌++◌, length, drop, map, filter, Bool, true, false, cond, Option, None, Some, refl, sym, ap, ◌∙◌, arith, inl, inr, subst, length-append}
use Rattle.std.specs.List.{All, sum_by, count_by}
use Rattle.std.proofs.lemmas.List.{map-append}
use Rattle.std.proofs.lemmas.List.Elements.{filter-append, All-append, All-tail, All-head, All-cons, All-nil}
use Rattle.std.proofs.lemmas.List.Sums.{sum_by-append, sum_by_push}
use Rattle.std.proofs.lemmas.Bool.{cases_Bool}
use Rattle.script.specs.Words.{words_of, is_skipped, commands_of}
use Rattle.script.specs.Grammar.{line_of, is_root, is_tree, is_report, stands_in, Says}
use Rattle.script.specs.Reading.{MayFollow, GoesOn, EndsHere}
use Rattle.script.specs.declared.form.Form.{Form}
use Rattle.script.specs.declared.line.Line.{Line}

-- this is no root line
abbrev IsNotRoot : Line → Type 0
IsNotRoot line = is_root line ≡ false

-- no line but the first is a root line
abbrev RootIsFirst : List Line → Type 0
RootIsFirst said = All IsNotRoot (drop 1 said)

-- the commands of two texts, one after the other
commands_of-append : (xs ys : List (List ℕ)) → commands_of (xs ++ ys) ≡ commands_of xs ++ commands_of ys
commands_of-append xs ys =
    ap (filter _) (map-append words_of xs ys) ∙ filter-append _ (map words_of xs) (map words_of ys)

-- a line that isn't skipped is a command
commands_of-cons : (text : List ℕ) (more : List (List ℕ)) → is_skipped (words_of text) ≡ false
    → commands_of (text ∷ more) ≡ words_of text ∷ commands_of more
commands_of-cons text more h = rw h

-- what holds of each, and of one more
All-push : {X : Type 0} (P : X → Type 0) (xs : List X) (x : X) → All P xs → P x → All P (xs ++ x ∷ [])
All-push P xs x each last = All-append P xs (x ∷ []) each (All-cons P x [] last (All-nil P))

-- what holds of each holds of one in the middle
All-at : {X : Type 0} (P : X → Type 0) (xs : List X) (x : X) (rest : List X) → All P (xs ++ x ∷ rest) → P x
All-at P [] x rest h = All-head P x rest h
All-at P (y ∷ ys) x rest h = All-at P ys x rest (All-tail P y (ys ++ x ∷ rest) h)

-- a line after others is no root line
not_root : (said : List Line) (line : Line) → (is_root line ≡ true → said ≡ []) → 0 < length said
    → is_root line ≡ false
not_root said line h some = elim (cases_Bool (is_root line)) [
  | inl root ↦ absurd (omega (arith, ap length (h root)))
  | inr other ↦ other
]

-- a root line comes only at the front
RootIsFirst-push : (said : List Line) (line : Line) → (is_root line ≡ true → said ≡ []) → RootIsFirst said
    → RootIsFirst (said ++ line ∷ [])
RootIsFirst-push [] line h old = All-nil IsNotRoot
RootIsFirst-push (x ∷ xs) line h old =
    All-push IsNotRoot xs line old (not_root (x ∷ xs) line h (omega arith))

-- lines of a kind come only where there are few
count_by-push : (kind : Line → Bool) (most : ℕ) (said : List Line) (line : Line) → (kind line ≡ true → count_by kind said < most)
    → count_by kind said ≤ most → count_by kind (said ++ line ∷ []) ≤ most
count_by-push kind most said line h old =
    rw (sum_by_push (λ x. cond (kind x) 1 0) said line) (elim (cases_Bool (kind line)) [
      | inl same ↦ rw same (omega (arith, h same))
      | inr other ↦ rw other (omega (arith, old))
    ])

-- what the lines before a command, the command and the lines after it say
commands_of-push : (done more : List (List ℕ)) (text : List ℕ) → is_skipped (words_of text) ≡ false
    → map line_of (commands_of (done ++ text ∷ more))
    ≡ map line_of (commands_of done) ++ line_of (words_of text) ∷ map line_of (commands_of more)
commands_of-push done more text command =
    ap (map line_of) (commands_of-append done (text ∷ more)
    ∙ ap (λ commands. commands_of done ++ commands) (commands_of-cons text more command))
    ∙ map-append line_of (commands_of done) (words_of text ∷ commands_of more)

-- no text says no line
pub Says-nothing : (form : Form) → Says form [] []
Says-nothing form = record {
  each = refl;
  root_first = All-nil IsNotRoot;
  in_form = All-nil (λ line. stands_in form line ≡ true);
  few_lines = omega arith;
  few_trees = omega arith;
  few_reports = omega arith;
}

-- a line that may follow is said
pub Says-push : (form : Form) (text : List ℕ) (said : List Line) (line : Line) → is_skipped (words_of text) ≡ false
    → line_of (words_of text) ≡ Some line → MayFollow form said line → GoesOn form text said (said ++ line ∷ [])
Says-push form text said line command is may = λ done old. record {
  each = commands_of-push done [] text command ∙ rw (old.each, is) (sym (map-append Some said (line ∷ [])));
  root_first = RootIsFirst-push said line may.root_first old.root_first;
  in_form = All-push (λ x. stands_in form x ≡ true) said line old.in_form may.in_form;
  few_lines = omega (arith, may.few_lines, length-append said (line ∷ []));
  few_trees = count_by-push is_tree 1000 said line may.few_trees old.few_trees;
  few_reports = count_by-push is_report 16 said line may.few_reports old.few_reports;
}

-- where each is something, so is the next
next_some : {X : Type 0} (xs : List X) (o : Option X) (tail : List (Option X)) (all : List X)
    → map Some xs ++ o ∷ tail ≡ map Some all
    → (x : X) × (rest : List X) × (o ≡ Some x) × (all ≡ xs ++ x ∷ rest)
next_some [] o tail [] e = absurd cc
next_some [] o tail (x ∷ all) e = (x, all, cc, refl)
next_some (y ∷ ys) o tail [] e = absurd cc
next_some (y ∷ ys) o tail (x ∷ all) e =
    let next = next_some ys o tail all cc in
    let same : y ≡ x = cc in
    (next.0, next.1, next.2, rw same (ap (λ xs. x ∷ xs) next.3))

-- a root line among lines is the first
RootIsFirst-at : (said rest : List Line) (line : Line) → RootIsFirst (said ++ line ∷ rest) → is_root line ≡ true
    → said ≡ []
RootIsFirst-at [] rest line h root = refl
RootIsFirst-at (x ∷ xs) rest line h root =
    let other : is_root line ≡ false = All-at IsNotRoot xs line rest h in
    cc

-- a line of a kind among few has fewer before it
count_by-at : (kind : Line → Bool) (most : ℕ) (said rest : List Line) (line : Line) → count_by kind (said ++ line ∷ rest) ≤ most
    → kind line ≡ true → count_by kind said < most
count_by-at kind most said rest line few same =
    let weight : Line → ℕ = λ x. cond (kind x) 1 0 in
    let one : sum_by weight (line ∷ []) ≡ 1 = rw same in
    omega (arith, few, sum_by-append weight said ((line ∷ []) ++ rest), sum_by-append weight (line ∷ []) rest, one)

-- a line among what is said may follow those before it
MayFollow-at : (form : Form) (text : List (List ℕ)) (said rest : List Line) (line : Line)
    → Says form text (said ++ line ∷ rest) → MayFollow form said line
MayFollow-at form text said rest line whole = record {
  root_first = RootIsFirst-at said rest line whole.root_first;
  in_form = All-at (λ x. stands_in form x ≡ true) said line rest whole.in_form;
  few_lines = omega (arith, whole.few_lines, length-append said (line ∷ rest));
  few_trees = count_by-at is_tree 1000 said rest line whole.few_trees;
  few_reports = count_by-at is_report 16 said rest line whole.few_reports;
}

-- where lines of text go on, the next line says one that may follow
Says-next : (form : Form) (done more : List (List ℕ)) (text : List ℕ) (said all : List Line)
    → is_skipped (words_of text) ≡ false
    → Says form done said → Says form (done ++ text ∷ more) all
    → (line : Line) × (line_of (words_of text) ≡ Some line) × MayFollow form said line
Says-next form done more text said all command old whole =
    let listed : map Some said ++ line_of (words_of text) ∷ map line_of (commands_of more) ≡ map Some all =
    sym (commands_of-push done more text command ∙ rw old.each refl) ∙ whole.each in
    let next = next_some said (line_of (words_of text)) (map line_of (commands_of more)) all listed in
    let split : Says form (done ++ text ∷ more) (said ++ next.0 ∷ next.1) = subst (Says form _) next.3 whole in
    (next.0, next.2, MayFollow-at form (done ++ text ∷ more) said next.1 next.0 split)

-- a line that says nothing readable ends the reading
pub EndsHere-unread : (form : Form) (text : List ℕ) (said : List Line) → is_skipped (words_of text) ≡ false
    → line_of (words_of text) ≡ None → EndsHere form text said
EndsHere-unread form text said command is = λ done more all old whole.
    let next = Says-next form done more text said all command old whole in
    let same : None ≡ Some next.0 = sym is ∙ next.1 in cc

-- so does a line that may not follow
pub EndsHere-out_of_place : (form : Form) (text : List ℕ) (said : List Line) (line : Line)
    → is_skipped (words_of text) ≡ false → line_of (words_of text) ≡ Some line
    → (MayFollow form said line → ⊥) → EndsHere form text said
EndsHere-out_of_place form text said line command is not_there = λ done more all old whole.
    let next = Says-next form done more text said all command old whole in
    let both : Some next.0 ≡ Some line = sym next.1 ∙ is in
    let same : next.0 ≡ line = cc in
    not_there (subst (MayFollow form said) same next.2)
