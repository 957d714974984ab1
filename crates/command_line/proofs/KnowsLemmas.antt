-- The rows that `clap` keeps, and the parts of the words that they stand for.
use Rattle.std.proofs.Common.{◌≡◌, ◌∙◌, ap, refl, sym, subst, Bool, cond, true, false, true≢false, List, [], ◌∷◌, ◌++◌, ◌||◌, Option}
use Rattle.std.proofs.Common.{Some, None, codes}
use Rattle.std.specs.Prelude.{is_some, find, unwrap_or, option_map, slice_get, option_and_then}
use Rattle.std.specs.Str.{bytes_eq}
use Rattle.std.proofs.lemmas.Slice.Eq.{bytes_eq-Decides}
use Rattle.clap.specs.declared.builder.value_parser.Reading.TheVariants.{AsWritten}
use Rattle.clap.specs.declared.parser.matches.ValueSource.TheVariants.{CommandLine}
use Rattle.clap.specs.Walk.{Row, Text, all_of, first_of, has_row, with_values, without}
use Rattle.command_line.specs.Parts.{Parts, no_parts, option_value, is_option, with_word}

-- the name under which `clap` keeps the plain words
abbrev pub words_name : Text
words_name = codes "words"

-- the values under a name, or none where no row has it
abbrev pub values_in : Text → List Row → List Text
values_in id rows = unwrap_or (all_of id rows) []

-- the rows keep the plain words under one name, and each option with its one value
pub record Knows (names : List Text) (rows : List Row) (parts : Parts) : Type 0 where
  pub words : values_in words_name rows ≡ parts.words
  pub option : (name : Text) → is_option names name ≡ true → all_of name rows ≡ option_map (λ value. value ∷ []) (option_value name parts)

-- before the first word
pub Knows-nothing : (names : List Text) → Knows names [] no_parts
Knows-nothing names = record { words = refl; option = λ name is. refl }

-- equal texts pass the test, and only these
pub same_bytes : (xs : Text) → bytes_eq xs xs ≡ true
same_bytes xs = (bytes_eq-Decides xs xs).1 refl

pub bytes_are : (xs ys : Text) → bytes_eq xs ys ≡ true → xs ≡ ys
bytes_are xs ys e = (bytes_eq-Decides xs ys).0 e

-- values that are added stand behind those that are there
values_in-more : (id : Text) (vs : List Text) (rows : List Row)
    → values_in id (with_values id AsWritten CommandLine vs rows) ≡ values_in id rows ++ vs
values_in-more id vs [] = rw (same_bytes id) refl
values_in-more id vs (r ∷ rows) = go (bytes_eq r.id id) refl (values_in-more id vs rows)
  where
    go : (b : Bool) → bytes_eq r.id id ≡ b → values_in id (with_values id AsWritten CommandLine vs rows) ≡ values_in id rows ++ vs
        → values_in id (with_values id AsWritten CommandLine vs (r ∷ rows)) ≡ values_in id (r ∷ rows) ++ vs
    go true e more = rw e (rw e refl)
    go false e more = rw e (rw e more)

-- and other names keep theirs
all_of-other : (id other : Text) (vs : List Text) (rows : List Row) → bytes_eq id other ≡ false
    → all_of other (with_values id AsWritten CommandLine vs rows) ≡ all_of other rows
all_of-other id other vs [] apart = rw apart refl
all_of-other id other vs (r ∷ rows) apart = go (bytes_eq r.id id) refl (all_of-other id other vs rows apart)
  where
    skips : (b : Bool) → all_of other (with_values id AsWritten CommandLine vs rows) ≡ all_of other rows
        → option_map (λ (r : Row). r.values) (cond b (Some r)
        (find (λ r. bytes_eq r.id other) (with_values id AsWritten CommandLine vs rows)))
        ≡ option_map (λ (r : Row). r.values) (cond b (Some r) (find (λ r. bytes_eq r.id other) rows))
    skips true more = refl
    skips false more = more

    go : (b : Bool) → bytes_eq r.id id ≡ b → all_of other (with_values id AsWritten CommandLine vs rows) ≡ all_of other rows
        → all_of other (with_values id AsWritten CommandLine vs (r ∷ rows)) ≡ all_of other (r ∷ rows)
    go true e more =
        let miss : bytes_eq r.id other ≡ false = subst (λ x. bytes_eq x other ≡ false) (sym (bytes_are r.id id e)) apart in
        rw (e, miss) refl
    go false e more = rw e (skips (bytes_eq r.id other) more)

-- a name that has no row loses none, and its first row comes last
without-fresh : (id : Text) (rows : List Row) → has_row id rows ≡ false → without id rows ≡ rows
without-fresh id [] fresh = refl
without-fresh id (r ∷ rows) fresh = go (bytes_eq r.id id) fresh (without-fresh id rows)
  where
    go : (b : Bool) → (b || has_row id rows) ≡ false → (has_row id rows ≡ false → without id rows ≡ rows)
        → cond b rows (r ∷ without id rows) ≡ r ∷ rows
    go true bad more = absurd (true≢false bad)
    go false rest more = ap (λ rs. r ∷ rs) (more rest)

-- the first values of a name are all that it has
all_of-fresh : (id : Text) (vs : List Text) (rows : List Row) → has_row id rows ≡ false
    → all_of id (with_values id AsWritten CommandLine vs rows) ≡ Some vs
all_of-fresh id vs [] fresh = rw (same_bytes id) refl
all_of-fresh id vs (r ∷ rows) fresh = go (bytes_eq r.id id) refl (all_of-fresh id vs rows)
  where
    go : (b : Bool) → bytes_eq r.id id ≡ b → (has_row id rows ≡ false
        → all_of id (with_values id AsWritten CommandLine vs rows) ≡ Some vs)
        → all_of id (with_values id AsWritten CommandLine vs (r ∷ rows)) ≡ Some vs
    go true e more = let bad : true ≡ false = rw e at fresh in absurd (true≢false bad)
    go false e more = let rest : has_row id rows ≡ false = rw e at fresh in rw e (rw e (more rest))

-- a name has a row exactly where it has values
has_row-all_of : (id : Text) (rows : List Row) → has_row id rows ≡ is_some (all_of id rows)
has_row-all_of id [] = refl
has_row-all_of id (r ∷ rows) = go (bytes_eq r.id id) (has_row-all_of id rows)
  where
    go : (b : Bool) → has_row id rows ≡ is_some (all_of id rows)
        → (b || has_row id rows) ≡ is_some (option_map (λ (r : Row). r.values) (cond b (Some r) (find (λ r. bytes_eq r.id id) rows)))
    go true more = refl
    go false more = more

-- a map keeps whether there is something
is_some-map : {X Y : Type 0} (f : X → Y) (o : Option X) → is_some (option_map f o) ≡ is_some o
is_some-map f None = refl
is_some-map f (Some x) = refl

-- an option was met exactly where it has a row
pub has_row-known : (names : List Text) (rows : List Row) (parts : Parts) (name : Text) → Knows names rows parts
    → is_option names name ≡ true
    → has_row name rows ≡ is_some (option_value name parts)
has_row-known names rows parts name knows is =
    has_row-all_of name rows ∙ ap (λ o. is_some o) (knows.option name is) ∙ is_some-map (λ value. value ∷ []) (option_value name parts)

-- the first value is the first of all
first_of-all_of : (id : Text) (rows : List Row) → first_of id rows ≡ option_and_then (λ vs. slice_get vs 0) (all_of id rows)
first_of-all_of id rows = go (find (λ (r : Row). bytes_eq r.id id) rows)
  where
    go : (o : Option Row) → option_and_then (λ r. slice_get r.values 0) o
        ≡ option_and_then (λ vs. slice_get vs 0) (option_map (λ r. r.values) o)
    go None = refl
    go (Some r) = refl

-- the value of an option is the first that its row has
pub first_of-known : (names : List Text) (rows : List Row) (parts : Parts) (name : Text) → Knows names rows parts
    → is_option names name ≡ true
    → first_of name rows ≡ option_value name parts
first_of-known names rows parts name knows is =
    first_of-all_of name rows ∙ ap (λ o. option_and_then (λ (vs : List Text). slice_get vs 0) o) (knows.option name is)
    ∙ go (option_value name parts)
  where
    go : (o : Option Text) → option_and_then (λ (vs : List Text). slice_get vs 0) (option_map (λ value. value ∷ []) o) ≡ o
    go None = refl
    go (Some value) = refl

-- a plain word more
pub Knows-word : (names : List Text) (rows : List Row) (parts : Parts) (text : Text)
    → ((name : Text) → is_option names name ≡ true → bytes_eq words_name name ≡ false)
    → Knows names rows parts → Knows names (with_values words_name AsWritten CommandLine (text ∷ []) rows) (with_word text parts)
Knows-word names rows parts text apart knows = record {
  words = values_in-more words_name (text ∷ []) rows ∙ ap (λ ws. ws ++ text ∷ []) knows.words;
  option = λ name is. all_of-other words_name name (text ∷ []) rows (apart name is) ∙ knows.option name is;
}

-- an option more
pub Knows-option : (names : List Text) (rows : List Row) (parts : Parts) (name value : Text)
    → bytes_eq name words_name ≡ false → has_row name rows ≡ false
    → Knows names rows parts
    → Knows names (with_values name AsWritten CommandLine (value ∷ []) (without name rows))
    (record parts { options = (name, value) ∷ parts.options })
Knows-option names rows parts name value apart fresh knows = rw (without-fresh name rows fresh) (record {
  words = ap (λ o. unwrap_or o []) (all_of-other name words_name (value ∷ []) rows apart) ∙ knows.words;
  option = λ other is. go other is (bytes_eq name other) refl;
})
  where
    go : (other : Text) → is_option names other ≡ true → (b : Bool) → bytes_eq name other ≡ b
        → all_of other (with_values name AsWritten CommandLine (value ∷ []) rows)
        ≡ option_map (λ value. value ∷ []) (option_value other (record parts { options = (name, value) ∷ parts.options }))
    go other is true e =
        let same : name ≡ other = bytes_are name other e in
        subst (λ x. all_of x (with_values name AsWritten CommandLine (value ∷ []) rows)
        ≡ option_map (λ value. value ∷ []) (option_value x (record parts { options = (name, value) ∷ parts.options })))
        same (all_of-fresh name (value ∷ []) rows fresh ∙ rw (same_bytes name) refl)
    go other is false e = all_of-other name other (value ∷ []) rows e ∙ knows.option other is ∙ rw e refl
