-- What `clap` finds is what the words say.
use Rattle.std.proofs.Common.{◌≡◌, ◌∙◌, ap, ap₂, refl, sym, subst, Bool, cond, true, false, List, [], ◌∷◌, map, Option, Some, None, codes}
use Rattle.std.specs.Prelude.{String, string_bytes, option_map, option_and_then}
use Rattle.std.specs.Str.{IsUtf8, bytes_eq}
use Rattle.std.proofs.lemmas.Str.{IsUtf8-string_bytes}
use Rattle.clap.specs.Walk.{Row, Text, idle, is_empty, nothing_held, rows_after}
use Rattle.clap.specs.Faults.{level_fault}
use Rattle.command_line.specs.Parts.{Parts, no_parts, option_value, parts_of, is_option}
use Rattle.command_line.specs.Command.{Command, trace_of, query_of, trace_in, query_in, command_of}
use Rattle.command_line.specs.App.{found_in, command_by_rows, command_found}
use Rattle.command_line.proofs.KnowsLemmas.{Knows, Knows-nothing, first_of-known, words_name, bytes_are}
use Rattle.command_line.proofs.StepLemmas.{before_end}
use Rattle.command_line.proofs.OutcomeLemmas.{AreUtf8, outcome}
use Rattle.command_line.proofs.LeafLemmas.{Agrees, claimed}
use Rattle.command_line.proofs.RuleLemmas.{built_leaf, leaf_found, leaf_found-outcome, leaf_rules}
use Rattle.command_line.proofs.TopLemmas.{named_found, nothing_found, other_found}

-- a command that is read of the rows as of the parts
by_parts : (names : List Text) (by_rows : List Row → Option Command) (of : Parts → Option Command)
    → ((rows : List Row) (parts : Parts) → Knows names rows parts → by_rows rows ≡ of parts)
    → (found : Option (List Row)) (words : Option Parts) → Agrees names found words
    → option_and_then by_rows found ≡ option_and_then of words
by_parts names by_rows of same None None agrees = refl
by_parts names by_rows of same (Some rows) (Some parts) agrees = same rows parts agrees
by_parts names by_rows of same None (Some parts) agrees = absurd agrees
by_parts names by_rows of same (Some rows) None agrees = absurd agrees

-- the command of rows that have a name
found-named : (name : Text) (found : Option (List Row))
    → command_found (option_map (λ rows. (name, rows)) found) ≡ option_and_then (λ rows. command_by_rows (name, rows)) found
found-named name None = refl
found-named name (Some rows) = refl

-- the words behind a name are read by their parts
leaf_reading : (name : Text) (names : List Text) → is_option names words_name ≡ false → (of : Parts → Option Command)
    → ((rows : List Row) (parts : Parts) → Knows names rows parts → command_by_rows (name, rows) ≡ of parts)
    → (words : List Text) → AreUtf8 words → command_found (leaf_found (built_leaf name names) words)
    ≡ option_and_then of (parts_of names words)
leaf_reading name names apart of same words utf8 =
    let rules = leaf_rules name names apart in
    let found = outcome (built_leaf name names) (before_end [] None idle) words in
    ap command_found (leaf_found-outcome (built_leaf name names) names rules words) ∙ found-named name found
    ∙ by_parts names (λ rows. command_by_rows (name, rows)) of same found (parts_of names words)
    (claimed (built_leaf name names) names rules words utf8 [] None false no_parts refl (Knows-nothing names))

-- the words behind `trace`, and behind `query`
trace_reading : (words : List Text) → AreUtf8 words
    → command_found (found_in (codes "trace" ∷ words)) ≡ trace_in words
trace_reading words utf8 =
    ap command_found (named_found (codes "trace") [] words refl refl)
    ∙ leaf_reading (codes "trace") [] refl (λ parts. trace_of parts.words) (λ rows parts knows. ap trace_of knows.words) words utf8

query_reading : (words : List Text) → AreUtf8 words
    → command_found (found_in (codes "query" ∷ words))
    ≡ query_in words
query_reading words utf8 =
    ap command_found (named_found (codes "query") (codes "workers" ∷ []) words refl refl)
    ∙ leaf_reading (codes "query") (codes "workers" ∷ []) refl (λ parts. query_of parts.words (option_value (codes "workers") parts))
    (λ rows parts knows. ap₂ query_of knows.words (first_of-known (codes "workers" ∷ []) rows parts (codes "workers") knows refl)) words
    utf8

-- a subcommand other than these has no reading, whatever its words are
unread_leaf : (name : Text) (names words : List Text) → bytes_eq name (codes "trace") ≡ false → bytes_eq name (codes "query") ≡ false
    → command_found (leaf_found (built_leaf name names) words) ≡ None
unread_leaf name names words no_trace no_query = go (is_empty (level_fault (built_leaf name names) [] nothing_held words false []))
  where
    go : (b : Bool) → command_found (cond b (Some (name, rows_after (built_leaf name names).rules [] words)) None) ≡ None
    go true = rw (no_trace, no_query) refl
    go false = refl

-- the subcommands that have none
drive_reading : (words : List Text) → command_found (found_in (codes "drive" ∷ words)) ≡ None
drive_reading words = ap command_found (named_found (codes "drive") [] words refl refl) ∙ unread_leaf (codes "drive") [] words refl refl

gen_reading : (words : List Text) → command_found (found_in (codes "gen" ∷ words)) ≡ None
gen_reading words = ap command_found (named_found (codes "gen") [] words refl refl) ∙ unread_leaf (codes "gen") [] words refl refl

-- a first word other than these names nothing
unnamed_reading : (word : Text) (words : List Text) → IsUtf8 word → bytes_eq word (codes "trace") ≡ false
    → bytes_eq word (codes "query") ≡ false
    → command_found (found_in (word ∷ words)) ≡ None
unnamed_reading word words utf8 no_trace no_query = go (bytes_eq word (codes "drive")) (bytes_eq word (codes "gen")) refl refl
  where
    go : (b c : Bool) → bytes_eq word (codes "drive") ≡ b → bytes_eq word (codes "gen") ≡ c
        → command_found (found_in (word ∷ words)) ≡ None
    go true c e f = ap (λ (w : Text). command_found (found_in (w ∷ words))) (bytes_are word (codes "drive") e) ∙ drive_reading words
    go false true e f = ap (λ (w : Text). command_found (found_in (w ∷ words))) (bytes_are word (codes "gen") f) ∙ gen_reading words
    go false false e f = ap command_found (other_found word words utf8 no_trace e no_query f)

-- the whole line
pub reading : (words : List Text) → AreUtf8 words → command_found (found_in words) ≡ command_of words
reading [] utf8 = ap command_found nothing_found
reading (word ∷ words) utf8 = go (bytes_eq word (codes "trace")) (bytes_eq word (codes "query")) refl refl
  where
    Wanted : Text → Type 0
    Wanted w = command_found (found_in (w ∷ words)) ≡ command_of (w ∷ words)

    go : (b c : Bool) → bytes_eq word (codes "trace") ≡ b → bytes_eq word (codes "query") ≡ c → Wanted word
    go true c e f = subst Wanted (sym (bytes_are word (codes "trace") e)) (trace_reading words utf8.1)
    go false true e f = subst Wanted (sym (bytes_are word (codes "query") f)) (query_reading words utf8.1)
    go false false e f = rw (e, f) (unnamed_reading word words utf8.0 e f)

-- the bytes of a string are UTF-8
pub texts_are_utf8 : {Z : Type 0} (words : List (String Z)) → AreUtf8 (map string_bytes words)
texts_are_utf8 [] = tt
texts_are_utf8 (word ∷ words) = (IsUtf8-string_bytes word, texts_are_utf8 words)
