-- Names among the entries of a map whose keys are borrowed.
use Rattle.std.proofs.Common.{◌≡◌, ℕ, false, true, List, [], ◌∷◌, ◌++◌, refl, sym, ap, ◌∙◌, inl, inr, is_some, Option, Some, subst, IfSome}
use denote.Ref.{Bor}
use Rattle.std.specs.Map.{lookup}
use Rattle.std.specs.Str.{bytes_eq}
use Rattle.std.proofs.lemmas.Bool.{cases_Bool, true≢false}
use Rattle.std.proofs.lemmas.List.Elements.{All-head, All-tail, All-push}
use Rattle.indexmap.specs.IndexMap.{insert_entry}
use Rattle.script.specs.declared.buffer.Buffer.{Buffer}
use Rattle.script.specs.Bound.{AreWithin, IsWithin, buffer_binding, buffer_bindings}
use Rattle.script.specs.Buffers.{buffer_of}

-- a name is looked up among entries as among bindings
pub lookup-bindings : (entries : List (Bor (List ℕ) × Buffer)) (name : List ℕ) → lookup (λ key. bytes_eq name key.now) entries ≡ buffer_of (buffer_bindings entries) name
lookup-bindings [] name = refl
lookup-bindings (entry ∷ entries) name = elim (cases_Bool (bytes_eq name entry.0.now)) [
  | inl same ↦ rw same refl
  | inr other ↦ rw other (lookup-bindings entries name)
]

-- an entry that is inserted for a free name is a binding behind the others
inserted : (entries : List (Bor (List ℕ) × Buffer)) (key : Bor (List ℕ)) (buffer : Buffer) → is_some (buffer_of (buffer_bindings entries) key.now) ≡ false
    → buffer_bindings (insert_entry (λ a b. bytes_eq a.now b.now) entries key buffer) ≡ buffer_bindings entries ++ (key.now, buffer) ∷ []
inserted [] key buffer free = refl
inserted (entry ∷ entries) key buffer free = elim (cases_Bool (bytes_eq key.now entry.0.now)) [
  | inl same ↦ let bound : is_some (buffer_of (buffer_bindings (entry ∷ entries)) key.now) ≡ true = rw same refl in absurd (true≢false (sym bound ∙ free))
  | inr other ↦ let later : is_some (buffer_of (buffer_bindings entries) key.now) ≡ false = rw other at free in
      rw other (ap (λ more. buffer_binding entry ∷ more) (inserted entries key buffer later))
]

pub bindings-insert : (entries : List (Bor (List ℕ) × Buffer)) (key : Bor (List ℕ)) (name : List ℕ) (buffer : Buffer) → key.now ≡ name → is_some (buffer_of (buffer_bindings entries) name) ≡ false
    → buffer_bindings (insert_entry (λ a b. bytes_eq a.now b.now) entries key buffer) ≡ buffer_bindings entries ++ (name, buffer) ∷ []
bindings-insert entries key name buffer is free =
    let free' : is_some (buffer_of (buffer_bindings entries) key.now) ≡ false = ap (λ n. is_some (buffer_of (buffer_bindings entries) n)) is ∙ free in
    inserted entries key buffer free' ∙ ap (λ n. buffer_bindings entries ++ (n, buffer) ∷ []) is

-- what a name is bound to is within
pub bound_within : (bound : List (List ℕ × Buffer)) (name : List ℕ) (result : Option Buffer) → AreWithin bound → result ≡ buffer_of bound name → IfSome result IsWithin
bound_within [] name result all is = rw is tt
bound_within (binding ∷ bound) name result all is = elim (cases_Bool (bytes_eq name binding.0)) [
  | inl same ↦ let here : result ≡ Some binding.1 = is ∙ rw same refl in rw here (All-head (λ (b : List ℕ × Buffer). IsWithin b.1) binding bound all)
  | inr other ↦ bound_within bound name result (All-tail (λ (b : List ℕ × Buffer). IsWithin b.1) binding bound all) (is ∙ rw other refl)
]

-- so is what is bound with one more
pub pushed_within : (bound more : List (List ℕ × Buffer)) (name : List ℕ) (buffer : Buffer) → AreWithin bound → IsWithin buffer → more ≡ bound ++ (name, buffer) ∷ [] → AreWithin more
pushed_within bound more name buffer all within is =
    subst AreWithin (sym is) (All-push (λ (b : List ℕ × Buffer). IsWithin b.1) bound (name, buffer) all within)
