-- Names among the entries of a map.
use Rattle.std.proofs.Common.{◌≡◌, ◌≢◌, ◌==◌, ◌<◌, ℕ, List, [], ◌∷◌, ◌++◌, length, get_or, map, Bool, true}
use Rattle.std.proofs.Common.{false, IsTrue, refl, sym, ap, ◌∙◌, inl, inr, arith, subst, Option, IsSome, is_some, String, Global}
use Rattle.std.proofs.Common.{string_bytes, codes}
use Rattle.std.specs.List.{find, list_any, AllZip}
use Rattle.std.specs.Map.{lookup}
use Rattle.std.specs.Option.{option_map}
use Rattle.std.specs.Str.{bytes_eq}
use Rattle.std.specs.String.{string_eq}
use Rattle.std.proofs.lemmas.Bool.{cases_Bool, or_parts, false≢true, ne_eqb}
use Rattle.std.proofs.lemmas.List.Folds.{list_any_at}
use Rattle.std.proofs.lemmas.List.Elements.{All-cons, All-nil, All-push}
use Rattle.std.proofs.lemmas.List.Quantifiers.{all_pairs_push}
use Rattle.std.proofs.lemmas.Slice.Eq.{bytes_eq-Decides}
use Rattle.indexmap.specs.IndexMap.{insert_entry}
use Rattle.mem_num.specs.declared.alloc_id.AllocId.{AllocId}
use Rattle.mem_num.specs.Name.{is_name}
use Rattle.alloc_tree.specs.Names.{binding_of, bindings_of, root_binding, is_bound, allocator_of, name_of, AreLawful}

-- a search finds something where an element passes
is_some-find : {X Y : Type 0} (f : X → Y) (test : X → Bool) (xs : List X) → is_some (option_map f (find test xs)) ≡ list_any test xs
is_some-find f test [] = refl
is_some-find f test (x ∷ xs) = elim (cases_Bool (test x)) [
  | inl pass ↦ rw pass refl
  | inr fail ↦ rw fail (is_some-find f test xs)
]

-- so an answer that is the search's says whether an element passes
pub found_by : {X Y : Type 0} (f : X → Y) (test : X → Bool) (xs : List X) (r : Option Y) → r ≡ option_map f (find test xs)
    → (IsSome r → IsTrue (list_any test xs)) × (IsTrue (list_any test xs) → IsSome r)
found_by f test xs r is =
    let same : is_some r ≡ list_any test xs = ap is_some is ∙ is_some-find f test xs in
    (λ some. sym same ∙ some, λ any. same ∙ any)

-- a search among bindings is a look-up among entries
find-bindings : (entries : List (String Global × AllocId)) (name : List ℕ)
    → option_map (λ (binding : List ℕ × AllocId). binding.1) (find (λ binding. bytes_eq name binding.0) (map binding_of entries))
    ≡ lookup (λ key. bytes_eq name (string_bytes key)) entries
find-bindings [] name = refl
find-bindings (entry ∷ entries) name = elim (cases_Bool (bytes_eq name (string_bytes entry.0))) [
  | inl same ↦ rw same refl
  | inr other ↦ rw other (find-bindings entries name)
]

-- any other name is looked up
pub allocator_of-entries : (entries : List (String Global × AllocId)) (name : List ℕ) (r : Option AllocId)
    → bytes_eq name (codes "ROOT") ≡ false
    → r ≡ lookup (λ key. bytes_eq name (string_bytes key)) entries → r ≡ allocator_of (bindings_of entries) name
allocator_of-entries entries name r other is = is ∙ (sym (find-bindings entries name) ∙ rw other refl)

-- the same where an allocator's first name is searched for
find-named : (entries : List (String Global × AllocId)) (n : ℕ)
    → option_map (λ (binding : List ℕ × AllocId). binding.0) (find (λ binding. binding.1.0 == n) (map binding_of entries))
    ≡ option_map (λ entry. string_bytes entry.0) (find (λ entry. entry.1.0 == n) entries)
find-named [] n = refl
find-named (entry ∷ entries) n = elim (cases_Bool (entry.1.0 == n)) [
  | inl same ↦ rw same refl
  | inr other ↦ rw other (find-named entries n)
]

-- the first name of any other allocator is that of its first entry
pub name_of-entries : (entries : List (String Global × AllocId)) (n : ℕ) (r : Option (String Global × AllocId)) → n ≢ 0
    → r ≡ find (λ entry. entry.1.0 == n) entries → option_map (λ entry. string_bytes entry.0) r ≡ name_of (bindings_of entries) n
name_of-entries entries n r other is =
    let apart : (0 == n) ≡ false = ne_eqb 0 n (λ same. other (sym same)) in
    ap (option_map (λ entry. string_bytes entry.0)) is ∙ (sym (find-named entries n) ∙ rw apart refl)

-- the root's name alone
pub AreLawful-root : AreLawful (root_binding ∷ [])
unfolding is_name
AreLawful-root = record {
  unique = λ i j d before within. absurd (omega arith);
  names = All-cons (λ (binding : List ℕ × AllocId). is_name binding.0 ≡ true) root_binding [] refl
      (All-nil (λ (binding : List ℕ × AllocId). is_name binding.0 ≡ true));
}

-- a free name is none of those that are bound
free-differs : (bindings : List (List ℕ × AllocId)) (name : List ℕ) → is_bound bindings name ≡ false
    → (k : ℕ) (d : List ℕ × AllocId) → k < length bindings → (get_or bindings k d).0 ≢ name
free-differs bindings name free k d within same =
    let passes : bytes_eq name (get_or bindings k d).0 ≡ true = (bytes_eq-Decides name (get_or bindings k d).0).1 (sym same) in
    false≢true (sym free ∙ list_any_at (λ binding. bytes_eq name binding.0) bindings k d within passes)

-- so it can be bound once more
pub AreLawful-bound : (bindings : List (List ℕ × AllocId)) (name : List ℕ) (at : AllocId) → AreLawful bindings
    → is_bound bindings name ≡ false
    → is_name name ≡ true → AreLawful (bindings ++ (name, at) ∷ [])
AreLawful-bound bindings name at lawful free is = record {
  unique = all_pairs_push (λ before after. before.0 ≢ after.0) bindings (name, at) lawful.unique (free-differs bindings name free);
  names = All-push (λ (binding : List ℕ × AllocId). is_name binding.0 ≡ true) bindings (name, at) lawful.names is;
}

-- an entry that is new goes last
insert_entry-last : (entries : List (String Global × AllocId)) (text : String Global) (at : AllocId)
    → list_any (λ (binding : List ℕ × AllocId). bytes_eq (string_bytes text) binding.0) (map binding_of entries) ≡ false
    → map binding_of (insert_entry string_eq entries text at) ≡ map binding_of entries ++ (string_bytes text, at) ∷ []
insert_entry-last [] text at free = refl
insert_entry-last (entry ∷ entries) text at free =
    let parts = or_parts (bytes_eq (string_bytes text) (string_bytes entry.0))
    (list_any (λ (binding : List ℕ × AllocId). bytes_eq (string_bytes text) binding.0) (map binding_of entries)) free in
    rw parts.0 (ap (λ more. binding_of entry ∷ more) (insert_entry-last entries text at parts.1))

-- so a free name's binding does
pub bindings_of-insert : (entries : List (String Global × AllocId)) (text : String Global) (name : List ℕ) (at : AllocId)
    → string_bytes text ≡ name → is_bound (bindings_of entries) name ≡ false
    → bindings_of (insert_entry string_eq entries text at) ≡ bindings_of entries ++ (name, at) ∷ []
bindings_of-insert entries text name at is free =
    let parts = or_parts (bytes_eq name (codes "ROOT"))
    (list_any (λ (binding : List ℕ × AllocId). bytes_eq name binding.0) (map binding_of entries)) free in
    let absent = subst (λ bs. list_any (λ (binding : List ℕ × AllocId). bytes_eq bs binding.0) (map binding_of entries) ≡ false)
    (sym is) parts.1 in
    ap (λ more. root_binding ∷ more)
    (insert_entry-last entries text at absent ∙ ap (λ bs. map binding_of entries ++ (bs, at) ∷ []) is)

-- clones give the same bindings
map-clone : (entries clones : List (String Global × AllocId))
    → AllZip (λ p q. (string_bytes q.0 ≡ string_bytes p.0) × (q.1 ≡ p.1)) entries clones
    → map binding_of clones ≡ map binding_of entries
map-clone [] [] same = refl
map-clone [] (clone ∷ clones) same = absurd same
map-clone (entry ∷ entries) [] same = absurd same
map-clone (entry ∷ entries) (clone ∷ clones) same =
    let first : binding_of clone ≡ binding_of entry = cc (same.0.0, same.0.1) in
    ap (λ b. b ∷ map binding_of clones) first ∙ ap (λ more. binding_of entry ∷ more) (map-clone entries clones same.1)

-- after that of the root too
pub bindings_of-clone : (entries clones : List (String Global × AllocId))
    → AllZip (λ p q. (string_bytes q.0 ≡ string_bytes p.0) × (q.1 ≡ p.1)) entries clones
    → bindings_of clones ≡ bindings_of entries
bindings_of-clone entries clones same = ap (λ more. root_binding ∷ more) (map-clone entries clones same)
