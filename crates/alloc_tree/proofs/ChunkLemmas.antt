-- Chunks as entries of an ordered map.
use Rattle.std.proofs.Common.{◌≡◌, ℕ, zero, suc, ◌<◌, List, [], ◌∷◌, ◌++◌, map, get_or, not, eqb, Option, Some, None}
use Rattle.std.proofs.Common.{All, refl, sym, ap, subst, ◌∙◌, arith, inl, inr}
use Rattle.std.specs.BTreeMap.{insert_entry, is_at}
use Rattle.std.specs.Map.{remove_entry, set_value, lookup}
use Rattle.std.specs.Option.{option_map, option_map_or}
use Rattle.std.specs.Ordering.{nat_cmp, is_eq}
use Rattle.std.specs.declared.cmp.Ordering.TheVariants.{Greater}
use Rattle.std.specs.Cmp.{nat_cmp_is, unsigned_tied}
use Rattle.std.proofs.lemmas.Bool.{cases_Bool, eqb-true}
use Rattle.std.proofs.lemmas.List.{map-append}
use Rattle.std.proofs.lemmas.List.Elements.{All-head, All-tail}
use Rattle.std.proofs.lemmas.List.Kept.{AllPairs-filter}
use Rattle.std.proofs.lemmas.List.Quantifiers.{all_pairs_push}
use Rattle.std.proofs.lemmas.Map.Steps.{set_value_same}
use Rattle.mem_num.specs.declared.alloc_id.AllocId.{AllocId}
use Rattle.mem_model.specs.declared.ledger.Ledger.{Ledger}
use Rattle.mem_model.specs.Chunk.{Chunk, new_chunk, in_place_of, with_chunk, chunk_at, AreInNumberOrder}
use Rattle.mem_model.specs.Release.{without_chunk}
use Rattle.mem_model.proofs.ChunkSumLemmas.{later-other, with_chunk-none, without_chunk-none}
use Rattle.mem_model.proofs.LawfulReferenceLemmas.{number_kept}
use Rattle.mem_model.proofs.OpenLemmas.{AllPairs-map, pairs_tail}
use Rattle.ledger_map.specs.LedgerState.{LedgerState}
use Rattle.alloc_tree.specs.Chunks.{chunk_of, with_changed}
use Rattle.alloc_tree.proofs.UseLemmas.{same_test}

-- the keys below one are the numbers of the chunks
keys_below : (entries : List (ℕ × LedgerState)) (k : ℕ) → All (λ chunk. chunk.number < k) (map chunk_of entries)
    → All (λ e. e.0 < k) entries
keys_below [] k below i d within = absurd (omega arith)
keys_below (e ∷ es) k below zero d within = All-head (λ (c : Chunk). c.number < k) (chunk_of e) (map chunk_of es) below
keys_below (e ∷ es) k below (suc i) d within =
    keys_below es k (All-tail (λ (c : Chunk). c.number < k) (chunk_of e) (map chunk_of es) below) i d (omega arith)

-- a key that is greater than all goes last
insert_entry-last : {X : Type 0} (entries : List (ℕ × X)) (k : ℕ) (v : X) → All (λ e. e.0 < k) entries
    → insert_entry nat_cmp entries k v ≡ entries ++ (k, v) ∷ []
insert_entry-last [] k v below = refl
insert_entry-last (e ∷ es) k v below =
    let less : e.0 < k = All-head (λ x. x.0 < k) e es below in
    let greater : nat_cmp k e.0 ≡ Greater = sym (nat_cmp_is k e.0 Greater less) in
    rw greater (ap (λ xs. e ∷ xs) (insert_entry-last es k v (All-tail (λ x. x.0 < k) e es below)))

-- chunks of a number are the same by their parts
pub same_chunk : (k : ℕ) {size size' : ℕ} {owner owner' : AllocId} {ledgers ledgers' : List Ledger} → size ≡ size'
    → owner ≡ owner' → ledgers ≡ ledgers'
    → ◌≡◌ {A = Chunk} (record { number = k; size = size; owner = owner; ledgers = ledgers })
    (record { number = k; size = size'; owner = owner'; ledgers = ledgers' })
same_chunk k sizes owners ledgers = λ i. record { number = k; size = sizes i; owner = owners i; ledgers = ledgers i }

-- a chunk whose number is greater than any other's goes last
module _ (entries new : List (ℕ × LedgerState)) (k : ℕ) (made : LedgerState)
    (below : All (λ chunk. chunk.number < k) (map chunk_of entries))
    (is : new ≡ insert_entry nat_cmp entries k made) where
  push_chunk : map chunk_of new ≡ map chunk_of entries ++ chunk_of (k, made) ∷ []
  push_chunk = ap (map chunk_of) (is ∙ insert_entry-last entries k made (keys_below entries k below))
      ∙ map-append chunk_of entries ((k, made) ∷ [])

  -- also one whose ledgers were just made
  pub pushed : (size : ℕ) (owner : AllocId) → made.size ≡ size → made.owner ≡ owner
      → made.ledgers ≡ record { at = owner; count = 1 } ∷ []
      → map chunk_of new ≡ map chunk_of entries ++ new_chunk k size owner ∷ []
  pushed size owner bytes own one = push_chunk ∙ ap (λ chunk. map chunk_of entries ++ chunk ∷ []) (same_chunk k bytes own one)

  pub pushed_in_order : AreInNumberOrder (map chunk_of entries) → AreInNumberOrder (map chunk_of new)
  pushed_in_order ordered =
      subst AreInNumberOrder (sym push_chunk) (all_pairs_push (λ (older newer : Chunk). older.number < newer.number) (map chunk_of entries)
      (chunk_of (k, made)) ordered below)

-- a key is at its chunk's number
at_number : (k n : ℕ) → is_eq (nat_cmp k n) ≡ eqb n k
at_number k n = unsigned_tied k n ∙ same_test k n

-- the chunk that a look-up finds
find_chunk : (entries : List (ℕ × LedgerState)) (k : ℕ) → option_map (λ l. chunk_of (k, l)) (lookup (is_at (nat_cmp k)) entries)
    ≡ chunk_at (map chunk_of entries) k
find_chunk [] k = refl
find_chunk (e ∷ es) k = elim (cases_Bool (eqb e.0 k)) [
  | inl same ↦ rw (at_number k e.0 ∙ same, same) (ap (λ n. Some (chunk_of (n, e.1))) (sym (eqb-true e.0 k same)))
  | inr other ↦ rw (at_number k e.0 ∙ other, other) (find_chunk es k)
]

-- what a look-up answers, where it answers with a reference
pub found_chunk : {R : Type 0} (now : R → LedgerState) (found : Option R) (entries : List (ℕ × LedgerState)) (k : ℕ)
    → option_map now found ≡ lookup (is_at (nat_cmp k)) entries
    → option_map (λ r. chunk_of (k, now r)) found ≡ chunk_at (map chunk_of entries) k
found_chunk now None entries k is = ap (option_map (λ l. chunk_of (k, l))) is ∙ find_chunk entries k
found_chunk now (Some r) entries k is = ap (option_map (λ l. chunk_of (k, l))) is ∙ find_chunk entries k

-- the order of all but the first
pub order_tail : (chunk : Chunk) (chunks : List Chunk) → AreInNumberOrder (chunk ∷ chunks) → AreInNumberOrder chunks
order_tail chunk chunks ordered = pairs_tail (λ (older newer : Chunk). older.number < newer.number) chunk chunks ordered

-- the entry that goes is that of the chunk
pub remove_chunk : (entries : List (ℕ × LedgerState)) (k : ℕ) → AreInNumberOrder (map chunk_of entries)
    → map chunk_of (remove_entry (is_at (nat_cmp k)) entries) ≡ without_chunk k (map chunk_of entries)
remove_chunk [] k ordered = refl
remove_chunk (e ∷ es) k ordered =
    let chunks = map chunk_of es in
    elim (cases_Bool (eqb e.0 k)) [
      | inl same ↦ rw (
        at_number k e.0 ∙ same,
        same,
      ) (sym (without_chunk-none k chunks (later-other (chunk_of e) chunks k ordered (eqb-true e.0 k same))))
      | inr other ↦ rw (
        at_number k e.0 ∙ other,
        other,
      ) (ap (λ xs. chunk_of e ∷ xs) (remove_chunk es k (order_tail (chunk_of e) chunks ordered)))
    ]

-- the entry that changes is that of the chunk
pub set_chunk : (entries : List (ℕ × LedgerState)) (k : ℕ) (w : LedgerState) → AreInNumberOrder (map chunk_of entries)
    → map chunk_of (set_value (is_at (nat_cmp k)) entries w) ≡ with_chunk (chunk_of (k, w)) (map chunk_of entries)
set_chunk [] k w ordered = refl
set_chunk (e ∷ es) k w ordered =
    let chunks = map chunk_of es in
    elim (cases_Bool (eqb e.0 k)) [
      | inl same ↦ (let number : e.0 ≡ k = eqb-true e.0 k same in
          let later = with_chunk-none (chunk_of (k, w)) chunks (later-other (chunk_of e) chunks k ordered number) in
          rw (at_number k e.0 ∙ same, same)
          (ap (λ n. chunk_of (n, w) ∷ chunks) number ∙ ap (λ xs. chunk_of (k, w) ∷ xs) (sym later)))
      | inr other ↦ rw (
        at_number k e.0 ∙ other,
        other,
      ) (ap (λ xs. chunk_of e ∷ xs) (set_chunk es k w (order_tail (chunk_of e) chunks ordered)))
    ]

-- the order of what stays
pub without_in_order : (chunks : List Chunk) (k : ℕ) → AreInNumberOrder chunks → AreInNumberOrder (without_chunk k chunks)
without_in_order chunks k ordered = AllPairs-filter (λ (older newer : Chunk). older.number < newer.number)
    (λ chunk. not (eqb chunk.number k)) chunks ordered

with_in_order : (new : Chunk) (chunks : List Chunk) → AreInNumberOrder chunks → AreInNumberOrder (with_chunk new chunks)
with_in_order new chunks ordered =
    AllPairs-map (λ (older newer : Chunk). older.number < newer.number) (in_place_of new) chunks (λ i j d lt within.
    omega (arith, ordered i j d lt within, number_kept new (get_or chunks i d), number_kept new (get_or chunks j d)))

-- what was found, changed
module _ (entries : List (ℕ × LedgerState)) {new : List (ℕ × LedgerState)} (k : ℕ) (w : LedgerState)
    (ordered : AreInNumberOrder (map chunk_of entries)) (is : new ≡ set_value (is_at (nat_cmp k)) entries w) where
  pub set_is : map chunk_of new ≡ with_chunk (chunk_of (k, w)) (map chunk_of entries)
  set_is = ap (map chunk_of) is ∙ set_chunk entries k w ordered

  pub set_in_order : AreInNumberOrder (map chunk_of new)
  set_in_order = subst AreInNumberOrder (sym set_is) (with_in_order (chunk_of (k, w)) (map chunk_of entries) ordered)

module _ (entries : List (ℕ × LedgerState)) (k : ℕ) {v : LedgerState} (found : lookup (is_at (nat_cmp k)) entries ≡ Some v) where
  -- what was found stands at its number
  pub found_at : chunk_at (map chunk_of entries) k ≡ Some (chunk_of (k, v))
  found_at = sym (find_chunk entries k) ∙ ap (option_map (λ l. chunk_of (k, l))) found

  -- changed
  pub set_changed : {new : List (ℕ × LedgerState)} (change : Chunk → Chunk) (w : LedgerState)
      → AreInNumberOrder (map chunk_of entries)
      → new ≡ set_value (is_at (nat_cmp k)) entries w
      → chunk_of (k, w) ≡ change (chunk_of (k, v)) → map chunk_of new ≡ with_changed change k (map chunk_of entries)
  set_changed change w ordered is changed =
      let chunks = map chunk_of entries in
      set_is entries k w ordered is ∙ ap (λ chunk. with_chunk chunk chunks) changed
      ∙ sym (ap (λ o. option_map_or (λ chunk. with_chunk (change chunk) chunks) o chunks) found_at)

  -- as it was
  pub set_same : {new : List (ℕ × LedgerState)} (w : LedgerState) → AreInNumberOrder (map chunk_of entries)
      → new ≡ set_value (is_at (nat_cmp k)) entries w
      → chunk_of (k, w) ≡ chunk_of (k, v) → map chunk_of new ≡ map chunk_of entries
  set_same w ordered is same =
      set_is entries k w ordered is ∙ ap (λ chunk. with_chunk chunk (map chunk_of entries)) same ∙ sym (set_chunk entries k v ordered)
      ∙ ap (map chunk_of) (set_value_same (is_at (nat_cmp k)) entries v found)

module _ (entries : List (ℕ × LedgerState)) (k : ℕ) (none : lookup (is_at (nat_cmp k)) entries ≡ None) where
  -- where nothing is found, nothing changes
  pub none_at : chunk_at (map chunk_of entries) k ≡ None
  none_at = sym (find_chunk entries k) ∙ ap (option_map (λ l. chunk_of (k, l))) none

  pub none_changed : (change : Chunk → Chunk) → map chunk_of entries ≡ with_changed change k (map chunk_of entries)
  none_changed change =
      let chunks = map chunk_of entries in
      sym (ap (λ o. option_map_or (λ chunk. with_chunk (change chunk) chunks) o chunks) none_at)
