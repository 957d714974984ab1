-- The chunk of a reference, and what a release leaves of it.
use Rattle.std.proofs.Common.{◌≡◌, ◌≢◌, ℕ, ◌+◌, ◌-◌, ◌≤◌, List, [], ◌∷◌, map, true, false, cond, eqb, ltb}
use Rattle.std.proofs.Common.{Option, Some, None, Result, Ok, Err, OnErr, All, refl, sym, ap, subst, ◌∙◌, arith, inl, inr, eq-eqb}
use Rattle.std.proofs.Common.{lt-ltb, le-ltb, ne_eqb}
use Rattle.std.specs.BTreeMap.{is_at}
use Rattle.std.specs.Map.{remove_entry, set_value, lookup}
use Rattle.std.specs.List.{find}
use Rattle.std.specs.Option.{option_map, option_map_or}
use Rattle.std.specs.Ordering.{nat_cmp}
use Rattle.std.proofs.lemmas.Bool.{cases_Bool, cases_eq, eqb-true}
use Rattle.std.proofs.lemmas.List.Elements.{All-head, All-tail}
use Rattle.mem_num.specs.declared.alloc_id.AllocId.{AllocId}
use Rattle.mem_num.specs.declared.buffer_ref.Ref.{Ref}
use Rattle.mem_model.specs.declared.ledger.Ledger.{Ledger}
use Rattle.mem_model.specs.Chunk.{Chunk, has_ledger, next_owner, retained, released, with_chunk, chunk_at, AreInNumberOrder}
use Rattle.mem_model.specs.Ledgers.{count_of, with_count, ChangesCount}
use Rattle.mem_model.specs.References.{refers_to}
use Rattle.mem_model.specs.Release.{without_chunk, after_release}
use Rattle.mem_model.proofs.ChunkSumLemmas.{later-other}
use Rattle.ledger_map.specs.LedgerState.{LedgerState, AreLawfulLedgers, IsUnchanged, AddsOne, TakesOne}
use Rattle.ledger_map.specs.Release.{after_of, new_owner}
use Rattle.ledger_map.specs.declared.after.After.{After}
use Rattle.alloc_tree.specs.Chunks.{chunk_of, after_of_release, without_reference}
use Rattle.alloc_tree.proofs.ChunkLemmas.{same_chunk, order_tail, found_at, set_is, remove_chunk, set_in_order, without_in_order}

-- a chunk that an allocator has a ledger on
abbrev with_ledger : AllocId → Option Chunk → Option Chunk
with_ledger at None = None
with_ledger at (Some chunk) = cond (has_ledger at.0 chunk) (Some chunk) None

none_refers : (of : Ref) (chunks : List Chunk) → All (λ chunk. chunk.number ≢ of.chunk) chunks → find (refers_to of) chunks ≡ None
none_refers of [] others = refl
none_refers of (c ∷ cs) others =
    let P : Chunk → Type 0 = λ chunk. chunk.number ≢ of.chunk in
    rw (ne_eqb c.number of.chunk (All-head P c cs others)) (none_refers of cs (All-tail P c cs others))

-- a reference is to the chunk of its number, if its allocator has a ledger there
find_refers : (of : Ref) (chunks : List Chunk) → AreInNumberOrder chunks
    → find (refers_to of) chunks ≡ with_ledger of.alloc (chunk_at chunks of.chunk)
find_refers of [] ordered = refl
find_refers of (c ∷ cs) ordered = elim (cases_Bool (eqb c.number of.chunk)) [
  | inl same ↦ (
      let rest = none_refers of cs (later-other c cs of.chunk ordered (eqb-true c.number of.chunk same)) in
      rw same (elim (cases_Bool (has_ledger of.alloc.0 c)) [ inl has ↦ rw has refl | inr hasn't ↦ rw hasn't rest ]))
  | inr other ↦ rw other (find_refers of cs (order_tail c cs ordered))
]

module _ (of : Ref) (chunks : List Chunk) (ordered : AreInNumberOrder chunks) where
  -- no reference is to a chunk that isn't there
  pub refers_to_none : chunk_at chunks of.chunk ≡ None → find (refers_to of) chunks ≡ None
  refers_to_none none = find_refers of chunks ordered ∙ ap (with_ledger of.alloc) none

  -- nor one whose allocator has none
  pub refers_without_count : {chunk : Chunk} → chunk_at chunks of.chunk ≡ Some chunk → count_of chunk.ledgers of.alloc.0 ≡ 0
      → find (refers_to of) chunks ≡ None
  refers_without_count {chunk = chunk} at none =
      find_refers of chunks ordered ∙ ap (with_ledger of.alloc) at
      ∙ rw (le-ltb 0 (count_of chunk.ledgers of.alloc.0) (omega (arith, none))) refl

  -- each other is to the chunk of its number
  pub refers_with_count : {chunk : Chunk} → chunk_at chunks of.chunk ≡ Some chunk → count_of chunk.ledgers of.alloc.0 ≢ 0
      → find (refers_to of) chunks ≡ Some chunk
  refers_with_count {chunk = chunk} at some =
      find_refers of chunks ordered ∙ ap (with_ledger of.alloc) at
      ∙ rw (lt-ltb 0 (count_of chunk.ledgers of.alloc.0) (omega (arith, some))) refl

-- the owner that the answer names is the next one
next_is : (n : ℕ) (owner : AllocId) (old left : List Ledger) → ChangesCount old left n (count_of old n - 1)
    → 1 ≤ count_of old owner.0 → new_owner owner (after_of n owner left) ≡ next_owner owner left
next_is n owner old [] changes some = refl
next_is n owner old (first ∷ rest) changes some =
    let left = first ∷ rest in
    elim (cases_Bool (ltb 0 (count_of left n))) [
      | inl remains ↦ elim (cases_eq owner.0 n) [
        | inl same ↦ (let own : ltb 0 (count_of left owner.0) ≡ true = ap (λ m. ltb 0 (count_of left m)) same ∙ remains in
            rw (remains, own) refl)
        | inr other ↦ (let own : ltb 0 (count_of left owner.0) ≡ true =
            lt-ltb 0 (count_of left owner.0) (omega (arith, changes.others owner.0 other, some)) in rw (remains, own) refl)
      ]
      | inr gone ↦ elim (cases_eq owner.0 n) [
        | inl same ↦ (let own : ltb 0 (count_of left owner.0) ≡ false = ap (λ m. ltb 0 (count_of left m)) same ∙ gone in
            let is : eqb owner.0 n ≡ true = eq-eqb owner.0 n same in rw (gone, own, is) refl)
        | inr other ↦ (let own : ltb 0 (count_of left owner.0) ≡ true =
            lt-ltb 0 (count_of left owner.0) (omega (arith, changes.others owner.0 other, some)) in
            let isn't : eqb owner.0 n ≡ false = ne_eqb owner.0 n other in rw (gone, own, isn't) refl)
      ]
    ]

-- what holds, holds where there is an error
pub err_holds : {T E P : Type 0} (r : Result T E) → P → OnErr r P
err_holds (Ok x) holds = tt
err_holds (Err e) holds = holds

-- a ledger's room doesn't change the chunk
pub unchanged_is_same : (k : ℕ) {old new : LedgerState} → IsUnchanged old new → chunk_of (k, new) ≡ chunk_of (k, old)
unchanged_is_same k h = same_chunk k h.size h.owner h.ledgers

-- once there is room, one reference more is the retained chunk's
pub added_is_retained : (k n : ℕ) {old roomy new : LedgerState} → IsUnchanged old roomy → AddsOne roomy new n
    → chunk_of (k, new) ≡ retained n (chunk_of (k, old))
added_is_retained k n room adds =
    same_chunk k (adds.size ∙ room.size) (adds.owner ∙ room.owner)
    (adds.ledgers ∙ ap (λ ls. with_count ls n (count_of ls n + 1)) room.ledgers)

-- ledgers from which a reference of the allocator n was taken
pub record IsTaken (n : ℕ) (old new : LedgerState) (after : After) : Type 0 where
  pub before : AreLawfulLedgers old
  pub lawful : AreLawfulLedgers new
  pub taken : TakesOne old new n
  pub answer : after ≡ after_of n old.owner new.ledgers
  pub owner : new.owner ≡ new_owner old.owner after
  pub counted : count_of old.ledgers n ≢ 0

-- they are the released chunk's
taken_is_released : (k n : ℕ) {old new : LedgerState} {after : After} → IsTaken n old new after
    → chunk_of (k, new) ≡ released n (chunk_of (k, old))
taken_is_released k n {old = old} {new = new} h =
    let some : 1 ≤ count_of old.ledgers old.owner.0 = h.before.owned (λ none. h.counted (ap (λ ls. count_of ls n) none)) in
    let owner : new.owner ≡ next_owner old.owner new.ledgers = h.owner ∙ ap (new_owner old.owner) h.answer
    ∙ next_is n old.owner old.ledgers new.ledgers h.taken.counts some in
    same_chunk k h.taken.size (owner ∙ ap (next_owner old.owner) h.taken.ledgers) h.taken.ledgers

-- whatever stood at a number goes
without_changed : (new : Chunk) (chunks : List Chunk) → without_chunk new.number (with_chunk new chunks)
    ≡ without_chunk new.number chunks
without_changed new [] = refl
without_changed new (c ∷ cs) = elim (cases_Bool (eqb c.number new.number)) [
  | inl same ↦ rw (same, eq-eqb new.number new.number refl) (without_changed new cs)
  | inr other ↦ rw (other, other) (ap (λ xs. c ∷ xs) (without_changed new cs))
]

module _ (of : Ref) (entries : List (ℕ × LedgerState)) {old new : LedgerState} {after : After}
    (ordered : AreInNumberOrder (map chunk_of entries))
    (found : lookup (is_at (nat_cmp of.chunk)) entries ≡ Some old) (h : IsTaken of.alloc.0 old new after) where
  -- the chunk was the reference's
  taken_found : find (refers_to of) (map chunk_of entries) ≡ Some (chunk_of (of.chunk, old))
  taken_found = refers_with_count of (map chunk_of entries) ordered (found_at entries of.chunk found) h.counted

  -- the answer is that of its release
  pub taken_answer : {size : ℕ} → size ≡ old.size
      → Some (after, size) ≡ option_map (after_of_release of.alloc) (find (refers_to of) (map chunk_of entries))
  taken_answer bytes =
      let answer = h.answer ∙ ap (after_of of.alloc.0 old.owner) h.taken.ledgers in
      ap Some (λ i. (answer i, bytes i)) ∙ sym (ap (option_map (after_of_release of.alloc)) taken_found)

  -- what is left, by what is left of the chunk
  taken_leaves : after_release (chunk_of (of.chunk, new)) (map chunk_of entries) ≡ without_reference of (map chunk_of entries)
  taken_leaves =
      let chunks = map chunk_of entries in
      ap (λ l. after_release l chunks) (taken_is_released of.chunk of.alloc.0 h)
      ∙ sym (ap (λ o. option_map_or (λ chunk. after_release (released of.alloc.0 chunk) chunks) o chunks) taken_found)

  -- with a ledger left, the chunk stays
  pub taken_stays : {entries' : List (ℕ × LedgerState)} → entries' ≡ set_value (is_at (nat_cmp of.chunk)) entries new
      → new.ledgers ≢ [] → map chunk_of entries' ≡ without_reference of (map chunk_of entries)
  taken_stays is remains =
      let left = chunk_of (of.chunk, new) in
      let has : has_ledger left.owner.0 left ≡ true =
      lt-ltb 0 (count_of new.ledgers new.owner.0) (omega (arith, h.lawful.owned remains)) in
      let stays : after_release left (map chunk_of entries) ≡ with_chunk left (map chunk_of entries) = rw has refl in
      set_is entries of.chunk new ordered is ∙ sym stays ∙ taken_leaves

  -- without one, it goes
  pub taken_goes : {entries' : List (ℕ × LedgerState)} → entries' ≡ set_value (is_at (nat_cmp of.chunk)) entries new
      → new.ledgers ≡ []
      → map chunk_of (remove_entry (is_at (nat_cmp of.chunk)) entries') ≡ without_reference of (map chunk_of entries)
  taken_goes {entries' = entries'} is none =
      let left = chunk_of (of.chunk, new) in
      let hasn't : has_ledger left.owner.0 left ≡ false = ap (λ ls. ltb 0 (count_of ls new.owner.0)) none in
      let goes : after_release left (map chunk_of entries) ≡ without_chunk of.chunk (map chunk_of entries) = rw hasn't refl in
      remove_chunk entries' of.chunk (set_in_order entries of.chunk new ordered is)
      ∙ ap (without_chunk of.chunk) (set_is entries of.chunk new ordered is)
      ∙ without_changed left (map chunk_of entries) ∙ sym goes ∙ taken_leaves

-- the order of what stays
pub removed_in_order : (entries : List (ℕ × LedgerState)) {entries' : List (ℕ × LedgerState)} (k : ℕ) (new : LedgerState)
    → AreInNumberOrder (map chunk_of entries) → entries' ≡ set_value (is_at (nat_cmp k)) entries new
    → AreInNumberOrder (map chunk_of (remove_entry (is_at (nat_cmp k)) entries'))
removed_in_order entries {entries' = entries'} k new ordered is =
    let order = set_in_order entries k new ordered is in
    subst AreInNumberOrder (sym (remove_chunk entries' k order)) (without_in_order (map chunk_of entries') k order)

-- where no reference is found, nothing changes
module _ (of : Ref) (chunks : List Chunk) (none : find (refers_to of) chunks ≡ None) where
  pub none_taken : None ≡ option_map (after_of_release of.alloc) (find (refers_to of) chunks)
  none_taken = sym (ap (option_map (after_of_release of.alloc)) none)

  pub none_left : chunks ≡ without_reference of chunks
  none_left = sym (ap (λ o. option_map_or (λ chunk. after_release (released of.alloc.0 chunk) chunks) o chunks) none)
