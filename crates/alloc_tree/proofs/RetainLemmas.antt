-- One reference more, on rows.
use Rattle.std.proofs.Common.{◌↔◌, IsTrue, ltb, ◌≡◌, ℕ, ◌+◌, ◌≤◌, List, true, Option, Some, Result, Ok, refl, sym}
use Rattle.std.proofs.Common.{ap, ◌∙◌, arith}
use Rattle.std.specs.Option.{option_map_or}
use Rattle.std.proofs.lemmas.Bool.{lt-ltb, ltb-true}
use Rattle.mem_num.specs.declared.alloc_id.AllocId.{AllocId}
use Rattle.mem_num.specs.declared.buffer_ref.Ref.{Ref}
use Rattle.mem_model.specs.Balance.{raised}
use Rattle.mem_model.specs.Chunk.{Chunk, charges_of, retained, with_chunk, chunk_at}
use Rattle.mem_model.specs.Ledgers.{count_of, total_of}
use Rattle.mem_model.specs.References.{HasRoomFor, reference_to}
use Rattle.mem_model.specs.Retain.{retain_result}
use Rattle.mem_model.specs.TreeState.{TreeState, uses_of, ledgers_of, is_open}
use Rattle.mem_model.proofs.ChunkSumLemmas.{sum_by-with_chunk}
use Rattle.mem_model.proofs.LawfulReferenceLemmas.{lawful-with_chunk, lawful-retained}
use Rattle.mem_model.proofs.LedgerCountLemmas.{count_of-with_count, count_of-with_count_other}
use Rattle.mem_model.proofs.CallResultLemmas.{retain-given}
use Rattle.alloc_tree.specs.declared.row.Row.{Row}
use Rattle.alloc_tree.specs.declared.solo_tree.SoloTree.TheInside.{Inside}
use Rattle.alloc_tree.specs.Chunks.{with_changed}
use Rattle.alloc_tree.specs.Fields.{IsSoundSolo, state_of, tree_of}
use Rattle.alloc_tree.specs.Rows.{nodes_in, held_by, uses_in, ChangesUses}
use Rattle.alloc_tree.proofs.ChangeLemmas.{charged-with_chunk, ledger_count, ledger_begins, ledger_goes_on}
use Rattle.alloc_tree.proofs.DoneLemmas.{IsDone, done, tree_is, balance_same, IsReferred}
use Rattle.alloc_tree.proofs.UseLemmas.{uses_more}

module _ {f : Inside} {of : Ref} {chunk : Chunk} (sound : IsSoundSolo f) (h : IsReferred (state_of f) of chunk) (target : AllocId)
    (open_ : is_open (state_of f) target.0 ≡ true) where
  -- the ledgers, where the chunk has one reference more
  retained_ledgers : (n : ℕ)
      → ledgers_of (record (state_of f) { chunks = with_chunk (retained target.0 chunk) f.chunks }) n + ledger_count n chunk
      ≡ ledgers_of (state_of f) n + ledger_count n (retained target.0 chunk)
  retained_ledgers n = sum_by-with_chunk (ledger_count n) chunk.number (retained target.0 chunk) chunk f.chunks refl sound.lawful.in_order
      h.own

  -- it has one on the target's ledger
  retained_some : 1 ≤ count_of (retained target.0 chunk).ledgers target.0
  retained_some = omega (arith, count_of-with_count chunk.ledgers target.0 (count_of chunk.ledgers target.0 + 1) h.lawful.in_order)

  -- rows that have its uses
  retained_by : (used : List (Option Row)) (left : List Chunk) (calls : ℕ) (counts : ℕ → ℕ)
      → left ≡ with_changed (retained target.0) of.chunk f.chunks → ChangesUses f.rows used counts
      → ((n : ℕ) → uses_in used n ≡ uses_of (record (state_of f) { chunks = with_chunk (retained target.0 chunk) f.chunks }) n)
      → IsDone (tree_of f) (retain_result (state_of f) of target) (record f { rows = used; chunks = left; calls = calls })
      (Ok (reference_to chunk target))
  retained_by used left calls counts are uses counted =
      let state = state_of f in
      let more = retained target.0 chunk in
      let new : Inside = record f { rows = used; chunks = left; calls = calls } in
      let left_is : left ≡ with_chunk more f.chunks = are
      ∙ ap (λ o. option_map_or (λ c. with_chunk (retained target.0 c) f.chunks) o f.chunks) h.at_number in
      done f new (retain-given state of target chunk h.found open_) (tree_is new uses.nodes left_is) (uses.length ∙ sound.places)
      (lawful-with_chunk state more sound.lawful (lawful-retained state chunk target.0 h.lawful open_))
      (record {
        held = balance_same (nodes_in f.rows) (charges_of f.chunks) (charges_of (with_chunk more f.chunks)) (held_by f.rows)
            (held_by used) sound.numbers.held uses.held
            (λ n. omega (arith, charged-with_chunk f.chunks chunk more n sound.lawful.in_order h.own));
        uses = counted;
      })
      uses.peaks

  -- a reference more on a ledger that was there
  pub retained_again : (left : List Chunk) (calls : ℕ) → 1 ≤ count_of chunk.ledgers target.0
      → left ≡ with_changed (retained target.0) of.chunk f.chunks
      → IsDone (tree_of f) (retain_result (state_of f) of target) (record f { chunks = left; calls = calls })
      (Ok (reference_to chunk target))
  retained_again left calls had are =
      let more = count_of chunk.ledgers target.0 + 1 in
      retained_by f.rows left calls (uses_in f.rows) are (record { nodes = refl; held = refl; peaks = refl; uses = refl; length = refl })
      (λ n. omega (
        arith,
        sound.numbers.uses n,
        retained_ledgers n,
        ledger_goes_on n target.0 chunk (retained target.0 chunk) retained_some had
            (count_of-with_count_other chunk.ledgers target.0 more n h.lawful.in_order),
      ))

  -- or on a new one, which is a use
  pub retained_anew : (used : List (Option Row)) (left : List Chunk) (calls : ℕ) → count_of chunk.ledgers target.0 ≡ 0
      → left ≡ with_changed (retained target.0) of.chunk f.chunks
      → ChangesUses f.rows used (raised (uses_in f.rows) target.0 1)
      → IsDone (tree_of f) (retain_result (state_of f) of target) (record f { rows = used; chunks = left; calls = calls })
      (Ok (reference_to chunk target))
  retained_anew used left calls had_none are uses =
      let more = retained target.0 chunk in
      let after : TreeState = record (state_of f) { chunks = with_chunk more f.chunks } in
      retained_by used left calls (raised (uses_in f.rows) target.0 1) are uses
      (uses_more f.rows used target.0 (uses_of (state_of f)) (uses_of after) uses sound.numbers.uses (λ n. omega (
        arith,
        retained_ledgers n,
        ledger_begins n target.0 chunk more retained_some had_none
            (count_of-with_count_other chunk.ledgers target.0 (count_of chunk.ledgers target.0 + 1) n h.lawful.in_order),
      )))

-- the reference that is given, with the size that was read
pub reference_is : {E : Type 0} (chunk : Chunk) (target : AllocId) (size : ℕ) → size ≡ chunk.size
    → ◌≡◌ {A = Result Ref E} (Ok (record { chunk = chunk.number; alloc = target; size = size })) (Ok (reference_to chunk target))
reference_is chunk target size is = λ i. Ok (record { chunk = chunk.number; alloc = target; size = is i })

-- a chunk that was found has room for one more reference exactly where 32 bits hold it
pub room_is : (state : TreeState) (of : Ref) (chunk : Chunk) (total most : ℕ) → Some chunk ≡ chunk_at state.chunks of.chunk
    → total ≡ total_of chunk.ledgers
    → most ≡ 4294967295 → IsTrue (ltb total most) ↔ HasRoomFor state of
room_is state of chunk total most at counted limit = (
  λ less found is. (
      let both : Some chunk ≡ Some found = at ∙ is in
      let same : chunk ≡ found = cc in
      omega (arith, ltb-true total most less, counted, limit, ap (λ (c : Chunk). total_of c.ledgers) same)),
  λ room. lt-ltb total most (omega (arith, room chunk (sym at), counted, limit)),
)
