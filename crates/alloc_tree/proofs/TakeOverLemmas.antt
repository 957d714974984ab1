-- Taking the charge for a chunk over, on rows.
use Rattle.std.proofs.Common.{◌≡◌, ◌≢◌, ℕ, ◌+◌, ◌<◌, ◌≤◌, ◌^◌, List, [], ◌∷◌, cond, eqb, Bool, true}
use Rattle.std.proofs.Common.{false, not, Option, Some, refl, sym, ap, subst, ◌∙◌, arith, eq-eqb, ne_eqb}
use Rattle.std.specs.Option.{ForSome, option_map_or}
use Rattle.std.proofs.lemmas.Bool.{eqb-true, eqb-false, not-false}
use Rattle.mem_num.specs.declared.alloc_id.AllocId.{AllocId}
use Rattle.mem_num.specs.declared.buffer_ref.Ref.{Ref}
use Rattle.mem_model.specs.declared.charge.Charge.{Charge}
use Rattle.mem_model.specs.Balance.{amount_for}
use Rattle.mem_model.specs.Charge.{amount_at}
use Rattle.mem_model.specs.Chunk.{Chunk, charge_of, charges_of, with_chunk, chunk_at}
use Rattle.mem_model.specs.Force.{force_sample, is_within_limits}
use Rattle.mem_model.specs.LawfulChunk.{IsLawfulChunk}
use Rattle.mem_model.specs.Ledgers.{count_of}
use Rattle.mem_model.specs.MeasuredTree.{MeasuredTree}
use Rattle.mem_model.specs.PeakSample.{PeakSample}
use Rattle.mem_model.specs.TreeState.{TreeState, CallResult, unchanged, is_open}
use Rattle.mem_model.proofs.ChunkSumLemmas.{sum_by-with_chunk}
use Rattle.mem_model.proofs.LawfulReferenceLemmas.{lawful-with_chunk}
use Rattle.mem_model.proofs.ReferenceLemmas.{referrer_open, owner_open}
use Rattle.alloc_tree.specs.declared.row.Row.{Row}
use Rattle.ledger_map.specs.LedgerState.{LedgerState}
use Rattle.alloc_tree.specs.declared.solo_tree.SoloTree.TheInside.{Inside}
use Rattle.alloc_tree.specs.Chunks.{chunk_of, with_changed}
use Rattle.alloc_tree.specs.Fields.{IsSoundSolo, state_of, tree_of}
use Rattle.alloc_tree.specs.Rows.{held_by, IsOpenAt}
use Rattle.alloc_tree.specs.TakeOver.{take_over_from, take_over_result}
use Rattle.alloc_tree.specs.Walk.{KeepsNodes, MovesAmount, MovesCharge}
use Rattle.alloc_tree.proofs.ChangeLemmas.{charged-with_chunk, ledger_count}
use Rattle.alloc_tree.proofs.DoneLemmas.{IsDone, done, tree_is, numbered_lawful}
use Rattle.alloc_tree.proofs.StateLemmas.{room_for, open_in}

-- a chunk whose charge is taken over: the source is charged for it, and the target is another allocator that refers to it
pub record IsTakenOver (f : Inside) (of : Ref) (target : AllocId) (chunk : Chunk) (size : ℕ) : Type 0 where
  pub sound : IsSoundSolo f
  pub at_number : chunk_at f.chunks of.chunk ≡ Some chunk
  pub lawful : IsLawfulChunk (is_open (state_of f)) chunk
  pub number : chunk.number ≡ of.chunk
  pub bytes : size ≡ chunk.size
  pub owner : chunk.owner.0 ≡ of.alloc.0
  pub apart : target.0 ≢ of.alloc.0
  pub counted : 1 ≤ count_of chunk.ledgers target.0

-- what was read says so
pub read_for_move : {f : Inside} {tree : MeasuredTree} (of : Ref) (target : AllocId) (ledgers : LedgerState) (owner : AllocId) {size : ℕ}
    → IsSoundSolo f → tree_of f ≡ tree
    → ForSome (chunk_at tree.state.chunks of.chunk) (λ chunk. 1 ≤ count_of chunk.ledgers target.0)
    → Some (chunk_of (of.chunk, ledgers)) ≡ chunk_at f.chunks of.chunk
    → owner ≡ ledgers.owner → false ≡ not (eqb owner.0 of.alloc.0) → false ≡ eqb target.0 of.alloc.0 → size ≡ ledgers.size
    → IsTakenOver f of target (chunk_of (of.chunk, ledgers)) size
read_for_move of target ledgers owner sound view refers at own owns other bytes =
    let chunk = chunk_of (of.chunk, ledgers) in
    record {
      sound = sound;
      at_number = sym at;
      lawful = (numbered_lawful of.chunk chunk sound.lawful (sym at)).0;
      number = refl;
      bytes = bytes;
      owner = ap (λ (a : AllocId). a.0) (sym own) ∙ eqb-true owner.0 of.alloc.0 (not-false (eqb owner.0 of.alloc.0) (sym owns));
      apart = eqb-false target.0 of.alloc.0 (sym other);
      counted = refers chunk (ap (λ (t : MeasuredTree). chunk_at t.state.chunks of.chunk) (sym view) ∙ sym at);
    }

-- the chunks once the target is charged
abbrev pub chunks_moved : List Chunk → Chunk → AllocId → List Chunk
chunks_moved chunks chunk target = with_chunk (record chunk { owner = target }) chunks

outcome : TreeState → List PeakSample → Bool → CallResult Bool
outcome state samples answer = record { answer = answer; state = state; samples = samples }

module _ {f : Inside} {of : Ref} {target : AllocId} {chunk : Chunk} {size : ℕ} (h : IsTakenOver f of target chunk size) where
  -- both are open, and there is room for the charge
  pub source_open : IsOpenAt f.rows of.alloc.0
  source_open = subst (IsOpenAt f.rows) h.owner (open_in f chunk.owner.0 (owner_open (state_of f) chunk h.lawful))

  pub target_open : IsOpenAt f.rows target.0
  target_open = open_in f target.0 (referrer_open (state_of f) chunk target.0 h.lawful h.counted)

  pub room_to_move : f.drawn < 2 ^ 32 → (n : ℕ) → held_by f.rows n + size < 2 ^ 64
  room_to_move few = room_for h.sound size few (omega (arith, h.bytes, h.lawful.few_bytes))

  own : chunk_at f.chunks chunk.number ≡ Some chunk
  own = ap (chunk_at f.chunks) h.number ∙ h.at_number

  -- the charge goes from the source to the target
  pub charge_moves : MovesAmount (charges_of f.chunks) (charges_of (chunks_moved f.chunks chunk target)) of.alloc target size
  charge_moves n =
      let new : Chunk = record chunk { owner = target } in
      let old : amount_at n (charge_of chunk) ≡ amount_for (Some of.alloc) size n = ap (λ m. cond (eqb m n) chunk.size 0) h.owner
      ∙ ap (λ (s : ℕ). cond (eqb of.alloc.0 n) s 0) (sym h.bytes) in
      let its : amount_at n (charge_of new) ≡ amount_for (Some target) size n =
      ap (λ (s : ℕ). cond (eqb target.0 n) s 0) (sym h.bytes) in
      omega (arith, old, its, charged-with_chunk f.chunks chunk new n h.sound.lawful.in_order own)

  -- what the definition says of it
  take_over_is : (fits : Bool) → fits ≡ is_within_limits (state_of f) (record { at = target; amount = size })
      → take_over_result (state_of f) of target
      ≡ record {
        answer = fits;
        state = record (state_of f) { chunks = chunks_moved f.chunks chunk target };
        samples = force_sample (state_of f) (record { at = target; amount = size }) ∷ [];
      }
  unfolding outcome
  take_over_is fits told =
      let state = state_of f in
      let owns : eqb chunk.owner.0 of.alloc.0 ≡ true = eq-eqb chunk.owner.0 of.alloc.0 h.owner in
      let other : eqb target.0 of.alloc.0 ≡ false = ne_eqb target.0 of.alloc.0 h.apart in
      let after : TreeState = record state { chunks = chunks_moved f.chunks chunk target } in
      let force : ℕ → Charge = λ s. record { at = target; amount = s } in
      let result : ℕ → CallResult Bool = λ s. outcome after (force_sample state (force s) ∷ []) (is_within_limits state (force s)) in
      let from : take_over_from state of.alloc target chunk ≡ result chunk.size = rw (owns, other) refl in
      ap (λ o. option_map_or (take_over_from state of.alloc target) o (unchanged state true)) h.at_number ∙ from
      ∙ ap result (sym h.bytes) ∙ ap (outcome after (force_sample state (force size) ∷ [])) (sym told)

  -- the rows and the chunks afterwards
  pub taken_over_done : (moved : List (Option Row)) (left : List Chunk) (fits : Bool) → KeepsNodes f.rows moved
      → MovesCharge (charges_of f.chunks) (charges_of (chunks_moved f.chunks chunk target))
      (record { at = target; amount = size }) f.rows moved fits
      → left ≡ with_changed (λ c. record c { owner = target }) of.chunk f.chunks
      → IsDone (tree_of f) (take_over_result (state_of f) of target) (record f { rows = moved; chunks = left }) fits
  taken_over_done moved left fits kept moves are =
      let new : Chunk = record chunk { owner = target } in
      let after : Inside = record f { rows = moved; chunks = left } in
      let left_is : left ≡ chunks_moved f.chunks chunk target = are
      ∙ ap (λ o. option_map_or (λ c. chunks_moved f.chunks c target) o f.chunks) h.at_number in
      let l = h.lawful in
      let lawful : IsLawfulChunk (is_open (state_of f)) new = record {
        some = l.some;
        some_bytes = l.some_bytes;
        few_bytes = l.few_bytes;
        in_order = l.in_order;
        owner = h.counted;
        open_ = l.open_;
      } in
      done f after (take_over_is fits moves.fits) (tree_is after kept.nodes left_is) (kept.length ∙ h.sound.places)
      (lawful-with_chunk (state_of f) new h.sound.lawful lawful)
      (record {
        held = moves.held;
        uses = λ n. ap (λ (g : ℕ → ℕ). g n) kept.uses ∙ h.sound.numbers.uses n
            ∙ omega (arith, sum_by-with_chunk (ledger_count n) new.number new chunk f.chunks refl h.sound.lawful.in_order own);
      })
      moves.peaks
