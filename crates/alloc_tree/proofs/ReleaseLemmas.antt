-- A reference less, on rows.
use Rattle.std.proofs.Common.{◌≡◌, ◌≢◌, ℕ, ◌+◌, ◌<◌, ◌≤◌, ◌^◌, List, [], ◌∷◌, cond, eqb, Bool, true}
use Rattle.std.proofs.Common.{false, not, Option, Some, None, Result, Ok, Err, sum_by, length, refl, sym, ap, subst, ◌∙◌, arith}
use Rattle.std.proofs.Common.{eq-eqb, ne_eqb, lt-ltb, le-ltb}
use Rattle.std.specs.List.{find}
use Rattle.std.specs.Option.{option_map, option_map_or}
use Rattle.mem_num.specs.declared.alloc_id.AllocId.{AllocId}
use Rattle.mem_num.specs.declared.buffer_ref.Ref.{Ref}
use Rattle.mem_num.specs.declared.released.Released.{Released as Refused}
use Rattle.mem_model.specs.declared.charge.Charge.{Charge}
use Rattle.mem_model.specs.Balance.{Balances, ExceedsByAmount, amount_for, lowered}
use Rattle.mem_model.specs.Charge.{charged_at}
use Rattle.mem_model.specs.Chunk.{Chunk, charges_of, has_ledger, next_owner}
use Rattle.mem_model.specs.Force.{force_sample}
use Rattle.mem_model.specs.LawfulState.{IsLawfulState}
use Rattle.mem_model.specs.Ledgers.{count_of}
use Rattle.mem_model.specs.MeasuredTree.{raised_peaks}
use Rattle.mem_model.specs.PeakSample.{PeakSample}
use Rattle.mem_model.specs.References.{refers_to, released_at}
use Rattle.mem_model.specs.Release.{after_release, release_result, release_samples}
use Rattle.mem_model.specs.TreeState.{TreeState, CallResult, uses_of}
use Rattle.mem_model.proofs.CoverLemmas.{charged_for_it, charged-sum}
use Rattle.mem_model.proofs.ChunkSumLemmas.{sum_by-without_chunk}
use Rattle.mem_model.proofs.LawfulReferenceLemmas.{lawful-after_release}
use Rattle.mem_model.proofs.CallResultLemmas.{release-nothing, release-given}
use Rattle.mem_model.proofs.ReferenceLemmas.{referrer_open}
use Rattle.ledger_map.specs.declared.after.After.{After}
use Rattle.ledger_map.specs.declared.after.After.TheVariants.{Same, Gone, Moved, Freed}
use Rattle.alloc_tree.specs.declared.row.Row.{Row}
use Rattle.alloc_tree.specs.declared.solo_tree.SoloTree.TheInside.{Inside}
use Rattle.alloc_tree.specs.Chunks.{after_of_release, without_reference}
use Rattle.alloc_tree.specs.Fields.{IsSoundSolo, state_of, tree_of}
use Rattle.alloc_tree.specs.Rows.{held_by, nodes_in, peaks_in, uses_in, ChangesUses, IsOpenAt}
use Rattle.alloc_tree.specs.Walk.{KeepsNodes, MovesAmount, MovesCharge}
use Rattle.alloc_tree.proofs.ChangeLemmas.{ledger_count, ledger_some, ledger_none}
use Rattle.alloc_tree.proofs.DoneLemmas.{IsDone, done, tree_is, balance_same, IsReferred, referred}
use Rattle.alloc_tree.proofs.ForceLemmas.{not_not}
use Rattle.alloc_tree.proofs.LeftLemmas.{left_of, answer_of, OwnerStays, left_same, left_gone, left_moved, left_freed, sum_remains}
use Rattle.alloc_tree.proofs.LeftLemmas.{sum_goes, ledgers_left, ledger_less}
use Rattle.alloc_tree.proofs.StateLemmas.{room_for, open_in}
use Rattle.alloc_tree.proofs.UseLemmas.{uses_less}

-- a reference that is given back: the chunk that it was to, and what the release of its ledger answered and left
pub record IsReleasing (f : Inside) (of : Ref) (after : After) (size : ℕ) (left : List Chunk) (chunk : Chunk) : Type 0 where
  pub sound : IsSoundSolo f
  pub referred : IsReferred (state_of f) of chunk
  pub answer : answer_of of chunk ≡ after
  pub bytes : size ≡ chunk.size
  pub are : left ≡ after_release (left_of of chunk) f.chunks

module _ {f : Inside} (sound : IsSoundSolo f) (of : Ref) where
  read_by : (after : After) (size : ℕ) (left : List Chunk) (found : Option Chunk) → find (refers_to of) f.chunks ≡ found
      → Some (after, size) ≡ option_map (after_of_release of.alloc) found
      → left ≡ option_map_or (λ chunk. after_release (left_of of chunk) f.chunks) found f.chunks
      → (chunk : Chunk) × IsReleasing f of after size left chunk
  read_by after size left None is told are = absurd cc
  read_by after size left (Some chunk) is told are =
      let both : (after, size) ≡ after_of_release of.alloc chunk = cc in (
        chunk,
        record {
          sound = sound;
          referred = referred of chunk sound.lawful is;
          answer = sym (ap (λ p. p.0) both);
          bytes = ap (λ p. p.1) both;
          are = are;
        },
      )

  -- what was read says so
  pub read_for_release : {after : After} {size : ℕ} {left : List Chunk}
      → Some (after, size) ≡ option_map (after_of_release of.alloc) (find (refers_to of) f.chunks)
      → left ≡ without_reference of f.chunks → (chunk : Chunk) × IsReleasing f of after size left chunk
  read_for_release told are = read_by _ _ _ (find (refers_to of) f.chunks) refl told are

  none_by : (found : Option Chunk) → None ≡ option_map (after_of_release of.alloc) found → found ≡ None
  none_by None is = refl
  none_by (Some chunk) is = absurd cc

  -- the reference was given back before
  pub refused_done : (left : List Chunk) → None ≡ option_map (after_of_release of.alloc) (find (refers_to of) f.chunks)
      → left ≡ without_reference of f.chunks
      → IsDone (tree_of f) (release_result (state_of f) of) (record f { chunks = left }) (Err (released_at of))
  refused_done left told are =
      let none = none_by (find (refers_to of) f.chunks) told in
      let new : Inside = record f { chunks = left } in
      let same : left ≡ f.chunks = are
      ∙ ap (λ o. option_map_or (λ chunk. after_release (left_of of chunk) f.chunks) o f.chunks) none in
      done f new (release-nothing (state_of f) of none) (tree_is new refl same) sound.places sound.lawful
      (record { held = sound.numbers.held; uses = sound.numbers.uses }) refl

outcome : TreeState → List Chunk → Bool → List PeakSample → CallResult (Result Bool Refused)
outcome state chunks gone samples = record { answer = Ok gone; state = record state { chunks = chunks }; samples = samples }

-- nothing is measured where the owner stays
no_samples : (state : TreeState) (owner : AllocId) (its : Chunk) → its.owner ≡ owner → release_samples state owner its ≡ []
no_samples state owner its same = rw (eq-eqb its.owner.0 owner.0 (ap (λ (a : AllocId). a.0) same)) refl

-- and the force where it moves
one_sample : (state : TreeState) (owner next : AllocId) (its : Chunk) (size : ℕ) → its.owner ≡ next → size ≡ its.size
    → next.0 ≢ owner.0
    → release_samples state owner its ≡ force_sample state (record { at = next; amount = size }) ∷ []
one_sample state owner next its size same bytes apart =
    let other : eqb its.owner.0 owner.0 ≡ false =
    ne_eqb its.owner.0 owner.0 (λ e. apart (ap (λ (a : AllocId). a.0) (sym same) ∙ e)) in
    let force : AllocId → ℕ → Charge = λ a s. record { at = a; amount = s } in
    let one : release_samples state owner its ≡ force_sample state (force its.owner its.size) ∷ [] = rw other refl in
    one ∙ ap (λ a. force_sample state (force a its.size) ∷ []) same ∙ ap (λ s. force_sample state (force next s) ∷ []) (sym bytes)

module _ {f : Inside} {of : Ref} {after : After} {size : ℕ} {left : List Chunk} {chunk : Chunk}
    (h : IsReleasing f of after size left chunk) where
  -- the allocator is open, and has the use
  pub source_open : IsOpenAt f.rows of.alloc.0
  source_open = open_in f of.alloc.0 (referrer_open (state_of f) chunk of.alloc.0 h.referred.lawful h.referred.counted)

  pub source_uses : 1 ≤ uses_in f.rows of.alloc.0
  source_uses =
      let n = of.alloc.0 in
      omega (
        arith,
        h.sound.numbers.uses n,
        sum_by-without_chunk (ledger_count n) of.chunk chunk f.chunks h.sound.lawful.in_order h.referred.at_number,
        ledger_some n chunk h.referred.counted,
      )

  pub room_to_move : f.drawn < 2 ^ 32 → (n : ℕ) → held_by f.rows n + size < 2 ^ 64
  room_to_move few = room_for h.sound size few (omega (arith, h.bytes, h.referred.lawful.few_bytes))

  -- rows that hold and count what is left
  release_by : (rows : List (Option Row)) (gone : Bool) (samples : List PeakSample)
      → has_ledger of.alloc.0 (left_of of chunk) ≡ not gone → release_samples (state_of f) chunk.owner (left_of of chunk) ≡ samples
      → nodes_in rows ≡ nodes_in f.rows → length rows ≡ length f.rows
      → Balances (nodes_in f.rows) (charges_of left) (held_by rows)
      → ((n : ℕ) → uses_in rows n ≡ uses_of (record (state_of f) { chunks = left }) n)
      → peaks_in rows ≡ raised_peaks (peaks_in f.rows) samples
      → IsDone (tree_of f) (release_result (state_of f) of) (record f { rows = rows; chunks = left }) (Ok gone)
  unfolding outcome
  release_by rows gone samples has measured nodes places held uses peaks =
      let state = state_of f in
      let its = left_of of chunk in
      let new : Inside = record f { rows = rows; chunks = left } in
      let call : release_result state of ≡ outcome state left gone samples =
      release-given state of chunk h.referred.found
      ∙ ap (λ b. outcome state (after_release its f.chunks) b (release_samples state chunk.owner its))
      (sym (not_not gone (has_ledger of.alloc.0 its) has))
      ∙ ap (outcome state (after_release its f.chunks) gone) measured ∙ ap (λ cs. outcome state cs gone samples) (sym h.are) in
      let open_ = referrer_open state chunk of.alloc.0 h.referred.lawful h.referred.counted in
      let lawful = subst (λ cs. IsLawfulState (record state { chunks = cs })) (sym h.are)
      (lawful-after_release state chunk of.alloc.0 h.sound.lawful h.referred.lawful open_) in
      done f new call (tree_is new nodes refl) (places ∙ h.sound.places) lawful (record { held = held; uses = uses }) peaks

  -- a sum over the chunks that are left, and one where nothing is left of the chunk
  remains : (g : Chunk → ℕ) → 1 ≤ count_of (left_of of chunk).ledgers (left_of of chunk).owner.0
      → sum_by g left + g chunk ≡ sum_by g f.chunks + g (left_of of chunk)
  remains g owns = ap (λ (cs : List Chunk). sum_by g cs + g chunk) h.are ∙ sum_remains h.referred g h.sound.lawful owns

  goes : (g : Chunk → ℕ) → (left_of of chunk).ledgers ≡ [] → sum_by g left + g chunk ≡ sum_by g f.chunks
  goes g none = ap (λ (cs : List Chunk). sum_by g cs + g chunk) h.are ∙ sum_goes h.referred g h.sound.lawful none

  -- what is charged stays where the owner stays
  charges_stay : (n : ℕ) → OwnerStays of chunk → charged_at (charges_of left) n ≡ charged_at (charges_of f.chunks) n
  charges_stay n owns =
      let same : charged_for_it n (left_of of chunk) ≡ charged_for_it n chunk =
      ap (λ (a : AllocId). cond (eqb a.0 n) chunk.size 0) owns.owner in
      omega (arith, charged-sum left n, charged-sum f.chunks n, remains (charged_for_it n) owns.owns, same)

  held_still : (rows : List (Option Row)) → held_by rows ≡ held_by f.rows → OwnerStays of chunk
      → Balances (nodes_in f.rows) (charges_of left) (held_by rows)
  held_still rows held owns = balance_same (nodes_in f.rows) (charges_of f.chunks) (charges_of left) (held_by f.rows)
      (held_by rows) h.sound.numbers.held held (λ n. charges_stay n owns)

  -- a use less, where the ledger went
  gone_uses : (mid used : List (Option Row)) → uses_in mid ≡ uses_in f.rows
      → ChangesUses mid used (lowered (uses_in mid) of.alloc.0 1)
      → ((n : ℕ) → sum_by (ledger_count n) f.chunks ≡ sum_by (ledger_count n) left + cond (eqb of.alloc.0 n) 1 0) → (n : ℕ)
      → uses_in used n ≡ uses_of (record (state_of f) { chunks = left }) n
  gone_uses mid used kept uses less =
      uses_less mid used of.alloc.0 (uses_of (state_of f)) (uses_of (record (state_of f) { chunks = left })) uses
      (λ n. ap (λ (g : ℕ → ℕ). g n) kept ∙ h.sound.numbers.uses n) (λ n. omega (arith, less n))

  ledgers_less : count_of (left_of of chunk).ledgers of.alloc.0 ≡ 0
      → 1 ≤ count_of (left_of of chunk).ledgers (left_of of chunk).owner.0
      → (n : ℕ) → sum_by (ledger_count n) f.chunks ≡ sum_by (ledger_count n) left + cond (eqb of.alloc.0 n) 1 0
  ledgers_less gone owns n = omega (arith, remains (ledger_count n) owns, ledger_less h.referred n gone)

  -- the ledger has references left
  pub same_done : after ≡ Same → IsDone (tree_of f) (release_result (state_of f) of) (record f { chunks = left }) (Ok false)
  same_done is =
      let its = left_of of chunk in
      let facts = left_same h.referred (h.answer ∙ is) in
      release_by f.rows false [] (lt-ltb 0 (count_of its.ledgers of.alloc.0) (omega (arith, facts.1)))
      (no_samples (state_of f) chunk.owner its facts.0.owner) refl refl (held_still f.rows refl facts.0)
      (λ n. h.sound.numbers.uses n ∙ omega (arith, remains (ledger_count n) facts.0.owns, ledgers_left h.referred n facts.1)) refl

  -- it is gone, and another allocator owns the chunk
  pub gone_done : (used : List (Option Row)) → after ≡ Gone → ChangesUses f.rows used (lowered (uses_in f.rows) of.alloc.0 1)
      → IsDone (tree_of f) (release_result (state_of f) of) (record f { rows = used; chunks = left }) (Ok true)
  gone_done used is uses =
      let its = left_of of chunk in
      let facts = left_gone h.referred (h.answer ∙ is) in
      release_by used true [] (le-ltb 0 (count_of its.ledgers of.alloc.0) (omega (arith, facts.1)))
      (no_samples (state_of f) chunk.owner its facts.0.owner) uses.nodes uses.length
      (held_still used uses.held facts.0) (gone_uses f.rows used refl uses (ledgers_less facts.1 facts.0.owns)) uses.peaks

  -- it is gone, and with it the owner: the charge moves to the next one, which is open
  pub next_open : (to : AllocId) → after ≡ Moved to → IsOpenAt f.rows to.0
  next_open to is = open_in f to.0
      (referrer_open (state_of f) chunk to.0 h.referred.lawful (left_moved h.referred to (h.answer ∙ is)).counted)

  -- what the chunk charges at its owner
  owner_charged : (n : ℕ) → chunk.owner.0 ≡ of.alloc.0 → charged_for_it n chunk ≡ amount_for (Some of.alloc) size n
  owner_charged n owned = ap (λ m. cond (eqb m n) chunk.size 0) owned ∙ ap (λ (s : ℕ). cond (eqb of.alloc.0 n) s 0) (sym h.bytes)

  pub charge_moves : (to : AllocId) → after ≡ Moved to → MovesAmount (charges_of f.chunks) (charges_of left) of.alloc to size
  charge_moves to is n =
      let facts = left_moved h.referred to (h.answer ∙ is) in
      let new : charged_for_it n (left_of of chunk) ≡ amount_for (Some to) size n =
      ap (λ (a : AllocId). cond (eqb a.0 n) chunk.size 0) facts.owner ∙ ap (λ (s : ℕ). cond (eqb to.0 n) s 0) (sym h.bytes) in
      omega (arith, charged-sum left n, charged-sum f.chunks n, remains (charged_for_it n) facts.owns, owner_charged n facts.owned, new)

  pub moved_done : (moved used : List (Option Row)) (to : AllocId) (fits : Bool) → after ≡ Moved to → KeepsNodes f.rows moved
      → MovesCharge (charges_of f.chunks) (charges_of left) (record { at = to; amount = size }) f.rows moved fits
      → ChangesUses moved used (lowered (uses_in moved) of.alloc.0 1)
      → IsDone (tree_of f) (release_result (state_of f) of) (record f { rows = used; chunks = left }) (Ok true)
  moved_done moved used to fits is kept moves uses =
      let its = left_of of chunk in
      let facts = left_moved h.referred to (h.answer ∙ is) in
      let measured = one_sample (state_of f) chunk.owner to its size facts.owner h.bytes (λ e. facts.apart (e ∙ facts.owned)) in
      release_by used true (force_sample (state_of f) (record { at = to; amount = size }) ∷ [])
      (le-ltb 0 (count_of its.ledgers of.alloc.0) (omega (arith, facts.gone))) measured
      (uses.nodes ∙ kept.nodes) (uses.length ∙ kept.length)
      (balance_same (nodes_in f.rows) (charges_of left) (charges_of left) (held_by moved)
      (held_by used) moves.held uses.held (λ n. refl))
      (gone_uses moved used kept.uses uses (ledgers_less facts.gone facts.owns)) (uses.peaks ∙ moves.peaks)

  -- it was the last one: the charge goes with the chunk
  pub exceeds_by_size : after ≡ Freed → ExceedsByAmount (nodes_in f.rows) (charges_of left) (held_by f.rows) (Some of.alloc) size
  exceeds_by_size is n =
      let facts = left_freed h.referred (h.answer ∙ is) in
      omega (
        arith,
        h.sound.numbers.held n,
        charged-sum left n,
        charged-sum f.chunks n,
        goes (charged_for_it n) facts.none,
        owner_charged n facts.owned,
      )

  pub freed_done : (lower used : List (Option Row)) → after ≡ Freed → KeepsNodes f.rows lower → peaks_in lower ≡ peaks_in f.rows
      → Balances (nodes_in f.rows) (charges_of left) (held_by lower)
      → ChangesUses lower used (lowered (uses_in lower) of.alloc.0 1)
      → IsDone (tree_of f) (release_result (state_of f) of) (record f { rows = used; chunks = left }) (Ok true)
  freed_done lower used is kept peaks balance uses =
      let its = left_of of chunk in
      let facts = left_freed h.referred (h.answer ∙ is) in
      let none : (m : ℕ) → count_of its.ledgers m ≡ 0 = λ m. ap (λ ls. count_of ls m) facts.none in
      release_by used true [] (le-ltb 0 (count_of its.ledgers of.alloc.0) (omega (arith, none of.alloc.0)))
      (no_samples (state_of f) chunk.owner its (ap (next_owner chunk.owner) facts.none))
      (uses.nodes ∙ kept.nodes) (uses.length ∙ kept.length)
      (balance_same (nodes_in f.rows) (charges_of left) (charges_of left) (held_by lower)
      (held_by used) balance uses.held (λ n. refl))
      (gone_uses lower used kept.uses uses
      (λ n. omega (arith, goes (ledger_count n) facts.none, ledger_less h.referred n (none of.alloc.0), ledger_none n its (none n))))
      (uses.peaks ∙ peaks)
