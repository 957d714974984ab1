-- A request for a buffer, on rows.
use Rattle.std.proofs.Common.{◌≡◌, ℕ, ◌+◌, ◌<◌, ◌≤◌, List, [], ◌∷◌, ◌++◌, get_or, true, not, cond}
use Rattle.std.proofs.Common.{eqb, Option, Result, Ok, Err, All, refl, ap, ◌∙◌, arith, inl, inr}
use Rattle.std.proofs.lemmas.Bool.{cases_Bool, eq-eqb}
use Rattle.std.proofs.lemmas.List.{map-append, append-nil}
use Rattle.std.proofs.lemmas.List.Elements.{filter-append}
use Rattle.std.proofs.lemmas.List.Sums.{sum_by-cons, sum_by_push}
use Rattle.mem_num.specs.declared.bounds.TheConstants.{LARGEST}
use Rattle.mem_num.specs.declared.alloc_id.AllocId.{AllocId}
use Rattle.mem_num.specs.declared.full.Full.{Full}
use Rattle.mem_num.specs.declared.buffer_ref.Ref.{Ref}
use Rattle.mem_num.specs.declared.buffer_refused.BufferRefused.{BufferRefused}
use Rattle.mem_num.specs.declared.buffer_refused.BufferRefused.TheVariants.{Full as NoRoom}
use Rattle.mem_model.specs.declared.charge.Charge.{Charge}
use Rattle.mem_model.specs.declared.tree_node.TreeNode.{TreeNode}
use Rattle.mem_model.specs.Balance.{raised}
use Rattle.mem_model.specs.Charge.{amount_at, charged_at}
use Rattle.mem_model.specs.Chunk.{Chunk, charge_of, charges_of, new_chunk}
use Rattle.mem_model.specs.Grant.{charge_result, charge_answer, after_charge}
use Rattle.mem_model.specs.LawfulState.{IsLawfulState}
use Rattle.mem_model.specs.PeakSample.{request_sample}
use Rattle.mem_model.specs.Release.{without_chunk}
use Rattle.mem_model.specs.TreeState.{TreeState, CallResult, uses_of, is_open, charges_in}
use Rattle.mem_model.proofs.ChunkSumLemmas.{without_chunk-none}
use Rattle.mem_model.proofs.LawfulLemmas.{lawful-push_chunk, lawful-spend_chunk}
use Rattle.alloc_tree.specs.declared.row.Row.{Row}
use Rattle.alloc_tree.specs.declared.solo_tree.SoloTree.TheInside.{Inside}
use Rattle.alloc_tree.specs.Fields.{IsSoundSolo, state_of, tree_of}
use Rattle.alloc_tree.specs.Rows.{held_by, uses_in, nodes_in, ChangesUses}
use Rattle.alloc_tree.specs.Walk.{KeepsNodes, AnswersRequest}
use Rattle.alloc_tree.proofs.ChangeLemmas.{ledger_count}
use Rattle.alloc_tree.proofs.DoneLemmas.{IsDone, done, tree_is, balance_same}
use Rattle.alloc_tree.proofs.UseLemmas.{uses_more}

-- a chunk that is put in last is charged as a charge that is added first
charged_last : (chunks : List Chunk) (chunk : Chunk) (n : ℕ) → charged_at (charges_of (chunks ++ chunk ∷ [])) n
    ≡ charged_at (charge_of chunk ∷ charges_of chunks) n
charged_last chunks chunk n =
    let charges = charges_of chunks in
    let charge = charge_of chunk in
    ap (λ cs. charged_at cs n) (map-append charge_of chunks (chunk ∷ []))
    ∙ omega (arith, sum_by_push (amount_at n) charges charge, sum_by-cons (amount_at n) charge charges)

-- a new chunk has a ledger of its owner alone
new_ledger : (n number size : ℕ) (at : AllocId) → ledger_count n (new_chunk number size at) ≡ cond (eqb at.0 n) 1 0
new_ledger n number size at = elim (cases_Bool (eqb at.0 n)) [ inl own ↦ rw own refl | inr other ↦ rw other refl ]

pub numbers_below : (state : TreeState) → IsLawfulState state → All (λ chunk. chunk.number < state.drawn + 1) state.chunks
numbers_below state lawful k d within = let given : (get_or state.chunks k d).number ≤ state.drawn = lawful.given k d within in
    omega (arith, given)

-- the chunk that was put in last goes
last_goes : (chunks : List Chunk) (chunk : Chunk) → All (λ older. older.number < chunk.number) chunks
    → without_chunk chunk.number (chunks ++ chunk ∷ []) ≡ chunks
last_goes chunks chunk below =
    let n = chunk.number in
    let self : eqb n n ≡ true = eq-eqb n n refl in
    let gone : without_chunk n (chunk ∷ []) ≡ [] = rw self refl in
    filter-append (λ (x : Chunk). not (eqb x.number n)) chunks (chunk ∷ []) ∙ ap (λ xs. without_chunk n chunks ++ xs) gone
    ∙ append-nil (without_chunk n chunks) ∙ without_chunk-none n chunks (λ k d within same. omega (arith, below k d within, same))

-- a charge, by the level that refuses it
abbrev charge_by : TreeState → Charge → Option TreeNode → CallResult (Result Ref BufferRefused)
charge_by state request refusing = record {
  answer = charge_answer state request refusing;
  state = after_charge state request refusing;
  samples = request_sample state.nodes (charges_in state) request ∷ [];
}

module _ {f : Inside} (sound : IsSoundSolo f) (at : AllocId) (size : ℕ) (charged : List (Option Row))
    (kept : KeepsNodes f.rows charged) where
  -- a request that has a charge has a chunk
  pub granted : (new : List (Option Row)) (calls : ℕ) → is_open (state_of f) at.0 ≡ true → 1 ≤ size → size ≤ LARGEST
      → AnswersRequest (charges_of f.chunks) (record { at = at; amount = size }) f.rows charged (Ok tt)
      → ChangesUses charged new (raised (uses_in charged) at.0 1)
      → IsDone (tree_of f) (charge_result (state_of f) (record { at = at; amount = size }))
      (record f { rows = new; chunks = f.chunks ++ new_chunk (f.drawn + 1) size at ∷ []; drawn = f.drawn + 1; calls = calls })
      (Ok (record { chunk = f.drawn + 1; alloc = at; size = size }))
  granted new calls open_ some few answers uses =
      let state = state_of f in
      let request : Charge = record { at = at; amount = size } in
      let chunk = new_chunk (f.drawn + 1) size at in
      let chunks = f.chunks ++ chunk ∷ [] in
      let made : Inside = record f { rows = new; chunks = chunks; drawn = f.drawn + 1; calls = calls } in
      let after : TreeState = record state { chunks = chunks; drawn = f.drawn + 1 } in
      done f made (ap (charge_by state request) answers.refusal) (tree_is made (uses.nodes ∙ kept.nodes) refl)
      (uses.length ∙ kept.length ∙ sound.places)
      (lawful-push_chunk state size at sound.lawful some few open_)
      (record {
        held = balance_same (nodes_in f.rows) (request ∷ charges_of f.chunks) (charges_of chunks) (held_by charged)
            (held_by new) answers.held uses.held (charged_last f.chunks chunk);
        uses = uses_more charged new at.0 (uses_of state) (uses_of after) uses
            (λ n. ap (λ (g : ℕ → ℕ). g n) kept.uses ∙ sound.numbers.uses n)
            (λ n. omega (arith, sum_by_push (ledger_count n) f.chunks chunk, new_ledger n (f.drawn + 1) size at));
      })
      (uses.peaks ∙ answers.peaks)

  -- one that was refused has spent its number
  pub grant_refused : (left : List Chunk) (calls : ℕ) (full : Full)
      → AnswersRequest (charges_of f.chunks) (record { at = at; amount = size }) f.rows charged (Err full)
      → left ≡ without_chunk (f.drawn + 1) (f.chunks ++ new_chunk (f.drawn + 1) size at ∷ [])
      → IsDone (tree_of f) (charge_result (state_of f) (record { at = at; amount = size }))
      (record f { rows = charged; chunks = left; drawn = f.drawn + 1; calls = calls }) (Err (NoRoom full))
  grant_refused left calls full answers are =
      let state = state_of f in
      let request : Charge = record { at = at; amount = size } in
      let chunks_are : left ≡ f.chunks = are
      ∙ last_goes f.chunks (new_chunk (f.drawn + 1) size at) (numbers_below state sound.lawful) in
      let spent : Inside = record f { rows = charged; chunks = left; drawn = f.drawn + 1; calls = calls } in
      let whole = done f spent (ap (charge_by state request) answers.refusal.1) (tree_is spent kept.nodes chunks_are)
      (kept.length ∙ sound.places) (lawful-spend_chunk state sound.lawful)
      (record { held = answers.held; uses = λ n. ap (λ (g : ℕ → ℕ). g n) kept.uses ∙ sound.numbers.uses n }) answers.peaks in
      record { sound = whole.sound; told = ap (λ e. Err (NoRoom e)) answers.refusal.2 ∙ whole.told; after = whole.after }
