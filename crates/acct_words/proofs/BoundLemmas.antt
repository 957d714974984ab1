-- Additions to held words stay small.
use Rattle.std.proofs.Common.{suc, ◌≡◌, ℕ, ◌+◌, ◌*◌, ◌%◌, ◌^◌, ◌<◌, ◌≤◌, List, [], ◌∷◌, ◌++◌, length, set, slice_index, refl, sym, ap}
use Rattle.std.proofs.Common.{subst, arith, sum_by, sum, All, ⊎_elim, mod-eq_of_lt, mul-le-mul_right, get_or-set_same, get_or-set_other}
use Rattle.std.proofs.Common.{eqb, Bool, true, false, cond}
use mathlib.Core.Option as option
use mathlib.Core.Option.{some}
use lib.ListN.{get_elem?}
use Rattle.std.proofs.lemmas.List.Elements.{All-head, All-tail}
use Rattle.std.proofs.lemmas.List.Sums.{sum_by-le, sum_by-cons}
use Rattle.atomic_table.specs.Table.{State}
use Rattle.atomic_table.proofs.Lists.{at_set}
use Rattle.acct_core.specs.Claims.{Claim}
use Rattle.acct_core.specs.Lawful.{IsLawfulFixedTree}
use Rattle.acct_core.specs.Phases.{size_of, pending_subtraction}
use Rattle.acct_core.specs.declared.row.Row.{Row}
use Rattle.acct_core.proofs.CoverLemmas.{covered}
use Rattle.acct_core.proofs.FixedTreeLemmas.{held_law}
use Rattle.acct_words.specs.Entries.{StepKind, Entry, size_begun, size_forgotten, reached, draw_count, begun, drew}
use Rattle.acct_words.specs.Views.{Start, Chunk, View}
use Rattle.acct_words.specs.declared.rule.Said.{Said}
use Rattle.acct_words.specs.Places.{number_word, held_word, peak_word}
use Rattle.acct_words.specs.Bodies.{of_view, total, made, bytes_left, turns_left, charging, chunk_sizes, numbered}
use Rattle.acct_words.specs.Rows.{claims_of, rows_of, shown}
use Rattle.acct_words.specs.Rule.{reservations, IsGoodChunk, IsGoodView, IsKnown, IsSoundTable}
use Rattle.acct_words.specs.Plays.{entry}
use Rattle.acct_words.proofs.ViewLemmas.{total_set}
use Rattle.acct_words.proofs.RowLemmas.{fixed_in-held, limits_of}
use Rattle.acct_words.proofs.ClaimLemmas.{claims_of-sum}
use Rattle.acct_words.proofs.AccountLemmas.{held_bounded, row_found, row_open}
use Rattle.acct_words.proofs.KeptLemmas.{step_kept, no_peak}

-- the size of the request that a claim is at
abbrev pub its_size : Claim → ℕ
its_size c = size_of c.phase

-- the charges of a good chunk are at most twice its size
chunk_bound : (k : Chunk) → IsGoodChunk k → sum_by its_size k.charges ≤ 2 * k.size
chunk_bound k g = let a = sum_by-le its_size k.size k.charges g.whole in let b = mul-le-mul_right k.size g.few in omega arith

chunks_bound : (chunks : List Chunk) → All IsGoodChunk chunks → sum_by (λ k. sum_by its_size k.charges) chunks ≤ 2 * sum_by
    (λ k. k.size) chunks
chunks_bound [] h = omega arith
chunks_bound (k ∷ chunks) h =
    let a = chunk_bound k (All-head IsGoodChunk k chunks h) in let b = chunks_bound chunks (All-tail IsGoodChunk k chunks h) in
    let c = sum_by-cons (λ (k : Chunk). sum_by its_size k.charges) k chunks in let d = sum_by-cons (λ (k : Chunk). k.size) k chunks in
    omega arith

-- the chunks of a view are good
abbrev pub HasGoodChunks : View → Type 0
HasGoodChunks v = All IsGoodChunk v.own.chunks × All IsGoodChunk v.offer.chunks

-- all claims are at most twice the sizes of all chunks
pub views_bound : (views : List View) → ((j : ℕ) (v : View) → get_elem? views j ≡ some v → HasGoodChunks v) →
    total (charging its_size) views ≤ 2 * total chunk_sizes views
views_bound [] h = omega arith
views_bound (v ∷ views) h =
    let g = h 0 v refl in let a = chunks_bound v.own.chunks g.0 in let b = chunks_bound v.offer.chunks g.1 in
    let r = views_bound views (λ j x e. h (suc j) x e) in
    let c = sum_by-cons (of_view (charging its_size)) v views in let d = sum_by-cons (of_view chunk_sizes) v views in omega arith

-- an addition to the held word of m, which begins a charge or goes on with one
module _ (start : Start) (s : State Said View) (homes : List (option.Option Said)) (id : ℕ) (v w : View) (k : IsSoundTable start s)
    (at : get_elem? s.views id ≡ some v) (m amount : ℕ) (act : StepKind)
    (there : m < length start.tree) (is_addition : (n : ℕ) → reached act n ≡ n + amount) (draws_none : draw_count act ≡ 0)
    (forgets_none : size_forgotten act ≡ 0) where
  abbrev n : ℕ
  n = slice_index s.words (held_word m)

  abbrev e : Entry
  e = entry (length k.history) (held_word m) act n

  -- what such a step owes
  pub record IsAddition : Type 0 where
    pub lawful : IsLawfulFixedTree (shown start.tree (set s.words (held_word m) (n + amount)) (set s.views id w))
    pub made : (f : Entry → ℕ) → of_view (made f) w ≡ of_view (made f) v + f e
    pub bytes : of_view bytes_left w + size_begun act ≤ of_view bytes_left v
    pub turns : of_view turns_left w ≤ of_view turns_left v
    pub sizes : of_view chunk_sizes w ≤ of_view chunk_sizes v + size_begun act
    pub numbers : (m : ℕ) → of_view (numbered m) w ≤ of_view (numbered m) v
    pub good : IsGoodView (k.history ++ e ∷ []) w
    pub known : All (IsKnown start) w.known

  module _ (c : IsAddition) where
    -- the sum is within the worst case
    within : n + amount ≤ 2 * (sum_by begun k.history + size_begun act) + sum (reservations start.tree)
    within =
        let a = held_bounded start.tree (set s.words (held_word m) (n + amount)) (set s.views id w) m there c.lawful in
        let b : slice_index (set s.words (held_word m) (n + amount)) (held_word m) ≡ n + amount =
        get_or-set_same s.words (held_word m) (n + amount) 0 (let q = k.layout.wide in omega arith) in
        let d = claims_of-sum its_size (set s.views id w) in
        let f = views_bound (set s.views id w) (λ j x g. ⊎_elim (λ q. subst HasGoodChunks q.1 (c.good.0.chunks, c.good.1.chunks))
        (λ q. (let o = k.tokens j x q.1 in (o.0.chunks, o.1.chunks))) (at_set s.views id j w x g)) in
        let t = total_set chunk_sizes s.views id v w at in let p = k.budget.sizes in let r = c.sizes in omega arith

    -- it doesn't wrap
    pub addition_small : n + amount < 2 ^ 63
    addition_small = let a = within in let t = total_set bytes_left s.views id v w at in let p = k.budget.bytes in let r = c.bytes in
        let q = k.layout.small.bytes in let u = k.layout.small.reservations in omega arith

    draws_no_number : (j : ℕ) → drew j e ≡ 0
    draws_no_number j = zeros (eqb n j) (draw_count act) draws_none
      where
        zeros : (b : Bool) (x : ℕ) → x ≡ 0 → cond b x 0 ≡ 0
        zeros true x z = z
        zeros false x z = refl

    -- and keeps the rule
    pub addition_kept : IsSoundTable start (record {
      words = set s.words (held_word m) ((n + amount) % 2 ^ 64);
      homes = homes;
      views =
          set s.views id w;
    })
    addition_kept = subst (λ (x : ℕ). IsSoundTable start (record {
      words = set s.words (held_word m) x;
      homes = homes;
      views =
          set s.views id w;
    })) (sym (mod-eq_of_lt (let h = addition_small in omega arith)))
        (step_kept start s homes id v w k at (held_word m) (n + amount) act (record {
          lawful = c.lawful;
          fixed = λ j h. fixed_in-held j m (n + amount) s.words;
          next = (let o = get_or-set_other s.words (held_word m) number_word (n + amount) 0 (λ q. omega arith) in let z = draws_none in
              omega arith);
          bounded = (let q = is_addition n in let a = within in omega arith);
          made = c.made;
          bytes = c.bytes;
          turns = (let t = c.turns in let z = draws_none in omega arith);
          sizes = (let p = c.sizes in let z = forgets_none in omega arith);
          numbers = λ j. (let p = c.numbers j in omega arith);
          fresh = λ j ne. draws_no_number j;
          good = c.good;
          known = c.known;
          peak = λ j h. (let o = get_or-set_other s.words (held_word m) (peak_word j) (n + amount) 0 (λ q. omega arith) in
              let z = no_peak j (length k.history) (held_word m) n act (λ q. omega arith) in omega arith);
          peak_bounded = λ j h. (let z = no_peak j (length k.history) (held_word m) n act (λ q. omega arith) in omega arith);
        }))

-- a held word is small
pub held_small : (start : Start) (s : State Said View) (k : IsSoundTable start s) (m : ℕ) → m < length start.tree →
    slice_index s.words (held_word m) < 2 ^ 63
held_small start s k m there =
    let a = held_bounded start.tree s.words s.views m there k.accounts in
    let d = claims_of-sum its_size s.views in
    let f = views_bound s.views (λ j x g. (let o = k.tokens j x g in (o.0.chunks, o.1.chunks))) in
    let p = k.budget.sizes in let b = k.budget.bytes in let q = k.layout.small.bytes in let u = k.layout.small.reservations in omega arith

-- it has what is still to be subtracted there
pub held_covers : (start : Start) (s : State Said View) → IsSoundTable start s → (m : ℕ) → m < length start.tree →
    sum_by (λ c. pending_subtraction m c.phase) (claims_of s.views) ≤ slice_index s.words (held_word m)
held_covers start s k m there =
    let rows = rows_of start.tree 0 s.words in
    let a = covered (shown start.tree s.words s.views) (held_law rows (claims_of s.views) k.accounts) m
    (row_open start.tree s.words (limits_of start.tree s.words k.layout.fixed) m there) in
    let e = ap (λ (r : Row). r.held) (row_found start.tree s.words (limits_of start.tree s.words k.layout.fixed) m there) in omega arith
