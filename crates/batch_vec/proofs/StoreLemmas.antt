-- What the storing of rows comes to.
use Rattle.std.proofs.Common.{◌≡◌, ℕ, zero, suc, ◌+◌, ◌*◌, ◌^◌, ◌≤◌, leb, ltb, true, false, inl, inr, refl, List, [], ◌∷◌, length, map}
use Rattle.std.proofs.Common.{get_or, All, sym, ◌∙◌, ap, subst, arith}
use Rattle.std.proofs.Math.Nat.{pow-le-pow_right}
use Rattle.std.proofs.lemmas.Bool.{cases_lt}
use Rattle.std.proofs.lemmas.Bool.Decides.{nat_tests}
use Rattle.std.proofs.lemmas.List.{length-append}
use Rattle.std.proofs.lemmas.Simd.{map-map}
use Rattle.std.specs.Option.{unwrap_or}
use Rattle.mem_num.specs.Rounded.{power_from, rounded_size}
use Rattle.mem_num.specs.declared.bounds.TheConstants.{LARGEST}
use Rattle.mem_num.specs.declared.alloc_id.AllocId.{AllocId}
use Rattle.mem_num.specs.declared.buffer_ref.Ref.{Ref}
use Rattle.mem_num.specs.declared.buffer_refused.BufferRefused.{BufferRefused}
use Rattle.mem_num.specs.declared.rounding.Rounding.TheVariants.{Power}
use Rattle.mem_buf.specs.declared.arrow_buf.ArrowBuf.{ArrowBuf}
use Rattle.mem_buf.specs.Callers.{CanPay}
use Rattle.mem_buf.specs.Chain.{MemoryModel, Runs}
use Rattle.mem_buf.specs.Storing.{granted_of, IsRefusedStore}
use Rattle.mem_buf.specs.TokenView.{TokenView, CanName, size_for}
use Rattle.mem_buf.specs.View.{bytes_in}
use Rattle.mem_buf.proofs.PayLemmas.{CanPay-few}
use Rattle.query_model.specs.Buffers.{buffer_lengths, column_lengths, lengths_from}
use Rattle.query_model.specs.Cells.{column_of}
use Rattle.query_model.specs.declared.bounds.TheConstants.{MOST_TEXT_BYTES}
use Rattle.query_model.specs.declared.cell.Cell.{Cell}
use Rattle.query_model.specs.declared.kind.Kind.{Kind}
use Rattle.query_model.specs.declared.kind.Kind.TheVariants as kind
use Rattle.row_text.specs.Rows.{AreRows}
use Rattle.batch_vec.specs.Batches.{bytes_of}
use Rattle.batch_vec.specs.Columns.{IsStored, buffer_bytes}
use Rattle.batch_vec.proofs.StoredLemmas.{lengths_there}

-- the power of two that is found is no larger than the last one that is looked at
power_within : (more k n : ℕ) → power_from more k n ≤ 2 ^ (k + more)
unfolding power_from
power_within zero k n = let e : k ≡ k + 0 = omega arith in subst (λ i. 2 ^ k ≤ 2 ^ i) e (omega arith)
power_within (suc more) k n = elim (cases_lt (2 ^ k) n) [
  | inl below ↦ (let t : leb n (2 ^ k) ≡ false = grind (arith, nat_tests) in
      rw t (let e : suc k + more ≡ k + suc more = omega arith in subst (λ i. power_from more (suc k) n
      ≤ 2 ^ i) e (power_within more (suc k) n)))
  | inr covers ↦ (let t : leb n (2 ^ k) ≡ true = grind (arith, nat_tests) in rw t (pow-le-pow_right {n = 2}
      (omega arith) {i = k} {j = k + suc more} (omega arith)))
]

-- a request of at most the largest size is charged no more
rounded_small : (n : ℕ) → n ≤ LARGEST → rounded_size Power n ≤ LARGEST
unfolding rounded_size
rounded_small zero small = omega arith
rounded_small (suc n) small = elim (cases_lt (suc n) (2 ^ 24)) [
  | inl below ↦ (let t : ltb (suc n) (2 ^ 24) ≡ true = grind (arith, nat_tests) in
      rw t (let within : power_from 23 1 (suc n) ≤ 2 ^ 24 = power_within 23 1 (suc n) in omega (arith, within)))
  | inr above ↦ (let t : ltb (suc n) (2 ^ 24) ≡ false = grind (arith, nat_tests) in rw t small)
]

-- two lengths a column
two_lengths : (kind : Kind) (cells : List Cell) → length (column_lengths kind cells) ≡ 2
two_lengths kind.Int cells = refl
two_lengths kind.Sum cells = refl
two_lengths kind.Text cells = refl

lengths_many : (column : ℕ) (kinds : List Kind) (rows : List (List Cell)) → length (lengths_from column kinds rows) ≡ 2 * length kinds
lengths_many column [] rows = omega arith
lengths_many column (kind ∷ kinds) rows =
    let both = length-append (column_lengths kind (column_of column rows)) (lengths_from (column + 1) kinds rows) in
    let first = two_lengths kind (column_of column rows) in
    let rest = lengths_many (column + 1) kinds rows in
    omega (arith, both, first, rest)

module _ (kinds : List Kind) (rows : List (List Cell)) where
  -- the bytes that are stored are as long as was asked for
  pub requests_are : (inputs : List (List ℕ)) → inputs ≡ buffer_bytes kinds rows → map length inputs ≡ buffer_lengths kinds rows
  requests_are inputs are = ap (map length) are ∙ lengths_there 0 kinds rows

  -- buffers that aren't too large tell each place among texts
  pub sizes_short : All (λ length. length ≤ LARGEST) (buffer_lengths kinds rows)
      → All (λ length. length ≤ MOST_TEXT_BYTES) (buffer_lengths kinds rows)
  sizes_short sized k d within = let small : get_or (buffer_lengths kinds rows) k d ≤ LARGEST = sized k d within in omega (arith, small)

  -- and are charged no more than the largest
  pub sizes_small : (view : TokenView) (at : AllocId) → CanName view at → All (λ length. length ≤ LARGEST) (buffer_lengths kinds rows)
      → All (λ length. size_for view at length ≤ LARGEST) (buffer_lengths kinds rows)
  sizes_small view at named sized k d within =
      let asked = get_or (buffer_lengths kinds rows) k d in
      let same : rounded_size Power asked ≡ size_for view at asked = ap (λ policy. rounded_size (unwrap_or policy Power) asked)
      (sym named) in
      subst (λ size. size ≤ LARGEST) same (rounded_small asked (sized k d within))

  -- a token pays for the buffers of few columns, whatever stands in them
  pub can_store_rows : (view : TokenView) (at : AllocId) → CanName view at → 2 * length kinds * LARGEST ≤ view.bytes
      → 2 * length kinds ≤ view.turns → CanPay view at (buffer_lengths kinds rows)
  can_store_rows view at named bytes turns =
      let many = lengths_many 0 kinds rows in
      CanPay-few view at (buffer_lengths kinds rows) named (omega (arith, many, bytes)) (omega (arith, many, turns))

  -- the rows stand in the buffers
  pub stored_whole : (count : ℕ) (kinds2 : List Kind) (buffers inputs : List (List ℕ)) → kinds2 ≡ kinds → count ≡ length rows
      → AreRows kinds rows → All (λ length. length ≤ MOST_TEXT_BYTES) (buffer_lengths kinds rows) → buffers ≡ inputs
      → inputs ≡ buffer_bytes kinds rows → IsStored count kinds2 buffers rows
  stored_whole count kinds2 buffers inputs same counted typed short stored are =
      subst (λ list. IsStored count list buffers rows) (sym same)
      (record { counted = sym counted; typed = typed; short = short; bytes = stored ∙ are })

-- what was granted has these lengths, and gave these references
pub granted_lengths : {H : Type 0} (reference : H → Ref) (bufs : List (ArrowBuf H)) (lengths : List ℕ)
    → map length (bytes_of bufs) ≡ lengths
    → map (λ one. one.0) (map (granted_of reference) bufs) ≡ lengths
granted_lengths reference bufs lengths are =
    map-map (λ one. one.0) (granted_of reference) bufs ∙ sym (map-map length (λ buffer. bytes_in buffer.view) bufs) ∙ are

pub granted_references : {H : Type 0} (reference : H → Ref) (bufs : List (ArrowBuf H))
    → map (λ one. one.1) (map (granted_of reference) bufs) ≡ map reference (map (λ buffer. buffer.hold) bufs)
granted_references reference bufs =
    map-map (λ one. one.1) (granted_of reference) bufs ∙ sym (map-map reference (λ buffer. buffer.hold) bufs)

-- a refusal, told by what it is and of the requests as they are
pub refused_as : {Token Hold : Type 0} (memory : MemoryModel Token Hold) (at : AllocId) (requests lengths : List ℕ)
    (told refused : BufferRefused) (old new : Token) → requests ≡ lengths → told ≡ refused
    → Runs memory (IsRefusedStore (memory.view old) at requests told) old new
    → Runs memory (IsRefusedStore (memory.view old) at lengths refused) old new
refused_as memory at requests lengths told refused old new same is runs =
    subst (λ list. Runs memory (IsRefusedStore (memory.view old) at list refused) old new) same
    (subst (λ r. Runs memory (IsRefusedStore (memory.view old) at requests r) old new) is runs)
