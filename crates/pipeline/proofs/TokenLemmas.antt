-- What calls for buffers leave of a token.
use Rattle.std.proofs.Common.{◌≡◌, ◌+◌, ◌*◌, ◌≤◌, ℕ, Bool, true, false, List, [], ◌∷◌, All, length, refl, sym, ◌∙◌, ap, subst, arith}
use Rattle.std.proofs.lemmas.List.{length-append}
use Rattle.std.proofs.lemmas.List.Elements.{All-head, All-tail}
use Rattle.std.proofs.lemmas.List.Sums.{sum_by-cons}
use Rattle.std.specs.Prelude.{sum_by, nat_lt, if◌then◌else◌, ◌==◌}
use Rattle.std.specs.Option.{unwrap_or}
use Rattle.mem_num.specs.Rounded.{rounded_size}
use Rattle.mem_num.specs.declared.rounding.Rounding.TheVariants.{Power}
use Rattle.mem_num.specs.declared.alloc_id.AllocId.{AllocId}
use Rattle.mem_num.specs.declared.buffer_ref.Ref.{Ref}
use Rattle.mem_buf.specs.Callers.{CanPay, CanShare}
use Rattle.mem_buf.specs.Chain.{MakesCall, MakesCalls, MemoryModel}
use Rattle.mem_buf.specs.Changes.{bytes_of, turns_of}
use Rattle.mem_buf.specs.MemoryCall.{MemoryCall, Child, Unpin, Close, Grant, Retain, Transfer, Release}
use Rattle.mem_buf.specs.TokenView.{CanName, TokenView, bytes_for, charged_for, is_empty, size_for, turns_for, turns_to_share}
use Rattle.mem_buf.proofs.ChainLemmas.{MakesCalls-names, turns_of-one}
use Rattle.query_model.specs.Buffers.{buffer_lengths, column_lengths, lengths_from}
use Rattle.query_model.specs.Cells.{column_of}
use Rattle.query_model.specs.declared.cell.Cell.{Cell}
use Rattle.query_model.specs.declared.kind.Kind.{Kind}
use Rattle.query_model.specs.declared.kind.Kind.TheVariants as kind
use Rattle.pipeline.specs.Holding.{IsBufferCall, asks, turns_in}
use Rattle.pipeline.proofs.StoredLemmas.{AsksAt, asked_bytes, bytes_in}

-- a charge is at most the size
charged_within : (size : ℕ) → charged_for size ≤ size
charged_within size = within (nat_lt _ size)
  where
    within : (large : Bool) → (if large then 0 else size) ≤ size
    within true = omega arith
    within false = omega arith

-- a request is charged at most its rounded size, by a token that can name its allocator
pub bytes_within : (view : TokenView) (at : AllocId) (request : ℕ) → CanName view at → bytes_for view at request ≤ rounded_size Power request
bytes_within view at request named =
    let size : size_for view at request ≡ rounded_size Power request = ap (λ policy. rounded_size (unwrap_or policy Power) request) named in
    let within = charged_within (size_for view at request) in
    omega (arith, size, within)

one_at_most : (none : Bool) → (if none then 0 else 1) ≤ 1
one_at_most true = omega arith
one_at_most false = omega arith

-- so are many
pub bytes_all : (view : TokenView) (at : AllocId) (requests : List ℕ) → CanName view at
    → sum_by (bytes_for view at) requests ≤ sum_by (rounded_size Power) requests
bytes_all view at [] named = omega arith
bytes_all view at (request ∷ requests) named =
    let first = bytes_within view at request named in
    let rest = bytes_all view at requests named in
    let one = sum_by-cons (bytes_for view at) request requests in
    let two = sum_by-cons (rounded_size Power) request requests in
    omega (arith, first, rest, one, two)

pub turns_all : (view : TokenView) (at : AllocId) (requests : List ℕ) → sum_by (turns_for view at) requests ≤ length requests
turns_all view at [] = omega arith
turns_all view at (request ∷ requests) =
    let first = one_at_most (bytes_for view at request == 0) in
    let rest = turns_all view at requests in
    let one = sum_by-cons (turns_for view at) request requests in
    omega (arith, first, rest, one)

pub share_all : (references : List Ref) → sum_by turns_to_share references ≤ length references
share_all [] = omega arith
share_all (of ∷ references) =
    let first = one_at_most (is_empty of) in
    let rest = share_all references in
    let one = sum_by-cons turns_to_share of references in
    omega (arith, first, rest, one)

-- a token pays for buffers with bytes for their sizes and a turn for each
pub can_pay : (view : TokenView) (at : AllocId) (requests : List ℕ) → CanName view at
    → sum_by (rounded_size Power) requests ≤ view.bytes → length requests ≤ view.turns → CanPay view at requests
can_pay view at requests named bytes turns =
    let one = bytes_all view at requests named in
    let two = turns_all view at requests in
    record { named = named; bytes = omega (arith, one, bytes); turns = omega (arith, two, turns) }

pub can_share : (view : TokenView) (at : AllocId) (references : List Ref) → CanName view at → length references ≤ view.turns
    → CanShare view at references
can_share view at references named turns =
    let one = share_all references in
    record { named = named; turns = omega (arith, one, turns) }

-- rows have two buffers a column
two_lengths : (kind : Kind) (cells : List Cell) → length (column_lengths kind cells) ≡ 2
two_lengths kind.Int cells = refl
two_lengths kind.Sum cells = refl
two_lengths kind.Text cells = refl

lengths-from : (column : ℕ) (kinds : List Kind) (rows : List (List Cell)) → length (lengths_from column kinds rows) ≡ 2 * length kinds
lengths-from column [] rows = omega arith
lengths-from column (kind ∷ kinds) rows =
    let both = length-append (column_lengths kind (column_of column rows)) (lengths_from (column + 1) kinds rows) in
    let first = two_lengths kind (column_of column rows) in
    let rest = lengths-from (column + 1) kinds rows in
    omega (arith, both, first, rest)

pub buffers-count : (kinds : List Kind) (rows : List (List Cell)) → length (buffer_lengths kinds rows) ≡ 2 * length kinds
buffers-count kinds rows = lengths-from 0 kinds rows

module _ {Token Hold : Type 0} (memory : MemoryModel Token Hold) where
  -- the turns that a call may spend
  call-turns : (view : TokenView) (call : MemoryCall) → turns_of view call ≤ asks call
  call-turns view (Child parent reservation limit answer) = omega arith
  call-turns view (Unpin at) = omega arith
  call-turns view (Close at answer) = omega arith
  call-turns view (Grant at request answer) = turns_of-one view (Grant at request answer)
  call-turns view (Retain of target answer) = turns_of-one view (Retain of target answer)
  call-turns view (Transfer of target answer) = turns_of-one view (Transfer of target answer)
  call-turns view (Release of answer) = omega arith

  pub spent-turns : (calls : List MemoryCall) (old new : Token) → MakesCalls memory calls old new
      → (memory.view old).turns ≤ (memory.view new).turns + turns_in calls
  spent-turns [] old new same = let turns = ap (λ token. (memory.view token).turns) same in omega (arith, turns)
  spent-turns (call ∷ calls) old new made =
      let first = made.1.view.turns in
      let one = call-turns (memory.view old) call in
      let rest = spent-turns calls made.0 new made.2 in
      let all = sum_by-cons asks call calls in
      omega (arith, first, one, rest, all)

  -- the bytes that a call may spend
  call-bytes : (view : TokenView) (at : AllocId) (call : MemoryCall) → CanName view at → AsksAt at call
      → bytes_of view call ≤ asked_bytes call
  call-bytes view at (Child parent reservation limit answer) named asks = omega arith
  call-bytes view at (Unpin place) named asks = omega arith
  call-bytes view at (Close place answer) named asks = omega arith
  call-bytes view at (Grant place request answer) named asks =
      bytes_within view place request (subst (CanName view) (sym asks) named)
  call-bytes view at (Retain of target answer) named asks = omega arith
  call-bytes view at (Transfer of target answer) named asks = omega arith
  call-bytes view at (Release of answer) named asks = omega arith

  pub spent-bytes : (at : AllocId) (calls : List MemoryCall) (old new : Token) → CanName (memory.view old) at → All (AsksAt at) calls
      → MakesCalls memory calls old new → (memory.view old).bytes ≤ (memory.view new).bytes + bytes_in calls
  spent-bytes at [] old new named asks same = let bytes = ap (λ token. (memory.view token).bytes) same in omega (arith, bytes)
  spent-bytes at (call ∷ calls) old new named asks made =
      let first = made.1.view.bytes in
      let one = call-bytes (memory.view old) at call named (All-head (AsksAt at) call calls asks) in
      let rest = spent-bytes at calls made.0 new (made.1.view.names.rounding at.0 Power named) (All-tail (AsksAt at) call calls asks) made.2 in
      let all = sum_by-cons asked_bytes call calls in
      omega (arith, first, one, rest, all)

  -- calls for buffers keep every pin
  call-pins : (call : MemoryCall) (old new : Token) → IsBufferCall call → MakesCall memory call old new
      → (memory.view new).pins ≡ (memory.view old).pins
  call-pins (Child parent reservation limit answer) old new impossible made = absurd impossible
  call-pins (Unpin at) old new impossible made = absurd impossible
  call-pins (Close at answer) old new impossible made = absurd impossible
  call-pins (Grant at request answer) old new is made = made.view.pins
  call-pins (Retain of target answer) old new is made = made.view.pins
  call-pins (Transfer of target answer) old new is made = made.view.pins
  call-pins (Release of answer) old new is made = made.view.pins

  pub kept-pins : (calls : List MemoryCall) (old new : Token) → All IsBufferCall calls → MakesCalls memory calls old new
      → (memory.view new).pins ≡ (memory.view old).pins
  kept-pins [] old new are same = ap (λ token. (memory.view token).pins) same
  kept-pins (call ∷ calls) old new are made =
      kept-pins calls made.0 new (All-tail IsBufferCall call calls are) made.2
      ∙ call-pins call old made.0 (All-head IsBufferCall call calls are) made.1

  pub kept-names : (calls : List MemoryCall) (old new : Token) (at : AllocId) → CanName (memory.view old) at
      → MakesCalls memory calls old new → CanName (memory.view new) at
  kept-names calls old new at named made = (MakesCalls-names memory calls old new made).rounding at.0 Power named
