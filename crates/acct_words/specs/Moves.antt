-- What each kind of step makes of the body of its token.
use Rattle.std.specs.Prelude.{ℕ, ◌-◌, true, false, ◌==◌, if◌then◌else◌, List, [], ◌∷◌, ◌++◌, Option, Some, None}
use Rattle.acct_core.specs.Claims.{Claim, claim_at}
use Rattle.acct_core.specs.Phases.{Phase}
use Rattle.acct_core.specs.Phases.Phase.{Up, Held, Failed, Down}
use Rattle.acct_core.specs.declared.row.Row.{Row}
use Rattle.acct_core.specs.Effects.{Effect, up_effect, down_effect}
use Rattle.acct_core.specs.FixedTrees.{settled}
use Rattle.acct_words.specs.Places.{held_word}
use Rattle.acct_words.specs.Entries.{Entry}
use Rattle.acct_words.specs.declared.fixed.Fixed.{Fixed}
use Rattle.acct_words.specs.Views.{Chunk, Body}
use Rattle.acct_words.specs.Bodies.{nothing}
use Rattle.acct_words.specs.Rows.{row_of}

-- the row of n, of which this is fixed, where its held word returned this
abbrev pub found_row : ℕ → Fixed → ℕ → Row
found_row number fixed found = row_of number fixed found fixed.limit

-- the claim after an effect, if there is one
abbrev pub claim_after : Option Effect → Claim → Claim
claim_after None claim = claim
claim_after (Some effect) claim = effect.claim

-- the claim after it added what it had pending at n, where the word returned this
abbrev pub risen : ℕ → Fixed → ℕ → Claim → Claim
risen number fixed found claim = claim_after (up_effect claim claim.phase (found_row number fixed found)) claim

-- a body with other steps, budget and chunks
abbrev pub with_step : Body → Entry → ℕ → ℕ → List Chunk → Body
with_step body entry bytes turns chunks = record body {
  own_steps = body.own_steps ++ entry ∷ [];
  bytes = bytes;
  turns = turns;
  chunks = chunks;
}

-- a chunk with other charges
abbrev pub charged_as : Chunk → List Claim → Chunk
charged_as chunk charges = record chunk { charges = charges }

-- what becomes of the first chunk
abbrev pub first_chunk : (Chunk → Chunk) → List Chunk → List Chunk
first_chunk change [] = []
first_chunk change (chunk ∷ chunks) = change chunk ∷ chunks

-- what becomes of its first charge
abbrev pub first_charge : (Claim → Claim) → List Claim → List Claim
first_charge change [] = []
first_charge change (claim ∷ charges) = change claim ∷ charges

-- a turn is spent, and a chunk has the number that was drawn
abbrev pub drawing : Body → Entry → Body
drawing body entry = with_step body entry body.bytes (body.turns - 1) (record {
  number = entry.found;
  size = 0;
  charges =
      [];
} ∷ body.chunks)

-- the first chunk's request begins at m, with the bytes that it spends
abbrev pub beginning : ℕ → ℕ → Fixed → Body → Entry → Body
beginning size level fixed body entry = with_step body entry (body.bytes - size) body.turns
    (first_chunk (λ chunk. record {
      number = chunk.number;
      size = size;
      charges =
          risen level fixed entry.found (claim_at level (Up size level size false [])) ∷ [];
    }) body.chunks)

-- the first chunk's size is forced onto m, beside what it is charged elsewhere
abbrev pub forcing : ℕ → ℕ → Fixed → Body → Entry → Body
forcing size level fixed body entry =
    with_step body entry body.bytes body.turns
    (first_chunk (λ chunk. charged_as chunk (risen level fixed entry.found (claim_at level (Up size level size true [])) ∷ chunk.charges))
    body.chunks)

-- the first chunk's first charge goes up
abbrev pub rising : ℕ → Fixed → Body → Entry → Body
rising level fixed body entry =
    with_step body entry body.bytes body.turns
    (first_chunk (λ chunk. charged_as chunk (first_charge (risen level fixed entry.found) chunk.charges)) body.chunks)

-- a word is read
abbrev pub reading : Body → Entry → Body
reading body entry = with_step body entry body.bytes body.turns body.chunks

-- all chunks but the first
abbrev pub other_chunks : List Chunk → List Chunk
other_chunks [] = []
other_chunks (chunk ∷ chunks) = chunks

-- the first one alone
abbrev pub one_chunk : List Chunk → List Chunk
one_chunk [] = []
one_chunk (chunk ∷ chunks) = chunk ∷ []

-- the first chunk is offered
abbrev pub parting : Body → Entry → Body
parting body entry = with_step body entry body.bytes body.turns (other_chunks body.chunks)

-- and this is the offer
abbrev pub parted : Body → Body
parted body = record nothing { chunks = one_chunk body.chunks }

-- a charge that is held or failed turns round, with its whole size pending at its allocator
abbrev pub turned_phase : ℕ → Phase → Phase
turned_phase number (Held size forced steps) = Down size number size
turned_phase number (Failed size forced steps) = Down size number size
turned_phase number phase = phase

-- the claim after that
abbrev pub turned : Claim → Claim
turned claim = record claim { phase = turned_phase claim.node claim.phase }

-- the claim after it subtracted what it had pending at n, where the word returned this
abbrev pub fallen : ℕ → Fixed → ℕ → Claim → Claim
fallen number fixed found claim = claim_after (down_effect claim claim.phase (found_row number fixed found)) claim

-- a claim behind the first one
abbrev pub behind : Claim → List Claim → List Claim
behind claim [] = claim ∷ []
behind claim (other ∷ rest) = other ∷ claim ∷ rest

-- the charge whose held word this is comes first
abbrev pub to_front : ℕ → List Claim → List Claim
to_front word [] = []
to_front word (claim ∷ charges) = if held_word claim.node == word then claim ∷ charges else behind claim (to_front word charges)

-- what becomes of the charges where the first one goes down
abbrev pub falling_charges : ℕ → Fixed → ℕ → List Claim → List Claim
falling_charges level fixed found [] = []
falling_charges level fixed found (claim ∷ rest) = settled (fallen level fixed found claim) rest

-- what becomes of them where the first one turns round, and goes down
abbrev pub turning_charges : ℕ → Fixed → ℕ → List Claim → List Claim
turning_charges level fixed found [] = []
turning_charges level fixed found (claim ∷ rest) = settled (fallen level fixed found (turned claim)) rest

-- the first chunk's first charge goes down
abbrev pub falling : ℕ → Fixed → Body → Entry → Body
falling level fixed body entry = with_step body entry body.bytes body.turns
    (first_chunk (λ chunk. charged_as chunk (falling_charges level fixed entry.found chunk.charges)) body.chunks)

-- the first chunk's charge at the step's allocator turns round, and goes down
abbrev pub turning : ℕ → Fixed → Body → Entry → Body
turning level fixed body entry = with_step body entry body.bytes body.turns
    (first_chunk (λ chunk. charged_as chunk (turning_charges level fixed entry.found (to_front entry.word chunk.charges))) body.chunks)

-- a part of the budget is offered
abbrev pub paying : ℕ → ℕ → Body → Entry → Body
paying bytes turns body entry = with_step body entry (body.bytes - bytes) (body.turns - turns) body.chunks

-- and this is the offer
abbrev pub paid : ℕ → ℕ → Body
paid bytes turns = record nothing { bytes = bytes; turns = turns }
