-- How what tokens show is cut in two and put together, and what it weighs.
use Rattle.std.specs.Prelude.{◌≡◌, ℕ, ◌+◌, ◌==◌, if◌then◌else◌, List, [], ◌++◌, sum_by}
use Rattle.acct_core.specs.Claims.{Claim}
use Rattle.acct_words.specs.Entries.{Entry}
use Rattle.acct_words.specs.Views.{Body, View}

-- nothing
abbrev pub nothing : Body
nothing = record { own_steps = []; observed = []; bytes = 0; turns = 0; chunks = [] }

-- two bodies together
abbrev pub plus : Body → Body → Body
plus body other = record {
  own_steps = body.own_steps ++ other.own_steps;
  observed = body.observed ++ other.observed;
  bytes = body.bytes + other.bytes;
  turns = body.turns + other.turns;
  chunks = body.chunks ++ other.chunks;
}

-- a body that was shown these steps
abbrev pub seeing : Body → List Entry → Body
seeing body steps = record body { observed = steps }

-- what a view keeps at a split
abbrev pub left : View → View
left view = record view { offer = nothing }

-- what it gives away: what it offers, with a copy of all that it made or saw
abbrev pub right : View → View
right view = record {
  start = view.start;
  known = [];
  own = seeing view.offer (view.offer.observed ++ (view.own.own_steps ++ view.own.observed));
  offer = nothing;
}

-- a view that takes in another
abbrev pub both : View → View → View
both view other = record view { own = plus view.own (plus other.own other.offer) }

-- what a join leaves of the other
abbrev pub spent : View
spent = record { start = record { tree = []; bytes = 0; turns = 0 }; known = []; own = nothing; offer = nothing }

-- a weight of both bodies of a view
abbrev pub of_view : (Body → ℕ) → View → ℕ
of_view weight view = weight view.own + weight view.offer

-- a weight over all views
abbrev pub total : (Body → ℕ) → List View → ℕ
total weight views = sum_by (of_view weight) views

-- a weight of what a body has, apart from what it was shown
pub record IsWeight (weight : Body → ℕ) : Type 0 where
  pub none : weight nothing ≡ 0
  pub together : (body other : Body) → weight (plus body other) ≡ weight body + weight other
  pub shown : (body : Body) (steps : List Entry) → weight (seeing body steps) ≡ weight body

-- a weight of the steps that it made
abbrev pub made : (Entry → ℕ) → Body → ℕ
made weight body = sum_by weight body.own_steps

-- the bytes that may still be asked for
abbrev pub bytes_left : Body → ℕ
bytes_left body = body.bytes

-- the turns that are left
abbrev pub turns_left : Body → ℕ
turns_left body = body.turns

-- a weight of its chunks' charges
abbrev pub charging : (Claim → ℕ) → Body → ℕ
charging weight body = sum_by (λ chunk. sum_by weight chunk.charges) body.chunks

-- its chunks' sizes
abbrev pub chunk_sizes : Body → ℕ
chunk_sizes body = sum_by (λ chunk. chunk.size) body.chunks

-- how many of its chunks have this number
abbrev pub numbered : ℕ → Body → ℕ
numbered number body = sum_by (λ chunk. if chunk.number == number then 1 else 0) body.chunks
