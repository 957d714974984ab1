-- What a charge makes of its token.
use Rattle.std.proofs.Common.{◌≡◌, ℕ, ◌-◌, Bool, true, false, cond, ◌&&◌, ◌||◌, List, [], ◌∷◌, ◌++◌, Some, None, refl, sym, ap, ◌∙◌}
use Rattle.std.proofs.Common.{eq-eqb}
use Rattle.mem_num.specs.declared.full.Full.{Full}
use Rattle.acct_core.specs.declared.level_step.LevelStep.{LevelStep}
use Rattle.acct_core.specs.Phases.{Phase, is_past, any_past}
use Rattle.acct_core.specs.Phases.Phase.{Held, Failed}
use Rattle.acct_core.specs.Claims.{claim_at}
use Rattle.acct_core.specs.Effects.{ended}
use Rattle.acct_words.specs.Entries.StepKind.{DrawChunkNumber, ForgetChunk}
use Rattle.acct_words.specs.Entries.{Entry}
use Rattle.acct_words.specs.Views.{Chunk, View}
use Rattle.acct_words.specs.Places.{still_word, number_word, held_word}
use Rattle.acct_words.specs.Bodies.{nothing, left}
use Rattle.acct_words.specs.Moves.{drawing, charged_as, first_chunk, other_chunks, one_chunk, to_front, parting}
use Rattle.acct_words.specs.Plays.{Steps, first_size, stepping, parting_view}
use Rattle.acct_words.specs.Calls.{HasChunk, HasEmptyChunk, HasParted, TurnsBack}
use Rattle.acct_core.specs.FixedTrees.{CanTurnRound}
use Rattle.acct_words.specs.Climbs.{IsCharged, refusal_of, full_at, standing}
use Rattle.acct_words.specs.Falls.{IsReleased, rest_of, released}
use Rattle.acct_words.specs.Charges.{draw_entry, still_entry, forget_entry, ViewCharges, ViewRefuses}

-- steps after one and others
before_all : (xs : List Entry) (e : Entry) (ys : List Entry) → (xs ++ e ∷ []) ++ ys ≡ xs ++ e ∷ ys
before_all [] e ys = refl
before_all (x ∷ xs) e ys = ap (λ (l : List Entry). x ∷ l) (before_all xs e ys)

-- a step behind others
behind_all : (xs : List Entry) (e : Entry) (ys zs : List Entry) → (xs ++ e ∷ ys) ++ zs ≡ xs ++ e ∷ (ys ++ zs)
behind_all [] e ys zs = refl
behind_all (x ∷ xs) e ys zs = ap (λ (l : List Entry). x ∷ l) (behind_all xs e ys zs)

-- steps behind others
three : (xs ys zs : List Entry) → (xs ++ ys) ++ zs ≡ xs ++ (ys ++ zs)
three [] ys zs = refl
three (x ∷ xs) ys zs = ap (λ (l : List Entry). x ∷ l) (three xs ys zs)

-- the first chunk, or none
abbrev chunk_or_none : List Chunk → Chunk
chunk_or_none [] = record { number = 0; size = 0; charges = [] }
chunk_or_none (k ∷ chunks) = k

-- the chunk of a charge that went all the way
abbrev pub charged_chunk : ℕ → ℕ → ℕ → List LevelStep → Chunk
charged_chunk at number size steps = record { number = number; size = size; charges = claim_at at (ended size false steps) ∷ [] }

-- the token after the draw and the climb
pub climbed_view : (at size number : ℕ) (v d w : View) (steps : List LevelStep) (s : Steps DrawChunkNumber drawing number_word number v d)
    (c : IsCharged at size d w steps None)
    → w ≡ standing v c.climbed.known (draw_entry s.0 number ∷ c.climbed.entries) (v.own.bytes - size) (v.own.turns - 1)
    (charged_chunk at number size steps ∷ v.own.chunks)
climbed_view at size number v d w steps s c =
    let first : record { number = number; size = 0; charges = [] } ∷ v.own.chunks ≡ c.chunk ∷ c.others =
    sym (ap (λ (y : View). y.own.chunks) s.1) ∙ c.is in
    let k : c.chunk ≡ record { number = number; size = 0; charges = [] } = ap chunk_or_none (sym first) in
    let o : c.others ≡ v.own.chunks = ap other_chunks (sym first) in
    c.climbed.view ∙ (λ j. standing (s.1 j) c.climbed.known c.climbed.entries ((s.1 j).own.bytes - size) (s.1 j).own.turns
    (charged_as (record { number = (k j).number; size = size; charges = [] }) (claim_at at (ended size false steps) ∷ []) ∷ o j))
    ∙ (λ j. record v {
      known = c.climbed.known;
      own = record (v.own) {
        own_steps = before_all v.own.own_steps (draw_entry s.0 number) c.climbed.entries j;
        bytes = v.own.bytes - size;
        turns = v.own.turns - 1;
        chunks = charged_chunk at number size steps ∷ v.own.chunks;
      };
    })

-- a drawn chunk has no charge
pub drawn_empty : (number : ℕ) (v d : View) → Steps DrawChunkNumber drawing number_word number v d → HasEmptyChunk d
drawn_empty number v d s = record {
  chunk = record { number = number; size = 0; charges = [] };
  others = v.own.chunks;
  is =
      ap (λ (y : View). y.own.chunks) s.1;
  empty = refl;
}

-- no refusal, no step past its limit
none_past : (at : ℕ) (steps : List LevelStep) → refusal_of at steps ≡ None → any_past steps ≡ false
none_past at [] e = refl
none_past at (s ∷ steps) e = by (is_past s) (none_past at steps) e
  where
    by : (b : Bool) → (refusal_of at steps ≡ None → any_past steps ≡ false) → cond b (Some (full_at at s)) (refusal_of at steps) ≡ None →
        (b || any_past steps) ≡ false
    by true h g = absurd cc
    by false h g = h g

-- a charge that succeeded
pub charge_done : (at size number : ℕ) (v d w x new : View) (steps : List LevelStep) → v.offer ≡ nothing →
    (s : Steps DrawChunkNumber drawing number_word number v d) (c : IsCharged at size d w steps None) → refusal_of at steps ≡ None →
    HasParted w x new → ViewCharges at size v x number new
charge_done at size number v d w x new steps whole s c none p =
    let view = climbed_view at size number v d w steps s c in
    let within = none_past at steps none in
    let held : ended size false steps ≡ Held size false steps =
    ap (λ (b : Bool). cond (true && b) (Failed size false steps) (Held size false steps)) within in
    let e = still_entry p.name p.found in
    let kept : x ≡ standing v c.climbed.known (draw_entry s.0 number ∷ (c.climbed.entries ++ e ∷ [])) (v.own.bytes - size)
    (v.own.turns - 1) v.own.chunks
    = p.kept ∙ (λ j. left (parting_view (view j) p.name still_word p.found))
    ∙ (λ j. record v {
      known = c.climbed.known;
      own = record (v.own) {
        own_steps = behind_all v.own.own_steps (draw_entry s.0 number) c.climbed.entries (e ∷ []) j;
        bytes = v.own.bytes - size;
        turns = v.own.turns - 1;
      };
      offer = sym whole j;
    }) in
    let seen : x.own.own_steps ++ x.own.observed ≡ (w.own.own_steps ++ e ∷ []) ++ w.own.observed =
    ap (λ (y : View). y.own.own_steps ++ y.own.observed) p.kept in
    record {
      draw_name = s.0;
      last_name = p.name;
      last_found = p.found;
      steps = steps;
      entries = c.climbed.entries;
      climb = c.climbed.climb;
      within = within;
      begins = c.climbed.begins;
      known = c.climbed.known;
      token = kept;
      chunk = p.given ∙ (λ j. record {
        start = ((ap (λ (y : View). y.start) view ∙ sym (ap (λ (y : View). y.start) kept)) j);
        known = [];
        own = record nothing {
          observed = sym seen j;
          chunks = ((ap (λ (y : View). one_chunk y.own.chunks) view
              ∙ ap (λ (ph : Phase). record { number = number; size = size; charges = claim_at at ph ∷ [] } ∷ []) held) j);
        };
        offer = nothing;
      });
    }

-- a charge that ended can turn round
ended_turns : (size : ℕ) (steps : List LevelStep) → CanTurnRound size (ended size false steps)
ended_turns size steps = by (any_past steps)
  where
    by : (b : Bool) → CanTurnRound size (cond (true && b) (Failed size false steps) (Held size false steps))
    by true = refl
    by false = refl

-- the one charge of a list is in front
pub one_front : (at : ℕ) (phase : Phase) → to_front (held_word at) (claim_at at phase ∷ []) ≡ claim_at at phase ∷ []
one_front at phase = rw (eq-eqb (held_word at) (held_word at) refl) refl

-- the chunk in hand can turn back
pub charged_turns : (at size number : ℕ) (v d w : View) (steps : List LevelStep)
    (s : Steps DrawChunkNumber drawing number_word number v d) → IsCharged at size d w steps None → TurnsBack at size w
charged_turns at size number v d w steps s c = record {
  chunk = charged_chunk at number size steps;
  others = v.own.chunks;
  is = ap (λ (y : View). y.own.chunks) (climbed_view at size number v d w steps s c);
  phase = ended size false steps;
  rest = [];
  front = one_front at (ended size false steps);
  turns = ended_turns size steps;
}

-- the chunk in hand has a charge
pub charged_has : (at size number : ℕ) (v d w : View) (steps : List LevelStep) (s : Steps DrawChunkNumber drawing number_word number v d)
    → IsCharged at size d w steps None → HasChunk w
charged_has at size number v d w steps s c = record {
  chunk = charged_chunk at number size steps;
  others = v.own.chunks;
  is =
      ap (λ (y : View). y.own.chunks) (climbed_view at size number v d w steps s c);
}

-- the token after the release
released_view : (at size number : ℕ) (v d w x : View) (steps : List LevelStep) (back : List Entry)
    (s : Steps DrawChunkNumber drawing number_word number v d) (c : IsCharged at size d w steps None)
    → (r : IsReleased at size w x back None) →
    x ≡ standing v r.known (draw_entry s.0 number ∷ (c.climbed.entries ++ back)) (v.own.bytes - size) (v.own.turns - 1)
    (record { number = number; size = size; charges = [] } ∷ v.own.chunks)
released_view at size number v d w x steps back s c r =
    let view = climbed_view at size number v d w steps s c in
    r.view ∙ (λ j. standing (view j) r.known back (view j).own.bytes (view j).own.turns
    (first_chunk (released at size None) (view j).own.chunks))
    ∙ (λ j. record v {
      known = r.known;
      own = record (v.own) {
        own_steps = behind_all v.own.own_steps (draw_entry s.0 number) c.climbed.entries back j;
        bytes = v.own.bytes - size;
        turns = v.own.turns - 1;
        chunks = record { number = number; size = size; charges = rest_of (one_front at (ended size false steps) j) } ∷ v.own.chunks;
      };
    })

-- the chunk in hand has no charge then
pub released_empty : (at size number : ℕ) (v d w x : View) (steps : List LevelStep) (back : List Entry)
    (s : Steps DrawChunkNumber drawing number_word number v d) → IsCharged at size d w steps None → IsReleased at size w x back None →
    HasEmptyChunk x
released_empty at size number v d w x steps back s c r = record {
  chunk = record { number = number; size = size; charges = [] };
  others = v.own.chunks;
  is = ap (λ (y : View). y.own.chunks) (released_view at size number v d w x steps back s c r);
  empty = refl;
}

-- a charge that was refused
pub charge_refused : (at size number : ℕ) (v d w x y : View) (steps : List LevelStep) (back : List Entry) (full : Full) (found : ℕ)
    (s : Steps DrawChunkNumber drawing number_word number v d) (c : IsCharged at size d w steps None) → refusal_of at steps ≡ Some full →
    IsReleased at size w x back None
    → Steps (ForgetChunk (first_size x.own.chunks)) parting still_word found x y → ViewRefuses at size v y full
charge_refused at size number v d w x y steps back full found s c refusal r f =
    let e = forget_entry f.0 size found in
    let all = draw_entry s.0 number ∷ (c.climbed.entries ++ back) in
    record {
      draw_name = s.0;
      number = number;
      last_name = f.0;
      last_found = found;
      steps = steps;
      entries = c.climbed.entries;
      taken_back = back;
      climb = c.climbed.climb;
      refusal = refusal;
      begins = c.climbed.begins;
      descent = r.descent;
      known = r.known;
      token = f.1 ∙ ap (λ (z : View). stepping parting z (forget_entry f.0 (first_size z.own.chunks) found))
          (released_view at size number v d w x steps back s c r)
          ∙ (λ j. record v {
            known = r.known;
            own = record (v.own) {
              own_steps = (three v.own.own_steps all (e ∷ [])
                  ∙ ap (λ (l : List Entry). v.own.own_steps ++ draw_entry s.0 number ∷ l) (three c.climbed.entries back (e ∷ []))) j;
              bytes = v.own.bytes - size;
              turns = v.own.turns - 1;
            };
          });
    }
