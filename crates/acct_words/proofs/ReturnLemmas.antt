-- What charges that come back make of a token's accounts.
use Rattle.std.proofs.Common.{◌≡◌, ℕ, ◌+◌, Bool, List, [], ◌∷◌, ◌++◌, refl, ap, arith, sum_by, Option, Some}
use Rattle.std.proofs.lemmas.List.Sums.{sum_by-append, sum_by-cons}
use Rattle.mem_num.specs.declared.full.Full.{Full}
use Rattle.acct_core.specs.declared.level_step.LevelStep.{LevelStep}
use Rattle.acct_words.specs.Entries.StepKind.{LoadWord, DrawChunkNumber, BeginCharge, AddHeld, SubtractHeld, ForgetChunk, RaisePeak}
use Rattle.acct_words.specs.Entries.{StepKind, Entry, size_begun, size_forgotten, begun, forgotten}
use Rattle.acct_words.specs.Views.{Start}
use Rattle.acct_words.specs.Climbs.{Climbs, IsRaise, amount_of}
use Rattle.acct_words.specs.Climbs.Climbs.{begins, adds}
use Rattle.acct_words.specs.Climbs.IsRaise.{none, still, raised}
use Rattle.acct_words.specs.Falls.{Descends}
use Rattle.acct_words.specs.Falls.Descends.{starts, subtracts}
use Rattle.acct_words.specs.Tokens.{CallerToken}
use Rattle.acct_words.specs.CallHistories.{HasBeenRefused}
use Rattle.acct_words.specs.Returns.{HasGivenAllBack, HasComeBack}

-- an addition forgets nothing
adds_forget : (kind : StepKind) (amount : ℕ) → amount_of kind ≡ Some amount → size_forgotten kind ≡ 0
adds_forget LoadWord amount e = absurd cc
adds_forget DrawChunkNumber amount e = absurd cc
adds_forget (BeginCharge size) amount e = refl
adds_forget (AddHeld added) amount e = refl
adds_forget (SubtractHeld taken) amount e = absurd cc
adds_forget (ForgetChunk size) amount e = absurd cc
adds_forget (RaisePeak to) amount e = absurd cc

-- nor does the raising of a peak
raise_forgets : {level to : ℕ} {due : Bool} {raise : List Entry} → IsRaise level to due raise → sum_by forgotten raise ≡ 0
raise_forgets none = refl
raise_forgets (still load is reached) = let a = sum_by-cons forgotten load [] in let b = ap size_forgotten is.kind in omega arith
raise_forgets (raised load raise is word kind) =
    let a = sum_by-cons forgotten load (raise ∷ []) in let b = sum_by-cons forgotten raise [] in
    let c = ap size_forgotten is.kind in let d = ap size_forgotten kind in omega arith

-- nor does a way up
pub climb_forgets : {at size : ℕ} {forced : Bool} {entries : List Entry} {steps : List LevelStep} {next : Option (ℕ × ℕ)} →
    Climbs at size forced entries steps next → sum_by forgotten entries ≡ 0
climb_forgets begins = refl
climb_forgets (adds {entries = entries} {amount = amount} fixed addition limit reservation parent raise climb is due) =
    let a = climb_forgets climb in
    let b = sum_by-append forgotten entries (addition ∷ limit ∷ reservation ∷ parent ∷ raise) in
    let c = four_steps forgotten addition limit reservation parent raise in
    let e = adds_forget addition.kind amount is.added in
    let f = ap size_forgotten is.limit_is.kind in
    let g = ap size_forgotten is.reservation_is.kind in
    let h = ap size_forgotten is.parent_is.kind in
    let i = raise_forgets due in
    omega arith
  where
    four_steps : (weight : Entry → ℕ) (x y z u : Entry) (rs : List Entry) →
        sum_by weight (x ∷ y ∷ z ∷ u ∷ rs) ≡ weight x + (weight y + (weight z + (weight u + sum_by weight rs)))
    four_steps weight x y z u rs =
        let a = sum_by-cons weight x (y ∷ z ∷ u ∷ rs) in
        let b = sum_by-cons weight y (z ∷ u ∷ rs) in
        let c = sum_by-cons weight z (u ∷ rs) in
        let d = sum_by-cons weight u rs in omega arith

-- a release begins nothing and forgets nothing
pub release_counts : {at size : ℕ} {entries : List Entry} {next : Option (ℕ × ℕ)} →
    Descends at size entries next → (sum_by begun entries ≡ 0) × (sum_by forgotten entries ≡ 0)
release_counts starts = (refl, refl)
release_counts (subtracts {entries = entries} fixed subtraction reservation parent before is) =
    let a = release_counts before in
    let b = sum_by-append begun entries (subtraction ∷ reservation ∷ parent ∷ []) in
    let c = three_steps begun subtraction reservation parent in
    let d = ap size_begun is.subtracted in
    let d₁ = ap size_begun is.reservation_is.kind in
    let d₂ = ap size_begun is.parent_is.kind in
    let e = sum_by-append forgotten entries (subtraction ∷ reservation ∷ parent ∷ []) in
    let f = three_steps forgotten subtraction reservation parent in
    let g = ap size_forgotten is.subtracted in
    let g₁ = ap size_forgotten is.reservation_is.kind in
    let g₂ = ap size_forgotten is.parent_is.kind in
    (omega arith, omega arith)
  where
    three_steps : (weight : Entry → ℕ) (x y z : Entry) → sum_by weight (x ∷ y ∷ z ∷ []) ≡ weight x + (weight y + weight z)
    three_steps weight x y z =
        let a = sum_by-cons weight x (y ∷ z ∷ []) in
        let b = sum_by-cons weight y (z ∷ []) in
        let c = sum_by-cons weight z [] in omega arith

-- one entry, then those of a way up, then others
three_parts : (weight : Entry → ℕ) (old : List Entry) (draw : Entry) (up rest : List Entry) →
    sum_by weight (old ++ draw ∷ (up ++ rest)) ≡ sum_by weight old + (weight draw + (sum_by weight up + sum_by weight rest))
three_parts weight old draw up rest =
    let a = sum_by-append weight old (draw ∷ (up ++ rest)) in
    let b = sum_by-cons weight draw (up ++ rest) in
    let c = sum_by-append weight up rest in
    omega arith

-- a token that was refused has given back what it began
pub refused_gives_back : (start : Start) (at size : ℕ) (old new : CallerToken) (full : Full) →
    HasBeenRefused at size old.history new.history full → new.budget.bytes + size ≡ old.budget.bytes →
    HasGivenAllBack start old → HasGivenAllBack start new
refused_gives_back start at size old new full r spent g =
    let b₁ = ap (sum_by begun) r.made.own in
    let b₂ = three_parts begun old.history.own r.draw r.up (r.down ++ r.pause ∷ []) in
    let b₃ = sum_by-append begun r.down (r.pause ∷ []) in
    let b₄ = sum_by-cons begun r.pause [] in
    let b₅ = ap size_begun r.drew.kind in
    let b₆ = ap size_begun r.forgot.kind_is in
    let f₁ = ap (sum_by forgotten) r.made.own in
    let f₂ = three_parts forgotten old.history.own r.draw r.up (r.down ++ r.pause ∷ []) in
    let f₃ = sum_by-append forgotten r.down (r.pause ∷ []) in
    let f₄ = sum_by-cons forgotten r.pause [] in
    let f₅ = ap size_forgotten r.drew.kind in
    let f₆ = ap size_forgotten r.forgot.kind_is in
    let up = climb_forgets r.climb in
    let down = release_counts r.descent in
    let whole = r.begins in
    let alone = g.alone in
    let back = g.given_back in
    record { alone = omega arith; given_back = omega arith }

-- a charge that came back is given back
pub charge_gives_back : (start : Start) (at size : ℕ) (old new : CallerToken) → HasComeBack start at size old new →
    HasGivenAllBack start old → HasGivenAllBack start new
charge_gives_back start at size old new h g =
    let c = h.charged in
    let r = h.released in
    let t = h.taken_in in
    let b₁ = ap (sum_by begun) c.made.own in
    let b₂ = three_parts begun old.history.own c.draw c.up (c.pause ∷ []) in
    let b₃ = sum_by-cons begun c.pause [] in
    let b₄ = ap size_begun c.drew.kind in
    let b₅ = ap size_begun c.paused.kind_is in
    let b₆ = ap (λ history. sum_by begun history.own) h.shown in
    let b₇ = ap (sum_by begun) r.made.own in
    let b₈ = sum_by-append begun h.chunk.history.own r.down in
    let b₉ = counts_of begun h.between.history.own h.bare.history.own t.pause new.history.own t.own in
    let b₀ = ap size_begun t.paused.kind_is in
    let f₁ = ap (sum_by forgotten) c.made.own in
    let f₂ = three_parts forgotten old.history.own c.draw c.up (c.pause ∷ []) in
    let f₃ = sum_by-cons forgotten c.pause [] in
    let f₄ = ap size_forgotten c.drew.kind in
    let f₅ = ap size_forgotten c.paused.kind_is in
    let f₆ = ap (λ history. sum_by forgotten history.own) h.shown in
    let f₇ = ap (sum_by forgotten) r.made.own in
    let f₈ = sum_by-append forgotten h.chunk.history.own r.down in
    let f₉ = counts_of forgotten h.between.history.own h.bare.history.own t.pause new.history.own t.own in
    let f₀ = ap size_forgotten t.paused.kind_is in
    let up = climb_forgets c.climb in
    let down = release_counts r.descent in
    let whole = c.begins in
    let alone = g.alone in
    let back = g.given_back in
    let spent = h.spent in
    let kept = ap (λ budget. budget.bytes) h.kept in
    record { alone = omega arith; given_back = omega arith }
  where
    counts_of : (weight : Entry → ℕ) (xs ys : List Entry) (pause : Entry) (all : List Entry) → all ≡ xs ++ (ys ++ pause ∷ []) →
        sum_by weight all ≡ sum_by weight xs + (sum_by weight ys + weight pause)
    counts_of weight xs ys pause all e =
        let a = ap (sum_by weight) e in
        let b = sum_by-append weight xs (ys ++ pause ∷ []) in
        let c = sum_by-append weight ys (pause ∷ []) in
        let d = sum_by-cons weight pause [] in
        omega arith
