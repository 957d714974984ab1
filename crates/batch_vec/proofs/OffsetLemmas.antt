-- Places among texts.
use Rattle.std.proofs.Common.{◌≡◌, ℕ, ◌+◌, ◌-◌, ◌*◌, ◌/◌, ◌<◌, ◌≤◌, zero, suc, List, [], ◌∷◌, ◌++◌, length, take, drop, map, get_or, sym}
use Rattle.std.proofs.Common.{◌∙◌, ap, arith}
use Rattle.std.specs.Int.{w32, from_le_bytes}
use Rattle.std.specs.List.{range_with_len}
use Rattle.std.specs.Simd.{first_chunks}
use Rattle.csv.specs.Records.{Rising, last_end}
use Rattle.csv.proofs.RecordFacts.{last_end-at, last_end-none}
use Rattle.batch_vec.specs.Offsets.{end_at}
use Rattle.batch_vec.proofs.ListLemmas.{chunk_there, map_pushed}

-- where the last text ends
pub end_none : (start : ℕ) (ends : List ℕ) → length ends ≡ 0 → start ≡ last_end start ends
end_none start ends none = sym (last_end-none start ends none)

pub end_last : (start : ℕ) (ends : List ℕ) (d : ℕ) → 0 < length ends → get_or ends (length ends - 1) d ≡ last_end start ends
end_last start ends d some =
    let next : length ends ≡ suc (length ends - 1) = omega arith in
    sym (last_end-at start ends (length ends - 1) d next)

-- no text ends before the first begins
pub start_below : (start : ℕ) (ends : List ℕ) (size place : ℕ) → Rising start ends size → place < length ends
    → start ≤ get_or ends place 0
unfolding Rising
start_below start [] size place rising within = absurd (omega arith)
start_below start (end ∷ ends) size zero rising within = rising.0
start_below start (end ∷ ends) size (suc place) rising within =
    let rest = start_below end ends size place rising.1 (omega arith) in
    let first : start ≤ end = rising.0 in
    omega (arith, rest, first)

-- one end more that was read
pub end_pushed : (bytes : List ℕ) (chunks : List (List ℕ)) (place : ℕ) (d : List ℕ) (old new : List ℕ) (x : ℕ)
    → chunks ≡ first_chunks 4 (length bytes / 4) bytes → 1 ≤ place → place < length bytes / 4 → new ≡ old ++ x ∷ []
    → old ≡ map (end_at bytes) (range_with_len 0 (place - 1)) → x ≡ from_le_bytes w32 (get_or chunks place d)
    → new ≡ map (end_at bytes) (range_with_len 0 (place + 1 - 1))
end_pushed bytes chunks place d old new x are some within pushed before is =
    let next : place - 1 + 1 ≡ place = omega arith in
    let same : place - 1 + 1 ≡ place + 1 - 1 = omega arith in
    map_pushed (end_at bytes) (place - 1) old new x pushed before
    (is ∙ ap (from_le_bytes w32) (ap (λ list. get_or list place d) are ∙ chunk_there 4 (length bytes / 4) place bytes d within
    ∙ ap (λ n. take 4 (drop (4 * n) bytes)) (sym next)))
    ∙ ap (λ n. map (end_at bytes) (range_with_len 0 n)) same
