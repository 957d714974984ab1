-- Texts that lie one after another, from any start.
use Rattle.std.proofs.Common.{◌≡◌, ℕ, ◌+◌, ◌-◌, ◌<◌, ◌≤◌, zero, suc, List, [], ◌∷◌, ◌++◌, length, take, drop, get_or, refl, sym, ap, ◌∙◌}
use Rattle.std.proofs.Common.{arith}
use Rattle.std.proofs.Common.{subst}
use Rattle.std.specs.Prelude.{map, IsUtf8}
use Rattle.std.proofs.lemmas.List.{get_or-map}
use Rattle.std.proofs.lemmas.Str.{is_utf8-from_IsUtf8}
use Rattle.csv.specs.Records.{Rising, cut_from, last_end}
use Rattle.query_model.specs.declared.cell.Cell.TheVariants.{Null, Text}
use Rattle.row_text.specs.Stored.{AreTexts, texts}
use Rattle.row_text.proofs.SliceLemmas.{cuts-length, rising-within}
use Rattle.row_text.proofs.StoredLemmas.{texts-cells, texts-more}

-- the first text begins at the start, and each of the others where the one before it ends
pub start-first : (start place : ℕ) (ends : List ℕ) → place ≡ 0 → start ≡ last_end start (take place ends)
unfolding last_end
start-first start place ends none = ap (λ n. last_end start (take n ends)) (sym none)

last-taken : (n start : ℕ) (ends : List ℕ) → n < length ends → get_or ends n 0 ≡ last_end start (take (suc n) ends)
unfolding last_end
last-taken n start [] h = absurd (omega arith)
last-taken zero start (e ∷ es) h = refl
last-taken (suc n) start (e ∷ es) h = last-taken n e es (omega arith)

pub start-later : (start place : ℕ) (ends : List ℕ) → (place ≡ 0 → ⊥) → place < length ends
    → get_or ends (place - 1) 0 ≡ last_end start (take place ends)
start-later start zero ends n h = absurd (n refl)
start-later start (suc place) ends n h =
    let same : suc place - 1 ≡ place = omega arith in
    ap (λ (k : ℕ). get_or ends k 0) same ∙ last-taken place start ends (omega arith)

cut-at : (place start : ℕ) (ends bytes : List ℕ) → place < length ends
    → take (get_or ends place 0 - last_end start (take place ends)) (drop (last_end start (take place ends)) bytes)
    ≡ get_or (cut_from start ends bytes) place []
unfolding cut_from last_end
cut-at place start [] bytes within = absurd (omega arith)
cut-at zero start (e ∷ es) bytes within = refl
cut-at (suc place) start (e ∷ es) bytes within = cut-at place e es bytes (omega arith)

rising-at : (place start : ℕ) (ends : List ℕ) (size : ℕ) → Rising start ends size → place < length ends
    → (last_end start (take place ends) ≤ get_or ends place 0) × (get_or ends place 0 ≤ size)
unfolding Rising last_end
rising-at place start [] size h within = absurd (omega arith)
rising-at zero start (e ∷ es) size h within = (h.0, rising-within e es size h.1)
rising-at (suc place) start (e ∷ es) size h within = rising-at place e es size h.1 (omega arith)

module _ (start place from : ℕ) (ends bytes : List ℕ) (is : from ≡ last_end start (take place ends)) (within : place < length ends) where
  -- a text begins before it ends, and within the bytes
  pub text-bounds : Rising start ends (length bytes) → (from ≤ get_or ends place 0) × (get_or ends place 0 ≤ length bytes)
  text-bounds rising =
      subst (λ n. (n ≤ get_or ends place 0) × (get_or ends place 0 ≤ length bytes)) (sym is) (rising-at place start ends
      (length bytes) rising within)

  -- and is what lies between
  pub text-cut : take (get_or ends place 0 - from) (drop from bytes) ≡ get_or (cut_from start ends bytes) place []
  text-cut = ap (λ n. take (get_or ends place 0 - n) (drop n bytes)) is ∙ cut-at place start ends bytes within

-- the cell of a place
pub text-there : (start place : ℕ) (ends bytes : List ℕ) → place < length ends
    → get_or (map Text (cut_from start ends bytes)) place Null ≡ Text (get_or (cut_from start ends bytes) place [])
text-there start place ends bytes within =
    let long = cuts-length start ends bytes in
    let inside : place < length (cut_from start ends bytes) = omega (arith, long, within) in
    get_or-map Text (cut_from start ends bytes) place [] Null inside

-- no texts
pub no-texts : texts [] [] ≡ []
unfolding cut_from
no-texts = refl

-- one text more
pub pushed-text : (bytes bytes2 ends ends2 text : List ℕ) (end : ℕ) → AreTexts bytes ends → IsUtf8 text → end ≡ length bytes + length text
    → bytes2 ≡ bytes ++ text → ends2 ≡ ends ++ end ∷ []
    → AreTexts bytes2 ends2 × (texts bytes2 ends2 ≡ texts bytes ends ++ Text text ∷ [])
pushed-text bytes bytes2 ends ends2 text end are utf8 e f g =
    let yes_ = is_utf8-from_IsUtf8 text utf8 in
    (rw (f, g, e) (texts-more bytes ends text are yes_), rw (f, g, e) (texts-cells bytes ends text are))
