-- The bytes of columns as slices have them.
use Rattle.std.proofs.Common.{◌≡◌, ℕ, ℤ, ◌+◌, ◌-◌, ◌≤◌, zero, suc, Bool, true, false, List, [], ◌∷◌, ◌++◌, length, take, drop, map, refl}
use Rattle.std.proofs.Common.{sym, ◌∙◌, ap, arith}
use Rattle.std.specs.Int.{w32, w64, w128, to_le_bytes}
use Rattle.std.specs.List.{flat_map, range_with_len}
use Rattle.std.proofs.Math.Seq.{take-add}
use Rattle.std.proofs.Math.Numerals.{add-one}
use Rattle.std.proofs.lemmas.List.{length-drop, length-take, drop-drop}
use Rattle.std.proofs.lemmas.List.Folds.{flat_map-map}
use Rattle.std.proofs.lemmas.List.Sums.{sum_by-cons}
use Rattle.csv.specs.Records.{Rising, cut_from, last_end}
use Rattle.csv.proofs.RecordFacts.{rising-first, rising-last}
use Rattle.query_model.specs.Buffers.{text_length, texts_length}
use Rattle.query_model.specs.Bytes.{bit_bytes, bit_of, column_bytes, known_bit, number_bytes, offset_bytes, text_bytes}
use Rattle.query_model.specs.declared.cell.Cell.{Cell}
use Rattle.query_model.specs.declared.cell.Cell.TheVariants.{Int, Sum, Text}
use Rattle.query_model.specs.declared.kind.Kind.TheVariants as kind
use Rattle.row_text.specs.Stored.{numbers}
use Rattle.batch_vec.specs.Offsets.{offsets_of}

-- marks are the bits of numbers beside them
bits_known : {N : Type 0} (cell : N → Cell) → ((value : N) → known_bit (cell value) ≡ 1) → (values : List N) (known : List Bool)
    → length values ≡ length known → map bit_of known ≡ map known_bit (numbers cell values known)
unfolding numbers
bits_known cell ones [] [] same = refl
bits_known cell ones [] (mark ∷ known) same = absurd (omega arith)
bits_known cell ones (value ∷ values) [] same = absurd (omega arith)
bits_known cell ones (value ∷ values) (true ∷ known) same =
    let rest = bits_known cell ones values known (omega arith) in
    λ k. sym (ones value) k ∷ rest k
bits_known cell ones (value ∷ values) (false ∷ known) same =
    let rest = bits_known cell ones values known (omega arith) in
    λ k. 0 ∷ rest k

-- the two buffers of numbers
pub ints_encoded : (values : List ℤ) (known : List Bool) (first second : List ℕ) → length values ≡ length known
    → first ≡ bit_bytes (map bit_of known) → second ≡ flat_map (number_bytes w64) (numbers Int values known)
    → first ∷ second ∷ [] ≡ column_bytes kind.Int (numbers Int values known)
ints_encoded values known first second same bits bytes =
    let is = bits ∙ ap bit_bytes (bits_known Int (λ value. refl) values known same) in
    λ k. is k ∷ bytes k ∷ []

pub sums_encoded : (values : List ℤ) (known : List Bool) (first second : List ℕ) → length values ≡ length known
    → first ≡ bit_bytes (map bit_of known) → second ≡ flat_map (number_bytes w128) (numbers Sum values known)
    → first ∷ second ∷ [] ≡ column_bytes kind.Sum (numbers Sum values known)
sums_encoded values known first second same bits bytes =
    let is = bits ∙ ap bit_bytes (bits_known Sum (λ value. refl) values known same) in
    λ k. is k ∷ bytes k ∷ []

-- where each text begins, and the last one ends, when the first begins at a place
abbrev pub places_from : ℕ → List Cell → List ℕ
places_from place [] = place ∷ []
places_from place (cell ∷ cells) = place ∷ places_from (place + text_length cell) cells

range_shift : {X : Type 0} (f : ℕ → X) (a n : ℕ) → map f (range_with_len (a + 1) n) ≡ map (λ i. f (i + 1)) (range_with_len a n)
range_shift f a zero = refl
range_shift f a (suc n) = ap (λ rest. f (a + 1) ∷ rest) (range_shift f (a + 1) n)

places_taken : (cells : List Cell) (place : ℕ)
    → map (λ i. place + texts_length (take i cells)) (range_with_len 0 (length cells + 1)) ≡ places_from place cells
places_taken [] place = let none : place + 0 ≡ place = omega arith in λ k. none k ∷ []
places_taken (cell ∷ cells) place =
    let f : ℕ → ℕ = λ i. place + texts_length (take i (cell ∷ cells)) in
    let none : place + 0 ≡ place = omega arith in
    let each : (i : ℕ) → place + texts_length (take (i + 1) (cell ∷ cells)) ≡ place + text_length cell + texts_length (take i cells) =
    (λ i. ap (λ n. place + texts_length (take n (cell ∷ cells))) (add-one i)
    ∙ ap (λ n. place + n) (sum_by-cons text_length cell (take i cells)) ∙ omega arith) in
    let rest = range_shift f 0 (length cells + 1)
    ∙ (λ k. map (λ i. each i k) (range_with_len 0 (length cells + 1))) ∙ places_taken cells (place + text_length cell) in
    let step : length (cell ∷ cells) + 1 ≡ suc (length cells + 1) = omega arith in
    ap (λ n. map f (range_with_len 0 n)) step ∙ (λ k. none k ∷ rest k)

-- the offsets of texts are the bytes of these places
pub offsets_placed : (cells : List Cell) → offset_bytes cells ≡ flat_map (to_le_bytes w32) (places_from 0 cells)
offsets_placed cells =
    let zeros : (i : ℕ) → texts_length (take i cells) ≡ 0 + texts_length (take i cells) = (λ i. omega arith) in
    (λ k. flat_map (λ i. to_le_bytes w32 (zeros i k)) (range_with_len 0 (length cells + 1)))
    ∙ sym (flat_map-map (to_le_bytes w32) (λ i. 0 + texts_length (take i cells)) (range_with_len 0 (length cells + 1)))
    ∙ ap (flat_map (to_le_bytes w32)) (places_taken cells 0)

-- a text that was cut is as long as its places say
cut_long : (start end : ℕ) (bytes : List ℕ) → start ≤ end → end ≤ length bytes
    → length (take (end - start) (drop start bytes)) ≡ end - start
cut_long start end bytes order within =
    let size = length-drop start bytes in
    length-take (end - start) (drop start bytes) ∙ omega (arith, size)

-- the places of texts that were cut, counted from where the first begins
places_cut : (first start : ℕ) (ends bytes : List ℕ) → first ≤ start → Rising start ends (length bytes)
    → places_from (start - first) (map Text (cut_from start ends bytes)) ≡ (start - first) ∷ map (λ end. end - first) ends
unfolding cut_from Rising
places_cut first start [] bytes before rising = refl
places_cut first start (end ∷ ends) bytes before rising =
    let order : start ≤ end = rising.0 in
    let within : end ≤ length bytes = rising-first end ends (length bytes) rising.1 in
    let next : start - first + length (take (end - start) (drop start bytes)) ≡ end - first =
    ap (λ n. start - first + n) (cut_long start end bytes order within) ∙ omega arith in
    ap (λ rest. (start - first) ∷ rest)
    (ap (λ n. places_from n (map Text (cut_from end ends bytes))) next ∙ places_cut first end ends bytes (omega arith) rising.1)

pub offsets_cut : (start : ℕ) (ends bytes : List ℕ) → Rising start ends (length bytes)
    → offsets_of start ends ≡ offset_bytes (map Text (cut_from start ends bytes))
offsets_cut start ends bytes rising =
    let cells = map Text (cut_from start ends bytes) in
    let none : start - start ≡ 0 = omega arith in
    let places : places_from 0 cells ≡ 0 ∷ map (λ end. end - start) ends =
    ap (λ n. places_from n cells) (sym none) ∙ places_cut start start ends bytes (omega arith) rising
    ∙ ap (λ n. n ∷ map (λ end. end - start) ends) none in
    sym (offsets_placed cells ∙ ap (flat_map (to_le_bytes w32)) places
    ∙ ap (λ rest. to_le_bytes w32 0 ++ rest) (flat_map-map (to_le_bytes w32) (λ end. end - start) ends))

-- places that rise end behind their start
pub rising_order : (start : ℕ) (ends : List ℕ) (size : ℕ) → Rising start ends size → start ≤ last_end start ends
unfolding Rising last_end
rising_order start [] size rising = omega arith
rising_order start (end ∷ ends) size rising =
    let rest = rising_order end ends size rising.1 in
    let order : start ≤ end = rising.0 in
    omega (arith, rest, order)

-- the bytes of texts lie between the first one's start and the last one's end
pub texts_cut : (start : ℕ) (ends bytes : List ℕ) → Rising start ends (length bytes)
    → take (last_end start ends - start) (drop start bytes) ≡ flat_map text_bytes (map Text (cut_from start ends bytes))
unfolding cut_from Rising last_end
texts_cut start [] bytes rising = let none : start - start ≡ 0 = omega arith in ap (λ n. take n (drop start bytes)) none
texts_cut start (end ∷ ends) bytes rising =
    let order : start ≤ end = rising.0 in
    let past = rising_order end ends (length bytes) rising.1 in
    let parts : last_end end ends - start ≡ end - start + (last_end end ends - end) = omega (arith, order, past) in
    let next : start + (end - start) ≡ end = omega arith in
    ap (λ n. take n (drop start bytes)) parts
    ∙ take-add (end - start) (last_end end ends - end) (drop start bytes)
    ∙ ap (λ rest. take (end - start) (drop start bytes) ++ take (last_end end ends - end) rest)
    (drop-drop (end - start) start bytes ∙ ap (λ n. drop n bytes) next)
    ∙ ap (λ rest. take (end - start) (drop start bytes) ++ rest) (texts_cut end ends bytes rising.1)

-- the last text ends within the bytes
pub end_within : (start : ℕ) (ends : List ℕ) (size : ℕ) → Rising start ends size → last_end start ends ≤ size
end_within start ends size rising = rising-last start ends size rising

-- the two buffers of texts
pub texts_encoded : (start : ℕ) (ends bytes first second : List ℕ) → Rising start ends (length bytes)
    → first ≡ offsets_of start ends → second ≡ flat_map text_bytes (map Text (cut_from start ends bytes))
    → first ∷ second ∷ [] ≡ column_bytes kind.Text (map Text (cut_from start ends bytes))
texts_encoded start ends bytes first second rising offsets texts =
    let is = offsets ∙ offsets_cut start ends bytes rising in
    λ k. is k ∷ texts k ∷ []
