-- Cells are read back from the bytes of their buffers.
use Rattle.std.proofs.Common.{◌≡◌, ℕ, ℤ, pos, negsuc, FitsSigned, ◌+◌, ◌*◌, ◌/◌, ◌%◌, ◌^◌, ◌<◌, ◌≤◌, ◌==◌, List, [], ◌∷◌, ◌++◌, length, map, take, drop, get_or, All, refl, sym, ◌∙◌, ap, subst, arith, rules, zero, suc, if◌then◌else◌, w32, w64}
use Rattle.std.proofs.Math.Arith.{mod-mul}
use Rattle.std.proofs.Math.Nat.{zero-div, div-one, pow-zero, pow-succ', mod-eq_of_lt, div-div-eq-div-mul}
use Rattle.std.proofs.Math.Numerals.{add-one}
use Rattle.std.proofs.Math.Seq.{take-append_seam, take-append-add, drop-append-add}
use Rattle.std.proofs.Math.ListN.{get_or-map}
use Rattle.std.proofs.Math.Facts.{Fits-of_z, Fits-lt-pow}
use Rattle.std.proofs.lemmas.Int.{to_z-of_z}
use Rattle.std.proofs.lemmas.List.{ext_get_or, get_or-take, get_or-drop}
use Rattle.std.proofs.lemmas.List.FromFn.{get_or-map-range_with_len, get_or-range_with_len, length-map-range_with_len, length-range_with_len}
use Rattle.std.proofs.lemmas.List.Sums.{sum_by-cons, sum_by-take-le}
use Rattle.std.specs.Int.{w128, to_le_bytes, from_le_bytes, byte_at, byte_worth, sum_through, cast_unsigned, cast_signed}
use Rattle.std.proofs.lemmas.List.{length-append, length-map}
use Rattle.std.proofs.lemmas.List.Concat.{length-flat_map}
use Rattle.std.specs.List.{flat_map, range_with_len, sum_by}
use Rattle.query_model.specs.Bytes.{bit_at, cell_in, cells_in, column_bytes, known_bit, number_at, number_bytes, number_of_bits, offset_bytes, text_bytes, bit_byte, bit_bytes, validity_bytes}
use Rattle.query_model.specs.Buffers.{column_lengths, text_length, texts_length, validity_length}
use Rattle.query_model.specs.Cells.{IsInt, IsOfKind, IsSum}
use Rattle.query_model.specs.declared.bounds.TheConstants.{MOST_TEXT_BYTES}
use Rattle.query_model.specs.declared.cell.Cell.{Cell}
use Rattle.query_model.specs.declared.cell.Cell.TheVariants.{Null, Int, Sum, Text}
use Rattle.query_model.specs.declared.kind.Kind.{Kind}
use Rattle.query_model.specs.declared.kind.Kind.TheVariants as kind

power_positive : (k : ℕ) → 0 < 256 ^ k
power_positive zero = omega arith
power_positive (suc k) = let before = power_positive k in let step = pow-succ' 256 k in omega arith

-- the lower bytes of a number are what is left of it below a power
sum-bytes : (n k : ℕ) → sum_through (λ i. byte_worth i (byte_at i n)) k ≡ n % 256 ^ suc k
sum-bytes n zero = refl
sum-bytes n (suc k) =
    let split : n % (256 * 256 ^ suc k) ≡ n / 256 ^ suc k % 256 * 256 ^ suc k + n % 256 ^ suc k =
    mod-mul n {m = 256} {c = 256 ^ suc k} (omega arith) (power_positive (suc k)) in
    let power : n % 256 ^ suc (suc k) ≡ n % (256 * 256 ^ suc k) = ap (λ m. n % m) (pow-succ' 256 (suc k)) in
    let before = sum-bytes n k in
    omega arith

-- a number is read back from its bytes
read-32 : (n : ℕ) → n < 2 ^ 32 → from_le_bytes w32 (to_le_bytes w32 n) ≡ n
read-32 n fits = sum-bytes n 3 ∙ mod-eq_of_lt fits

read-64 : (n : ℕ) → n < 2 ^ 64 → from_le_bytes w64 (to_le_bytes w64 n) ≡ n
read-64 n fits = sum-bytes n 7 ∙ mod-eq_of_lt fits

read-128 : (n : ℕ) → n < 2 ^ 128 → from_le_bytes w128 (to_le_bytes w128 n) ≡ n
read-128 n fits = sum-bytes n 15 ∙ mod-eq_of_lt fits

-- pieces of one length stand at the multiples of that length
piece : {X A : Type 0} (len : ℕ) (f : X → List A) → ((x : X) → length (f x) ≡ len) → (xs : List X) (i : ℕ) (d : X) → i < length xs
    → take len (drop (len * i) (flat_map f xs)) ≡ f (get_or xs i d)
piece len f long [] i d within = absurd (omega arith)
piece len f long (x ∷ xs) zero d within =
    let none : len * 0 ≡ 0 = omega arith in
    ap (λ n. take len (drop n (f x ++ flat_map f xs))) none
    ∙ ap (λ n. take n (f x ++ flat_map f xs)) (sym (long x)) ∙ take-append_seam (f x) (flat_map f xs)
piece len f long (x ∷ xs) (suc i) d within =
    let place : len * suc i ≡ length (f x) + len * i = (let one = long x in omega arith) in
    ap (λ n. take len (drop n (f x ++ flat_map f xs))) place ∙ ap (take len) (drop-append-add (f x) (flat_map f xs) (len * i))
    ∙ piece len f long xs i d (omega arith)

-- bits are read back from the number that they are
bits_at : (bs : List ℕ) (j : ℕ) → ((i : ℕ) → get_or bs i 0 ≤ 1) → number_of_bits bs / 2 ^ j % 2 ≡ get_or bs j 0
unfolding number_of_bits
bits_at [] j small = ap (λ n. n % 2) (zero-div (2 ^ j))
bits_at (b ∷ bs) zero small =
    let number : number_of_bits (b ∷ bs) ≡ b + 2 * number_of_bits bs = refl in
    let first : b ≤ 1 = small 0 in
    let digit : (b + 2 * number_of_bits bs) % 2 ≡ b = omega arith in
    ap (λ m. (b + 2 * number_of_bits bs) / m % 2) (pow-zero 2) ∙ ap (λ m. m % 2) (div-one (b + 2 * number_of_bits bs)) ∙ digit
bits_at (b ∷ bs) (suc j) small =
    let half : (b + 2 * number_of_bits bs) / 2 ≡ number_of_bits bs = (let one = small 0 in omega arith) in
    ap (λ m. (b + 2 * number_of_bits bs) / m % 2) (pow-succ' 2 j)
    ∙ ap (λ m. m % 2) (sym (div-div-eq-div-mul (b + 2 * number_of_bits bs) 2 (2 ^ j)))
    ∙ ap (λ m. m / 2 ^ j % 2) half ∙ bits_at bs j (λ i. small (suc i))

known_bit_small : (cell : Cell) → known_bit cell ≤ 1
known_bit_small Null = omega arith
known_bit_small (Int n) = omega arith
known_bit_small (Sum n) = omega arith
known_bit_small (Text bytes) = omega arith

small_take : (xs : List ℕ) → ((k : ℕ) → get_or xs k 0 ≤ 1) → (n k : ℕ) → get_or (take n xs) k 0 ≤ 1
small_take xs small zero k = omega arith
small_take [] small (suc n) k = omega arith
small_take (x ∷ xs) small (suc n) zero = small 0
small_take (x ∷ xs) small (suc n) (suc k) = small_take xs (λ j. small (suc j)) n k

part_small : (most from : ℕ) (cells : List Cell) (k : ℕ) → get_or (take most (drop from (map known_bit cells))) k 0 ≤ 1
part_small most from cells k =
    small_take (drop from (map known_bit cells)) (λ j. subst (λ n. n ≤ 1)
    (sym (get_or-drop from (map known_bit cells) j 0 ∙ get_or-map known_bit cells (from + j) Null))
    (known_bit_small (get_or cells (from + j) Null))) most k

-- whether a cell is known is read back
known_at : (cells : List Cell) (i : ℕ) → i < length cells → bit_at (validity_bytes cells) i ≡ known_bit (get_or cells i Null)
known_at cells i within =
    let bits = map known_bit cells in
    let long : length bits ≡ length cells = length-map cells known_bit in
    let small : (k : ℕ) → get_or (take 8 (drop (8 * (i / 8)) bits)) k 0 ≤ 1 = λ k. part_small 8 (8 * (i / 8)) cells k in
    let byte : get_or (bit_bytes bits) (i / 8) 0 ≡ bit_byte bits (i / 8) =
    get_or-map-range_with_len (bit_byte bits) 0 (validity_length (length bits)) (i / 8) (i / 8) 0 (omega (arith, within, long)) (omega arith) in
    ap (λ n. n / 2 ^ (i % 8) % 2) byte ∙ bits_at (take 8 (drop (8 * (i / 8)) bits)) (i % 8) small
    ∙ get_or-take 8 (drop (8 * (i / 8)) bits) (i % 8) 0 (omega arith) ∙ get_or-drop (8 * (i / 8)) bits (i % 8) 0
    ∙ ap (λ k. get_or bits k 0) (omega arith) ∙ get_or-map known_bit cells i Null

fits_int : (n : ℤ) → IsInt n → FitsSigned w64 n
fits_int (pos n) small = search rules
fits_int (negsuc n) small = search rules

fits_sum : (n : ℤ) → IsSum n → FitsSigned w128 n
fits_sum (pos n) small = search rules
fits_sum (negsuc n) small = search rules

module _ (bit number : ℕ) where
  int_cell : (cell : Cell) → IsOfKind kind.Int cell → bit ≡ known_bit cell
      → number ≡ from_le_bytes w64 (number_bytes w64 cell) → (if bit == 0 then Null else Int (cast_signed w64 number)) ≡ cell
  int_cell Null typed known is = ap (λ b. if b == 0 then Null else Int (cast_signed w64 number)) known
  int_cell (Int n) typed known is =
      ap (λ b. if b == 0 then Null else Int (cast_signed w64 number)) known
      ∙ ap (λ m. Int (cast_signed w64 m)) (is ∙ read-64 (cast_unsigned w64 n) (Fits-lt-pow (Fits-of_z (fits_int n typed))))
      ∙ ap Int (to_z-of_z w64 n (fits_int n typed))
  int_cell (Sum n) typed known is = absurd typed
  int_cell (Text bytes) typed known is = absurd typed

  sum_cell : (cell : Cell) → IsOfKind kind.Sum cell → bit ≡ known_bit cell
      → number ≡ from_le_bytes w128 (number_bytes w128 cell) → (if bit == 0 then Null else Sum (cast_signed w128 number)) ≡ cell
  sum_cell Null typed known is = ap (λ b. if b == 0 then Null else Sum (cast_signed w128 number)) known
  sum_cell (Sum n) typed known is =
      ap (λ b. if b == 0 then Null else Sum (cast_signed w128 number)) known
      ∙ ap (λ m. Sum (cast_signed w128 m)) (is ∙ read-128 (cast_unsigned w128 n) (Fits-lt-pow (Fits-of_z (fits_sum n typed))))
      ∙ ap Sum (to_z-of_z w128 n (fits_sum n typed))
  sum_cell (Int n) typed known is = absurd typed
  sum_cell (Text bytes) typed known is = absurd typed

text_cell : (cell : Cell) (bytes : List ℕ) → IsOfKind kind.Text cell → bytes ≡ text_bytes cell → Text bytes ≡ cell
text_cell (Text bytes) found typed is = ap Text is
text_cell Null found typed is = absurd typed
text_cell (Int n) found typed is = absurd typed
text_cell (Sum n) found typed is = absurd typed

length-int_bytes : (cell : Cell) → length (number_bytes w64 cell) ≡ 8
length-int_bytes Null = refl
length-int_bytes (Int n) = refl
length-int_bytes (Sum n) = refl
length-int_bytes (Text bytes) = refl

length-sum_bytes : (cell : Cell) → length (number_bytes w128 cell) ≡ 16
length-sum_bytes Null = refl
length-sum_bytes (Int n) = refl
length-sum_bytes (Sum n) = refl
length-sum_bytes (Text bytes) = refl

length-text_bytes : (cell : Cell) → length (text_bytes cell) ≡ text_length cell
length-text_bytes Null = refl
length-text_bytes (Int n) = refl
length-text_bytes (Sum n) = refl
length-text_bytes (Text bytes) = refl

-- a text stands between its offsets
text_between : (cells : List Cell) (i : ℕ) → i < length cells
    → drop (texts_length (take i cells)) (take (texts_length (take (suc i) cells)) (flat_map text_bytes cells)) ≡ text_bytes (get_or cells i Null)
text_between [] i within = absurd (omega arith)
text_between (cell ∷ cells) zero within =
    let len : 0 + text_length cell ≡ length (text_bytes cell) = (let e = length-text_bytes cell in omega arith) in
    ap (λ n. take n (text_bytes cell ++ flat_map text_bytes cells)) len ∙ take-append_seam (text_bytes cell) (flat_map text_bytes cells)
text_between (cell ∷ cells) (suc i) within =
    let front : texts_length (take (suc i) (cell ∷ cells)) ≡ length (text_bytes cell) + texts_length (take i cells) =
    sum_by-cons text_length cell (take i cells) ∙ ap (λ n. n + texts_length (take i cells)) (sym (length-text_bytes cell)) in
    let back : texts_length (take (suc (suc i)) (cell ∷ cells)) ≡ length (text_bytes cell) + texts_length (take (suc i) cells) =
    sum_by-cons text_length cell (take (suc i) cells) ∙ ap (λ n. n + texts_length (take (suc i) cells)) (sym (length-text_bytes cell)) in
    (λ k. drop (front k) (take (back k) (text_bytes cell ++ flat_map text_bytes cells)))
    ∙ ap (drop (length (text_bytes cell) + texts_length (take i cells)))
    (take-append-add (text_bytes cell) (flat_map text_bytes cells) (texts_length (take (suc i) cells)))
    ∙ drop-append-add (text_bytes cell) (take (texts_length (take (suc i) cells)) (flat_map text_bytes cells)) (texts_length (take i cells))
    ∙ text_between cells i (omega arith)

-- an offset is read back
pub offset_at : (cells : List Cell) → texts_length cells ≤ MOST_TEXT_BYTES → (j : ℕ) → j ≤ length cells
    → number_at w32 (offset_bytes cells) j ≡ texts_length (take j cells)
offset_at cells short j within =
    let bytes_of : ℕ → List ℕ = λ i. to_le_bytes w32 (texts_length (take i cells)) in
    let long = length-range_with_len 0 (length cells + 1) in
    let less = sum_by-take-le text_length cells j in
    ap (from_le_bytes w32) (piece 4 bytes_of (λ i. refl) (range_with_len 0 (length cells + 1)) j 0 (omega (arith, within, long))
    ∙ ap bytes_of (get_or-range_with_len 0 (length cells + 1) j 0 (omega arith) ∙ omega arith))
    ∙ read-32 (texts_length (take j cells)) (omega (arith, less, short))

-- a column is read back where each of its cells is
each_back : (kind : Kind) (first second : List ℕ) (cells : List Cell)
    → ((i : ℕ) → i < length cells → cell_in kind first second i ≡ get_or cells i Null)
    → cells_in kind (length cells) (first ∷ second ∷ []) ≡ cells
each_back kind first second cells back =
    let long = length-map-range_with_len (cell_in kind first second) 0 (length cells) in
    ext_get_or Null _ cells long (λ i within.
    get_or-map-range_with_len (cell_in kind first second) 0 (length cells) i i Null (omega (arith, within, long)) (omega arith)
    ∙ back i (omega (arith, within, long)))

pub read_back : (kind : Kind) (cells : List Cell) → All (IsOfKind kind) cells
    → texts_length cells ≤ MOST_TEXT_BYTES → cells_in kind (length cells) (column_bytes kind cells) ≡ cells
read_back kind.Int cells typed short = each_back kind.Int (validity_bytes cells) (flat_map (number_bytes w64) cells) cells
    (λ i within. int_cell _ _ (get_or cells i Null) (typed i Null within) (known_at cells i within)
    (ap (from_le_bytes w64) (piece 8 (number_bytes w64) length-int_bytes cells i Null within)))
read_back kind.Sum cells typed short = each_back kind.Sum (validity_bytes cells) (flat_map (number_bytes w128) cells) cells
    (λ i within. sum_cell _ _ (get_or cells i Null) (typed i Null within) (known_at cells i within)
    (ap (from_le_bytes w128) (piece 16 (number_bytes w128) length-sum_bytes cells i Null within)))
read_back kind.Text cells typed short = each_back kind.Text (offset_bytes cells) (flat_map text_bytes cells) cells (λ i within.
    let from : number_at w32 (offset_bytes cells) i ≡ texts_length (take i cells) = offset_at cells short i (omega arith) in
    let to : number_at w32 (offset_bytes cells) (i + 1) ≡ texts_length (take (suc i) cells) =
    offset_at cells short (i + 1) (omega arith) ∙ ap (λ j. texts_length (take j cells)) (add-one i) in
    text_cell (get_or cells i Null) _ (typed i Null within)
    ((λ k. drop (from k) (take (to k) (flat_map text_bytes cells))) ∙ text_between cells i within))

-- pieces of one length are as long together as they are many
pieces_long : {X A : Type 0} (len : ℕ) (f : X → List A) → ((x : X) → length (f x) ≡ len) → (xs : List X)
    → length (flat_map f xs) ≡ len * length xs
pieces_long len f long [] = omega arith
pieces_long len f long (x ∷ xs) =
    let both = length-append (f x) (flat_map f xs) in let one = long x in let rest = pieces_long len f long xs in
    both ∙ (λ k. one k + rest k) ∙ omega arith

-- the bytes of a column are as many as its lengths say
pub lengths_of : (kind : Kind) (cells : List Cell) → map length (column_bytes kind cells) ≡ column_lengths kind cells
lengths_of kind.Int cells =
    let bits = map known_bit cells in
    let validity = length-map-range_with_len (bit_byte bits) 0 (validity_length (length bits))
    ∙ ap validity_length (length-map cells known_bit) in
    let numbers = pieces_long 8 (number_bytes w64) length-int_bytes cells in
    λ k. validity k ∷ numbers k ∷ []
lengths_of kind.Sum cells =
    let bits = map known_bit cells in
    let validity = length-map-range_with_len (bit_byte bits) 0 (validity_length (length bits))
    ∙ ap validity_length (length-map cells known_bit) in
    let numbers = pieces_long 16 (number_bytes w128) length-sum_bytes cells in
    λ k. validity k ∷ numbers k ∷ []
lengths_of kind.Text cells =
    let offsets = pieces_long 4 (λ i. to_le_bytes w32 (texts_length (take i cells))) (λ i. refl) (range_with_len 0 (length cells + 1))
    ∙ ap (λ n. 4 * n) (length-range_with_len 0 (length cells + 1)) in
    let texts = length-flat_map text_bytes cells ∙ ap (λ f. sum_by f cells) (λ k cell. length-text_bytes cell k) in
    λ k. offsets k ∷ texts k ∷ []
