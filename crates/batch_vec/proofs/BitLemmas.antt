-- Bits as numbers.
use Rattle.std.proofs.Common.{◌≡◌, ℕ, ◌+◌, ◌-◌, ◌*◌, ◌^◌, ◌<◌, ◌≤◌, Bool, true, false, List, [], ◌∷◌, length, take, drop, map, get_or}
use Rattle.std.proofs.Common.{min, suc, refl, sym, ◌∙◌, ap, arith}
use Rattle.std.proofs.Math.Nat.{pow-succ', pow-le-pow_right}
use Rattle.std.proofs.Math.Seq.{drop-cons, drop-length}
use Rattle.std.proofs.lemmas.List.{length-drop, drop-map, take-map, take_all, take_min}
use Rattle.query_model.specs.Bytes.{bit_byte, bit_of, number_of_bits}

-- a mark is a bit
bit_small : (mark : Bool) → bit_of mark ≤ 1
bit_small true = omega arith
bit_small false = omega arith

-- so many bits are a number below that power of two
pub bits_below : (marks : List Bool) → number_of_bits (map bit_of marks) < 2 ^ length marks
unfolding number_of_bits
bits_below [] = omega arith
bits_below (mark ∷ marks) =
    let rest = bits_below marks in
    let power : 2 ^ length (mark ∷ marks) ≡ 2 * 2 ^ length marks = pow-succ' 2 (length marks) in
    let first = bit_small mark in
    omega arith

-- no bits are 0
pub bits_none : (marks : List Bool) → 0 ≡ number_of_bits (map bit_of (drop (length marks) marks))
unfolding number_of_bits
bits_none marks = sym (ap (λ (list : List Bool). number_of_bits (map bit_of list)) (drop-length marks))

-- one more bit fits a byte
pub bits_fit : (marks : List Bool) (left byte : ℕ) → length marks ≤ 8 → 0 < left → byte ≡ number_of_bits (map bit_of (drop left marks))
    → 2 * byte + 1 < 256
bits_fit marks left byte few some is =
    let below = bits_below (drop left marks) in
    let long = length-drop left marks in
    let power : 2 ^ length (drop left marks) ≤ 2 ^ 7 = pow-le-pow_right {n = 2} (omega arith) {i = length (drop left marks)} {j = 7}
    (omega arith) in
    omega arith

-- the bit before others is the lowest
pub bits_more : (marks : List Bool) (left byte bit : ℕ) (d : Bool) → 0 < left → left ≤ length marks
    → byte ≡ number_of_bits (map bit_of (drop left marks)) → bit ≡ bit_of (get_or marks (left - 1) d)
    → 2 * byte + bit ≡ number_of_bits (map bit_of (drop (left - 1) marks))
unfolding number_of_bits
bits_more marks left byte bit d some within is one =
    let next : suc (left - 1) ≡ left = omega arith in
    let split : drop (left - 1) marks ≡ get_or marks (left - 1) d ∷ drop left marks =
    drop-cons marks (left - 1) d (omega arith) ∙ (λ k. get_or marks (left - 1) d ∷ drop (next k) marks) in
    let value : number_of_bits (map bit_of (get_or marks (left - 1) d ∷ drop left marks))
    ≡ bit_of (get_or marks (left - 1) d) + 2 * number_of_bits (map bit_of (drop left marks)) = refl in
    let whole = ap (λ (list : List Bool). number_of_bits (map bit_of list)) split in
    omega (arith, value, whole, is, one)

-- the byte of a place, whose marks may be fewer than eight
pub byte_there : (marks : List Bool) (place n : ℕ)
    → n ≡ min (length (take (length marks - 8 * place) (drop (8 * place) marks))) 8
    → number_of_bits (map bit_of (take n (take (length marks - 8 * place) (drop (8 * place) marks))))
    ≡ bit_byte (map bit_of marks) place
byte_there marks place n is =
    let rest = drop (8 * place) marks in
    let size : length rest ≡ length marks - 8 * place = length-drop (8 * place) marks in
    let whole : take (length marks - 8 * place) rest ≡ rest = take_all (length marks - 8 * place) rest (omega (arith, size)) in
    let few : n ≡ min 8 (length rest) = is ∙ ap (λ (list : List Bool). min (length list) 8) whole ∙ omega arith in
    ap number_of_bits ((λ k. map bit_of (take (few k) (whole k))) ∙ ap (map bit_of) (take_min 8 rest)
    ∙ sym (take-map bit_of 8 rest) ∙ ap (take 8) (sym (drop-map bit_of (8 * place) marks)))
