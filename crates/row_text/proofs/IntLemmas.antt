-- Numbers that were read, printed and read again.
use Rattle.std.proofs.Common.{◌≡◌, ◌≤◌, ◌<◌, ◌^◌, ℕ, zero, suc, List, length, drop, get_or, Some, None, Bool, true, false, refl, ap, arith}
use Rattle.std.proofs.Common.{subst, inl, inr}
use Rattle.std.specs.Prelude.{ℤ, pos, negsuc, neg_ℤ, if◌then◌else◌, decimal}
use Rattle.std.specs.Fmt.{signed_decimal}
use Rattle.std.specs.Str.Parse.{digits_value, starts_with_minus}
use Rattle.std.proofs.lemmas.Bool.{and_parts, cases_Bool, lt-ltb, le-leb, leb-true, ltb-true}
use Rattle.std.proofs.lemmas.Fmt.{decimal_nonempty, digits_decimal, digits_value-decimal}
use Rattle.std.proofs.lemmas.Str.Parse.{digit_at}
use Rattle.query_model.specs.Cells.{IsInt}
use Rattle.row_text.specs.Fields.{int_of}
use Rattle.row_text.proofs.NumberLemmas.{minus-false, own}

chosen : (b : Bool) (x n : ℤ) → (if b then Some x else None) ≡ Some n → (b ≡ true) × (x ≡ n)
chosen true x n e = (refl, (let f : Some x ≡ Some n = e in cc))
chosen false x n e = cc e

minus-range : (v : ℕ) → v ≤ 2 ^ 63 → IsInt (neg_ℤ (pos v))
minus-range zero h = omega arith
minus-range (suc v) h = omega arith

-- a number that was read has 64 bits
pub int-range : (field : List ℕ) (n : ℤ) → int_of field ≡ Some n → IsInt n
int-range field n e = elim (cases_Bool (starts_with_minus field)) [
  | inl minus ↦
      let c = chosen _ _ n (rw minus at e) in
      subst IsInt c.1 (minus-range (digits_value 10 (drop 1 field)) (leb-true _ _ (and_parts _ _ c.0).1))
  | inr plain ↦
      let c = chosen _ _ n (rw plain at e) in
      subst IsInt c.1 (ltb-true _ _ (and_parts _ _ c.0).1)
]

plain-first : (n : ℕ) → n < 2 ^ 64 → (get_or (decimal n) 0 0 ≡ 45 → ⊥)
plain-first n fits e =
    let digit = digit_at (decimal n) 0 (own.to (decimal n) (digits_decimal own n fits)) (decimal_nonempty n fits) in
    omega (arith, digit.0, e)

-- a number of 64 bits is what its text reads as
pub int-again : (n : ℤ) → IsInt n → int_of (signed_decimal n) ≡ Some n
int-again (pos n) h =
    let fits : n < 2 ^ 64 = omega arith in
    let value : digits_value 10 (decimal n) ≡ n = digits_value-decimal own n fits in
    let small : digits_value 10 (decimal n) < 2 ^ 63 = rw value h in
    rw (
      minus-false (decimal n) (plain-first n fits),
      lt-ltb 0 (length (decimal n)) (decimal_nonempty n fits),
      digits_decimal own n fits,
      lt-ltb _ _ small,
    ) (ap (λ (v : ℕ). Some (pos v)) value)
int-again (negsuc n) h =
    let fits : suc n < 2 ^ 64 = omega arith in
    let value : digits_value 10 (decimal (suc n)) ≡ suc n = digits_value-decimal own (suc n) fits in
    let small : digits_value 10 (decimal (suc n)) ≤ 2 ^ 63 = rw value (omega arith) in
    rw (lt-ltb 0 (length (decimal (suc n))) (decimal_nonempty (suc n) fits), digits_decimal own (suc n) fits, le-leb _ _ small)
    (ap (λ (v : ℕ). Some (neg_ℤ (pos v))) value)

pub signed-some : (n : ℤ) → IsInt n → 0 < length (signed_decimal n)
signed-some (pos n) h = decimal_nonempty n (omega arith)
signed-some (negsuc n) h = omega arith
