-- Parts of lists.
use Rattle.std.proofs.Common.{◌≡◌, ℕ, ◌+◌, ◌-◌, ◌≤◌, List, take, drop, slice_range, sym, ◌∙◌, ap, arith}
use Rattle.std.proofs.Math.Nat.{add-sub_cancel_left}
use Rattle.std.proofs.lemmas.List.{take-take, drop-take, drop-drop}
use Rattle.mem_buf.specs.View.{part_of}

-- a range is a part
pub range_of_part : (items : List ℕ) (from len : ℕ) → slice_range items from (from + len) ≡ part_of from len items
range_of_part items from len = ap (λ n. take n (drop from items)) (add-sub_cancel_left from len)

-- a part that ends within a part
part_within : (items : List ℕ) (from at count left : ℕ) → count ≤ left
    → take count (drop at (take (at + left) (drop from items))) ≡ part_of (from + at) count items
part_within items from at count left few =
    ap (take count) (drop-take at left (drop from items)) ∙ take-take count left (drop at (drop from items)) few
    ∙ ap (take count) (drop-drop at from items)

-- a part of a part is a part of the whole
pub part_of_part : (items : List ℕ) (from at count len : ℕ) → at + count ≤ len
    → part_of (from + at) count items ≡ part_of at count (part_of from len items)
part_of_part items from at count len fits =
    let whole : at + (len - at) ≡ len = omega arith in
    sym (ap (λ n. take count (drop at (take n (drop from items)))) (sym whole)
    ∙ part_within items from at count (len - at) (omega arith))
