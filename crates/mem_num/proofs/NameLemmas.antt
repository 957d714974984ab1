-- A name is text.
use Rattle.std.proofs.Common.{◌≡◌, ℕ, ◌<◌, List, true, arith, tests, inl, inr, IsTrue}
use Rattle.std.specs.List.{list_all}
use Rattle.std.specs.Str.{IsUtf8}
use Rattle.std.proofs.lemmas.Bool.{cases_lt, and_parts}
use Rattle.std.proofs.lemmas.Bool.Decides.{nat_tests}
use Rattle.std.proofs.lemmas.List.Sums.{AllPass-from_list_all}
use Rattle.std.proofs.lemmas.Str.{IsUtf8-from_ascii}
use Rattle.std.proofs.lemmas.Str.Ascii.{IsAscii-from_all}
use Rattle.mem_num.specs.Name.{is_name, is_name_byte}

-- a byte of a name is ASCII
is_name_byte-ascii : (byte : ℕ) → is_name_byte byte ≡ true → byte < 128
is_name_byte-ascii byte h = elim (cases_lt byte 128) [
  | inl lt ↦ lt
  | inr ge ↦ absurd (grind (arith, nat_tests, tests))
]

-- a name is text
pub name_utf8 : (word : List ℕ) → IsTrue (is_name word) → IsUtf8 word
unfolding is_name
name_utf8 word h =
    let bytes : list_all is_name_byte word ≡ true = (and_parts _ _ h).1 in
    IsUtf8-from_ascii word (IsAscii-from_all word (λ k d lt.
    is_name_byte-ascii _ (AllPass-from_list_all is_name_byte word bytes k d lt)))
