-- The words of a line, one by one, and the numbers that they are.
use Rattle.std.proofs.Common.{◌≡◌, ℕ, ◌+◌, ◌/◌, ◌%◌, ◌<◌, ◌≤◌, ◌^◌, ◌==◌, List, [], ◌∷◌, ◌++◌, Bool, true, false, not, ◌&&◌, filter, length, length-append, All, refl, sym, ap, subst, ◌∙◌, arith, inl, inr, nat_lt, nat_le}
use Rattle.std.specs.Fmt.{decimal}
use Rattle.std.specs.List.{list_all}
use Rattle.std.proofs.lemmas.Bool.{and_from, and_parts, or_left, agree_below_at}
use Rattle.std.proofs.lemmas.Bool.Decides.{nat_tests}
use Rattle.std.proofs.lemmas.Fmt.{decimal_by_steps_wide}
use Rattle.std.proofs.lemmas.List.{append-nil}
use Rattle.std.proofs.lemmas.List.Splits.{slice_split-cons_yes, slice_split_at, slice_split_none}
use Rattle.std.proofs.lemmas.List.Sums.{AllPass-from_list_all, fold-append}
use Rattle.mem_num.specs.Name.{is_name, is_name_byte}
use Rattle.leak_report.specs.LawfulReport.{IsPrintedName}
use Rattle.leak_report.specs.ReadReport.{has_bytes, is_word_byte, short_value_in, value_in, with_digit, words_in}

-- a text of bytes of words alone
abbrev pub IsWordBytes : List ℕ → Type 0
IsWordBytes word = list_all is_word_byte word ≡ true

-- a word: some such bytes
pub record IsWord (word : List ℕ) : Type 0 where
  pub bytes : IsWordBytes word
  pub some : has_bytes word ≡ true

-- a text that begins with a byte has some
pub some_bytes : (byte : ℕ) (s : List ℕ) → has_bytes (byte ∷ s) ≡ true
unfolding has_bytes
some_bytes byte s = grind (arith, nat_tests)

-- so bytes of words, if there is one, are a word
pub IsWord-bytes : (byte : ℕ) (s : List ℕ) → IsWordBytes (byte ∷ s) → IsWord (byte ∷ s)
IsWord-bytes byte s bytes = record { bytes = bytes; some = some_bytes byte s }

-- a text that ends, or begins with some other byte
abbrev pub EndsWord : List ℕ → Type 0
EndsWord [] = Unit {0}
EndsWord (byte ∷ text) = is_word_byte byte ≡ false

-- a byte between words
abbrev is_break : ℕ → Bool
is_break byte = not (is_word_byte byte)

-- it is passed over
pub words_in-break : (byte : ℕ) (s : List ℕ) → is_word_byte byte ≡ false → words_in (byte ∷ s) ≡ words_in s
unfolding words_in has_bytes
words_in-break byte s other = ap (filter has_bytes) (slice_split-cons_yes is_break byte s (ap not other))

-- a word has none
no_break : (word : List ℕ) → IsWordBytes word → All (λ byte. is_break byte ≡ false) word
no_break word is k d within = ap not (AllPass-from_list_all is_word_byte word is k d within)

-- nothing has no words
pub words_in-none : words_in [] ≡ []
unfolding words_in has_bytes
words_in-none = refl

-- a word stands first, and those behind it follow
pub words_in-word : (word s : List ℕ) → IsWord word → EndsWord s → words_in (word ++ s) ≡ word ∷ words_in s
unfolding words_in
words_in-word word [] is ends =
    ap words_in (append-nil word) ∙ ap (filter has_bytes) (slice_split_none is_break word (no_break word is.bytes)) ∙ rw (is.some) (ap (λ words. word ∷ words) (sym words_in-none))
words_in-word word (byte ∷ s) is ends =
    ap (filter has_bytes) (slice_split_at is_break word byte s (no_break word is.bytes) (ap not ends))
    ∙ rw (is.some) (ap (λ words. word ∷ words) (sym (words_in-break byte s ends)))

-- digits that are a word, and write the number n
record Writes (n : ℕ) (digits : List ℕ) : Type 0 where
  word : IsWordBytes digits
  some : has_bytes digits ≡ true
  value : n < 2 ^ 64 → value_in digits ≡ n

-- the digits below ten
digit_byte : (d : ℕ) → d < 10 → is_word_byte (48 + d) ≡ true
digit_byte d small = agree_below_at (λ n. is_word_byte (48 + n)) (λ n. true) 10 d refl small

-- one digit writes its number
writes_one : (n : ℕ) → n < 10 → Writes n ((48 + n) ∷ [])
writes_one n small = record {
  word = and_from (is_word_byte (48 + n)) true (digit_byte n small) refl;
  some = some_bytes (48 + n) [];
  value = λ short. omega arith;
}

-- bytes of words before others are bytes of words
word_bytes-append : (xs ys : List ℕ) → IsWordBytes xs → IsWordBytes ys → IsWordBytes (xs ++ ys)
word_bytes-append [] ys first second = second
word_bytes-append (x ∷ xs) ys first second =
    let parts = and_parts (is_word_byte x) (list_all is_word_byte xs) first in
    and_from (is_word_byte x) (list_all is_word_byte (xs ++ ys)) parts.0 (word_bytes-append xs ys parts.1 second)

-- a digit more is ten times the number, and that digit
with_digit-more : (n : ℕ) → 10 ≤ n → n < 2 ^ 64 → with_digit (n / 10) (48 + n % 10) ≡ n
with_digit-more n large short = omega arith

-- a text with a byte more has some
some_more : (digits : List ℕ) (byte : ℕ) → has_bytes (digits ++ byte ∷ []) ≡ true
unfolding has_bytes
some_more digits byte = (let longer : 0 < length (digits ++ byte ∷ []) = omega (arith, length-append digits (byte ∷ [])) in grind (arith, nat_tests))

-- digits with one more write their number
writes_more : (n : ℕ) (digits : List ℕ) → 10 ≤ n → Writes (n / 10) digits → Writes n (digits ++ ((48 + n % 10) ∷ []))
writes_more n digits large writes = record {
  word = word_bytes-append digits ((48 + n % 10) ∷ []) writes.word (and_from (is_word_byte (48 + n % 10)) true (digit_byte (n % 10) (omega arith)) refl);
  some = some_more digits (48 + n % 10);
  value = λ short. fold-append with_digit 0 digits ((48 + n % 10) ∷ []) ∙ ap (λ m. with_digit m (48 + n % 10)) (writes.value (omega arith)) ∙ with_digit-more n large short;
}

-- so a number's digits write it
writes : (n : ℕ) → n < 2 ^ 128 → Writes n (decimal n)
writes n short = decimal_by_steps_wide Writes writes_one writes_more n (omega arith)

-- a number is a word
pub IsWord-decimal : (n : ℕ) → n < 2 ^ 128 → IsWord (decimal n)
IsWord-decimal n short = (let is = writes n short in record { bytes = is.word; some = is.some })

-- and is read from it
pub value_in-decimal : (n : ℕ) → n < 2 ^ 64 → value_in (decimal n) ≡ n
value_in-decimal n short = (writes n (omega arith)).value short

-- so is one of 32 bits
pub short_value_in-decimal : (n : ℕ) → n < 2 ^ 32 → short_value_in (decimal n) ≡ n
short_value_in-decimal n short = (let is : value_in (decimal n) ≡ n = value_in-decimal n (omega arith) in omega arith)

-- bytes of names are bytes of words
name_bytes : (name : List ℕ) → list_all is_name_byte name ≡ true → IsWordBytes name
name_bytes [] all' = refl
name_bytes (x ∷ xs) all' =
    let parts = and_parts (is_name_byte x) (list_all is_name_byte xs) all' in
    and_from (is_word_byte x) (list_all is_word_byte xs) (or_left (is_name_byte x) (x == 63) parts.0) (name_bytes xs parts.1)

-- a name is a word, and so is what is printed for one
pub IsWord-name : (name : List ℕ) → IsPrintedName name → IsWord name
unfolding is_name has_bytes
IsWord-name name (inl is) =
    let parts = and_parts (nat_lt 0 (length name) && nat_le (length name) 32) (list_all is_name_byte name) is in
    record { bytes = name_bytes name parts.1; some = (and_parts (nat_lt 0 (length name)) (nat_le (length name) 32) parts.0).0 }
IsWord-name name (inr none) = subst IsWord (sym none) (record { bytes = refl; some = refl })
