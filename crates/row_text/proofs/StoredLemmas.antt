-- Columns with a cell more.
use Rattle.std.proofs.Common.{◌≡◌, ◌+◌, ℕ, zero, suc, List, [], ◌∷◌, ◌++◌, length, drop, map, Bool, true, false, Some, None, refl, sym, ap}
use Rattle.std.proofs.Common.{◌∙◌, arith, subst, inl, inr, length-append}
use Rattle.std.specs.Prelude.{ℤ, ◌==◌, IsUtf8, nat_lt, if◌then◌else◌, option_map}
use Rattle.std.specs.Str.{IsAscii, is_utf8}
use Rattle.std.specs.List.{list_all}
use Rattle.std.proofs.lemmas.Bool.{and_parts, cases_Bool, eqb-true, false≢true, ltb-true}
use Rattle.std.proofs.lemmas.List.{map-append}
use Rattle.std.proofs.lemmas.Str.{IsUtf8-from_ascii, IsUtf8-from_is_utf8, is_utf8-from_IsUtf8}
use Rattle.csv.proofs.RecordFacts.{cut-end, cut-more, last-append, rising-end, rising-more, text-more}
use Rattle.csv.specs.Records.{AllText, Rising, cut_from, last_end}
use Rattle.query_model.specs.declared.cell.Cell.{Cell}
use Rattle.query_model.specs.declared.cell.Cell.TheVariants.{Null, Int, Text}
use Rattle.query_model.specs.declared.kind.Kind.TheVariants as kind
use Rattle.row_text.specs.Fields.{cell_of, int_of}
use Rattle.row_text.specs.Stored.{AreTexts, TakesField, numbers, texts}

-- numbers with one more
pub numbers-more : {N : Type 0} (cell : N → Cell) (values : List N) (known : List Bool) (v : N) (k : Bool) → length values ≡ length known
    → numbers cell (values ++ v ∷ []) (known ++ k ∷ []) ≡ numbers cell values known ++ (if k then cell v else Null) ∷ []
unfolding numbers
numbers-more cell [] [] v k e = refl
numbers-more cell [] (m ∷ ms) v k e = absurd (omega arith)
numbers-more cell (x ∷ xs) [] v k e = absurd (omega arith)
numbers-more cell (x ∷ xs) (m ∷ ms) v k e = ap (λ (t : List Cell). (if m then cell x else Null) ∷ t)
    (numbers-more cell xs ms v k (omega arith))

-- no texts
pub texts-none : AreTexts [] []
unfolding Rising last_end AllText cut_from
texts-none = record { rising = omega arith; whole = refl; text = tt }

drop-append-length : (xs ys : List ℕ) → drop (length xs) (xs ++ ys) ≡ ys
drop-append-length [] ys = refl
drop-append-length (x ∷ xs) ys = drop-append-length xs ys

-- texts with one more, cut where they end
cuts : (bytes ends field : List ℕ) → AreTexts bytes ends
    → cut_from 0 (ends ++ (length bytes + length field) ∷ []) (bytes ++ field) ≡ cut_from 0 ends bytes ++ field ∷ []
cuts bytes ends field h =
    let size : length (bytes ++ field) ≡ length bytes + length field = length-append bytes field in
    let up : Rising 0 ends (length (bytes ++ field)) = rising-more 0 ends (length bytes) (length (bytes ++ field)) h.rising (omega arith) in
    let last : drop (last_end 0 ends) (bytes ++ field) ≡ field = rw h.whole (drop-append-length bytes field) in
    ap (λ (n : ℕ). cut_from 0 (ends ++ n ∷ []) (bytes ++ field)) (sym size) ∙ cut-end 0 ends (bytes ++ field) up
    ∙ ap (λ (t : List (List ℕ)). t ++ drop (last_end 0 ends) (bytes ++ field) ∷ []) (cut-more 0 ends bytes field h.rising)
    ∙ ap (λ (t : List ℕ). cut_from 0 ends bytes ++ t ∷ []) last

pub texts-more : (bytes ends field : List ℕ) → AreTexts bytes ends → is_utf8 field ≡ true
    → AreTexts (bytes ++ field) (ends ++ (length bytes + length field) ∷ [])
texts-more bytes ends field h utf8 =
    let size : length (bytes ++ field) ≡ length bytes + length field = length-append bytes field in
    let up : Rising 0 ends (length bytes + length field) = rising-more 0 ends (length bytes) (length bytes + length field) h.rising
    (omega arith) in
    record {
      rising = rw size (rising-end 0 ends (length bytes + length field) up);
      whole = last-append 0 ends (length bytes + length field) ∙ sym size;
      text = subst AllText (sym (cuts bytes ends field h))
          (text-more (cut_from 0 ends bytes) field h.text (IsUtf8-from_is_utf8 field utf8));
    }

pub texts-cells : (bytes ends field : List ℕ) → AreTexts bytes ends
    → texts (bytes ++ field) (ends ++ (length bytes + length field) ∷ []) ≡ texts bytes ends ++ Text field ∷ []
texts-cells bytes ends field h = ap (map Text) (cuts bytes ends field h) ∙ map-append Text (cut_from 0 ends bytes) (field ∷ [])

-- bytes below 128 are text
ascii-all : (field : List ℕ) → list_all (λ byte. nat_lt byte 128) field ≡ true → IsAscii field
ascii-all [] h i = omega arith
ascii-all (b ∷ bs) h zero = ltb-true b 128 (and_parts _ _ h).0
ascii-all (b ∷ bs) h (suc i) = ascii-all bs (and_parts _ _ h).1 i

pub utf8-ascii : (field : List ℕ) → list_all (λ byte. nat_lt byte 128) field ≡ true → true ≡ is_utf8 field
utf8-ascii field h = sym (is_utf8-from_IsUtf8 field (IsUtf8-from_ascii field (ascii-all field h)))

pub utf8-not : (field : List ℕ) → ¬ (IsUtf8 field) → false ≡ is_utf8 field
utf8-not field h =
    elim (cases_Bool (is_utf8 field)) [
      | inl yes_ ↦ absurd (h (IsUtf8-from_is_utf8 field yes_))
      | inr no_ ↦ sym no_
    ]

-- an empty int field is null
pub takes-null : (field : List ℕ) (v : ℤ) (values values2 : List ℤ) (known known2 : List Bool) → (length field == 0) ≡ true
    → length values ≡ length known
    → values2 ≡ values ++ v ∷ [] → known2 ≡ known ++ false ∷ []
    → TakesField kind.Int field (numbers (λ n. Int n) values known) (numbers (λ n. Int n) values2 known2) true
takes-null [] v values values2 known known2 empty same e f = (Null, refl, rw (e, f) (numbers-more (λ n. Int n) values known v false same))
takes-null (b ∷ bs) v values values2 known known2 empty same e f =
    let none : length (b ∷ bs) ≡ 0 = eqb-true _ _ empty in absurd (omega (arith, none))

-- another one is a number
pub takes-number : (field : List ℕ) (v : ℤ) (values values2 : List ℤ) (known known2 : List Bool) → (length field == 0) ≡ false
    → Some v ≡ int_of field
    → length values ≡ length known → values2 ≡ values ++ v ∷ [] → known2 ≡ known ++ true ∷ []
    → TakesField kind.Int field (numbers (λ n. Int n) values known) (numbers (λ n. Int n) values2 known2) true
takes-number [] v values values2 known known2 some read same e f = absurd (false≢true (sym some))
takes-number (b ∷ bs) v values values2 known known2 some read same e f =
    (Int v, ap (option_map (λ n. Int n)) (sym read), rw (e, f) (numbers-more (λ n. Int n) values known v true same))

-- or no cell
pub takes-no-number : (field : List ℕ) → (length field == 0) ≡ false → None ≡ int_of field → cell_of kind.Int field ≡ None
takes-no-number [] some read = absurd (false≢true (sym some))
takes-no-number (b ∷ bs) some read = ap (option_map (λ n. Int n)) (sym read)

-- a text field
pub takes-text : (bytes bytes2 ends ends2 field : List ℕ) (end : ℕ) → AreTexts bytes ends → true ≡ is_utf8 field
    → end ≡ length bytes + length field
    → bytes2 ≡ bytes ++ field → ends2 ≡ ends ++ end ∷ []
    → AreTexts bytes2 ends2 × TakesField kind.Text field (texts bytes ends) (texts bytes2 ends2) true
takes-text bytes bytes2 ends ends2 field end h utf8 e f g =
    let yes_ : is_utf8 field ≡ true = sym utf8 in
    (rw (f, g, e) (texts-more bytes ends field h yes_), (Text field, rw yes_ refl, rw (f, g, e) (texts-cells bytes ends field h)))

pub takes-no-text : (field : List ℕ) → false ≡ is_utf8 field → cell_of kind.Text field ≡ None
takes-no-text field e = rw (← e) refl
