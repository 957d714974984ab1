-- Records of text without quotes, byte by byte.
use Rattle.std.proofs.Common.{◌≡◌, ◌≤◌, ◌<◌, ◌+◌, ◌-◌, ℕ, zero, suc, List, [], ◌∷◌, ◌++◌, length, take, drop, get_or, Some, true, false}
use Rattle.std.proofs.Common.{refl, sym, ap, ◌∙◌, arith, subst, add-one, Fits, w64}
use Rattle.std.specs.Prelude.{◌==◌, ⊤}
use Rattle.std.proofs.Math.Seq.{drop-cons}
use Rattle.std.proofs.lemmas.Bool.{ne_eqb}
use Rattle.std.proofs.lemmas.List.{drop_all, get_or-drop, length-drop, take_all, take_more}
use Rattle.csv.specs.Machine.{next_record}
use Rattle.csv.specs.Reading.{default_config, records, records_from, strip_bom}
use Rattle.csv.specs.Records.{field_at}
use Rattle.csv.specs.declared.parser.State.{State}
use Rattle.csv.specs.declared.parser.State.TheVariants as st
use Rattle.row_text.proofs.RecordLemmas.{left-more}
use Rattle.row_text.specs.Rows.{TakesRecord}
use Rattle.row_text.specs.Stored.{ColumnCells}
use Rattle.row_text.specs.Lines.{AreEnds, IsFirstRecord, fields_between, start_after}

-- the machine stands in a field without a quote
pub IsWithin : State → Type 0
IsWithin st.StartField = ⊤
IsWithin st.InField = ⊤
IsWithin _ = ⊥

-- a byte joins the field
copies : (s : State) (c : ℕ) (rest : List ℕ) (fields : List (List ℕ)) (field : List ℕ) → IsWithin s
    → (c == 44) ≡ false → (c == 13) ≡ false → (c == 10) ≡ false → (c == 34) ≡ false
    → next_record default_config s fields field (c ∷ rest) ≡ next_record default_config st.InField fields (field ++ c ∷ []) rest
unfolding IsWithin next_record
copies st.StartField c rest fields field within comma cr lf quote = rw (quote, comma, cr, lf) refl
copies st.InField c rest fields field within comma cr lf quote = rw (comma, cr, lf) refl
copies _ c rest fields field within comma cr lf quote = absurd within

-- a comma ends it
ends_field : (s : State) (rest : List ℕ) (fields : List (List ℕ)) (field : List ℕ) → IsWithin s
    → next_record default_config s fields field (44 ∷ rest) ≡ next_record default_config st.StartField (fields ++ field ∷ []) [] rest
unfolding IsWithin next_record
ends_field st.StartField rest fields field within = refl
ends_field st.InField rest fields field within = refl
ends_field _ rest fields field within = absurd within

-- a line feed ends it and the record, and so does the end of the text
ends_record : (s : State) (rest : List ℕ) (fields : List (List ℕ)) (field : List ℕ) → IsWithin s
    → next_record default_config s fields field (10 ∷ rest) ≡ Some (fields ++ field ∷ [], st.StartRecord, rest)
unfolding IsWithin next_record
ends_record st.StartField rest fields field within = refl
ends_record st.InField rest fields field within = refl
ends_record _ rest fields field within = absurd within

ends_text : (s : State) (fields : List (List ℕ)) (field : List ℕ) → IsWithin s
    → next_record default_config s fields field [] ≡ Some (fields ++ field ∷ [], st.StartRecord, [])
unfolding IsWithin next_record
ends_text st.StartField fields field within = refl
ends_text st.InField fields field within = refl
ends_text _ fields field within = absurd within

-- a record begins as its first field does
begins : (c : ℕ) (rest : List ℕ) → (c == 13) ≡ false → (c == 10) ≡ false
    → next_record default_config st.StartRecord [] [] (c ∷ rest) ≡ next_record default_config st.StartField [] [] (c ∷ rest)
unfolding next_record
begins c rest cr lf = rw (cr, lf) refl

-- one place more
fields-more : (start : ℕ) (ends : List ℕ) (end : ℕ) (text : List ℕ)
    → fields_between start (ends ++ end ∷ []) text
    ≡ fields_between start ends text ++ take (end - start_after start ends) (drop (start_after start ends) text) ∷ []
unfolding fields_between start_after
fields-more start [] end text = refl
fields-more start (e ∷ es) end text = ap (λ (t : List (List ℕ)). take (e - start) (drop start text) ∷ t) (fields-more (e + 1) es end text)

start-more : (start : ℕ) (ends : List ℕ) (end : ℕ) → start_after start (ends ++ end ∷ []) ≡ end + 1
unfolding start_after
start-more start [] end = refl
start-more start (e ∷ es) end = start-more (e + 1) es end

ends-more : (start : ℕ) (ends : List ℕ) (end size : ℕ) → AreEnds start ends size → start_after start ends ≤ end → end ≤ size
    → AreEnds start (ends ++ end ∷ []) size
unfolding AreEnds start_after
ends-more start [] end size h behind within = (behind, within, tt)
ends-more start (e ∷ es) end size h behind within = (h.0, h.1, ends-more (e + 1) es end size h.2 behind within)

-- up to a place of a text, no record has ended: these fields have, and the bytes after them are the field at hand
pub record IsScanned (text ends : List ℕ) (i : ℕ) : Type 0 where
  pub places : AreEnds 0 ends (length text)
  pub start : start_after 0 ends ≤ i
  pub state : State
  pub within : IsWithin state
  pub read : next_record default_config st.StartRecord [] [] text
      ≡ next_record default_config state (fields_between 0 ends text) (take (i - start_after 0 ends) (drop (start_after 0 ends) text))
      (drop i text)

-- what is left of a text begins with the byte of its place
left-at : (text : List ℕ) (i : ℕ) → i < length text → drop i text ≡ get_or text i 0 ∷ drop (i + 1) text
left-at text i inside = rw add-one (drop-cons text i 0 inside)

field-more : (text : List ℕ) (start i : ℕ) → start ≤ i → i < length text
    → take (i - start) (drop start text) ++ get_or text i 0 ∷ [] ≡ take (i + 1 - start) (drop start text)
field-more text start i behind inside =
    let size = length-drop start text in
    let more = take_more (drop start text) (i - start) 0 (omega (arith, size)) in
    let at : start + (i - start) ≡ i = omega arith in
    let next : i - start + 1 ≡ i + 1 - start = omega arith in
    sym (ap (λ (n : ℕ). take n (drop start text)) (sym next) ∙ more
    ∙ ap (λ (c : ℕ). take (i - start) (drop start text) ++ c ∷ [])
    (get_or-drop start text (i - start) 0 ∙ ap (λ (n : ℕ). get_or text n 0) at))

pub scan-begins : (text : List ℕ) → 0 < length text → (get_or text 0 0 ≡ 13 → ⊥) → (get_or text 0 0 ≡ 10 → ⊥) → IsScanned text [] 0
unfolding IsWithin AreEnds start_after fields_between
scan-begins [] some cr lf = absurd (omega arith)
scan-begins (c ∷ rest) some cr lf = record {
  places = tt;
  start = omega arith;
  state = st.StartField;
  within = tt;
  read = begins c rest (ne_eqb _ _ cr) (ne_eqb _ _ lf);
}

pub scan-copies : (text ends : List ℕ) (i : ℕ) → IsScanned text ends i → i < length text → (get_or text i 0 ≡ 44 → ⊥)
    → (get_or text i 0 ≡ 13 → ⊥) → (get_or text i 0 ≡ 10 → ⊥) → (get_or text i 0 ≡ 34 → ⊥) → IsScanned text ends (i + 1)
unfolding IsWithin
scan-copies text ends i h inside comma cr lf quote =
    let start = start_after 0 ends in
    let fields = fields_between 0 ends text in
    let field = take (i - start) (drop start text) in
    record {
      places = h.places;
      start = (let before : start_after 0 ends ≤ i = h.start in omega (arith, before));
      state = st.InField;
      within = tt;
      read = h.read ∙ ap (next_record default_config h.state fields field) (left-at text i inside)
          ∙ copies h.state (get_or text i 0) (drop (i + 1) text) fields field h.within (ne_eqb _ _ comma) (ne_eqb _ _ cr) (ne_eqb _ _ lf)
          (ne_eqb _ _ quote)
          ∙ ap (λ (t : List ℕ). next_record default_config st.InField fields t (drop (i + 1) text))
          (field-more text start i h.start inside);
    }

-- the record so far, at a byte that is known
at-byte : (text ends : List ℕ) (i c : ℕ) (h : IsScanned text ends i) → i < length text → get_or text i 0 ≡ c
    → next_record default_config st.StartRecord [] [] text
    ≡ next_record default_config h.state (fields_between 0 ends text) (take (i - start_after 0 ends) (drop (start_after 0 ends) text))
    (c ∷ drop (i + 1) text)
at-byte text ends i c h inside is =
    h.read ∙ ap (next_record default_config h.state (fields_between 0 ends text)
    (take (i - start_after 0 ends) (drop (start_after 0 ends) text)))
    (left-at text i inside ∙ ap (λ (b : ℕ). b ∷ drop (i + 1) text) is)

nothing-yet : (text : List ℕ) (i start : ℕ) → start ≡ i → [] ≡ take (i - start) (drop start text)
nothing-yet text i start e = (let none : i - start ≡ 0 = omega (arith, e) in rw none refl)

pub scan-comma : (text ends : List ℕ) (i : ℕ) → IsScanned text ends i → i < length text → get_or text i 0 ≡ 44
    → IsScanned text (ends ++ i ∷ []) (i + 1)
unfolding IsWithin
scan-comma text ends i h inside is =
    let next : start_after 0 (ends ++ i ∷ []) ≡ i + 1 = start-more 0 ends i in
    record {
      places = ends-more 0 ends i (length text) h.places h.start (omega arith);
      start = omega (arith, next);
      state = st.StartField;
      within = tt;
      read = at-byte text ends i 44 h inside is
          ∙ ends_field h.state (drop (i + 1) text) (fields_between 0 ends text)
          (take (i - start_after 0 ends) (drop (start_after 0 ends) text)) h.within
          ∙ ap (λ (t : List (List ℕ)). next_record default_config st.StartField t [] (drop (i + 1) text)) (sym (fields-more 0 ends i text))
          ∙ ap (λ (t : List ℕ). next_record default_config st.StartField (fields_between 0 (ends ++ i ∷ []) text) t (drop (i + 1) text))
          (nothing-yet text (i + 1) (start_after 0 (ends ++ i ∷ [])) next);
    }

pub scan-line : (text ends : List ℕ) (i : ℕ) → IsScanned text ends i → i < length text → get_or text i 0 ≡ 10
    → IsFirstRecord text (ends ++ i ∷ []) (i + 1)
scan-line text ends i h inside is = record {
  within = omega arith;
  some = omega arith;
  places = ends-more 0 ends i (length text) h.places h.start (omega arith);
  read = at-byte text ends i 10 h inside is
      ∙ ends_record h.state (drop (i + 1) text) (fields_between 0 ends text)
      (take (i - start_after 0 ends) (drop (start_after 0 ends) text)) h.within
      ∙ ap (λ (t : List (List ℕ)). Some (t, st.StartRecord, drop (i + 1) text)) (sym (fields-more 0 ends i text));
}

pub scan-end : (text ends : List ℕ) (i : ℕ) → IsScanned text ends i → i ≡ length text → 0 < length text
    → IsFirstRecord text (ends ++ i ∷ []) i
scan-end text ends i h all some = record {
  within = omega (arith, all);
  some = omega (arith, all);
  places = ends-more 0 ends i (length text) h.places h.start (omega (arith, all));
  read =
      let none : drop i text ≡ [] = drop_all i text (omega (arith, all)) in
      let field = take (i - start_after 0 ends) (drop (start_after 0 ends) text) in
      h.read ∙ ap (next_record default_config h.state (fields_between 0 ends text) field) none
      ∙ ends_text h.state (fields_between 0 ends text) field h.within
      ∙ ap (λ (t : List (List ℕ)). Some (t, st.StartRecord, [])) (sym (fields-more 0 ends i text))
      ∙ ap (λ (t : List ℕ). Some (fields_between 0 (ends ++ i ∷ []) text, st.StartRecord, t)) (sym none);
}

-- as many fields as places
pub between-length : (start : ℕ) (ends text : List ℕ) → length (fields_between start ends text) ≡ length ends
unfolding fields_between
between-length start [] text = refl
between-length start (e ∷ es) text = ap suc (between-length (e + 1) es text)

-- the field of the first place, and of a later one, which begins behind the one before it
pub first-field : (ends text : List ℕ) → 0 < length ends → take (get_or ends 0 0) text ≡ get_or (fields_between 0 ends text) 0 []
unfolding fields_between
first-field [] text within = absurd (omega arith)
first-field (e ∷ es) text within = (let same : e ≡ e - 0 = omega arith in ap (λ (n : ℕ). take n text) same)

later-field : (start place : ℕ) (ends text : List ℕ) → suc place < length ends
    → take (get_or ends (suc place) 0 - (get_or ends place 0 + 1)) (drop (get_or ends place 0 + 1) text)
    ≡ get_or (fields_between start ends text) (suc place) []
unfolding fields_between
later-field start place [] text within = absurd (omega arith)
later-field start place (e ∷ []) text within = absurd (omega arith)
later-field start zero (e ∷ f ∷ es) text within = refl
later-field start (suc place) (e ∷ f ∷ es) text within = later-field (e + 1) place (f ∷ es) text (omega arith)

pub next-field : (place : ℕ) (ends text : List ℕ) → (place ≡ 0 → ⊥) → place < length ends
    → take (get_or ends place 0 - (get_or ends (place - 1) 0 + 1)) (drop (get_or ends (place - 1) 0 + 1) text)
    ≡ get_or (fields_between 0 ends text) place []
next-field zero ends text later within = absurd (later refl)
next-field (suc place) ends text later within =
    let same : suc place - 1 ≡ place = omega arith in
    ap (λ (n : ℕ). take (get_or ends (suc place) 0 - (get_or ends n 0 + 1)) (drop (get_or ends n 0 + 1) text)) same
    ∙ later-field 0 place ends text within

-- the places of fields are within the text, and in order
pub end-within : (start place : ℕ) (ends : List ℕ) (size : ℕ) → AreEnds start ends size → place < length ends → get_or ends place 0 ≤ size
unfolding AreEnds
end-within start place [] size h within = absurd (omega arith)
end-within start zero (e ∷ es) size h within = h.1
end-within start (suc place) (e ∷ es) size h within = end-within (e + 1) place es size h.2 (omega arith)

ends-order : (start place : ℕ) (ends : List ℕ) (size : ℕ) → AreEnds start ends size → suc place < length ends
    → get_or ends place 0 + 1 ≤ get_or ends (suc place) 0
unfolding AreEnds
ends-order start place [] size h within = absurd (omega arith)
ends-order start place (e ∷ []) size h within = absurd (omega arith)
ends-order start zero (e ∷ f ∷ es) size h within = h.2.0
ends-order start (suc place) (e ∷ f ∷ es) size h within = ends-order (e + 1) place (f ∷ es) size h.2 (omega arith)

pub end-behind : (place : ℕ) (ends : List ℕ) (size : ℕ) → AreEnds 0 ends size → (place ≡ 0 → ⊥) → place < length ends
    → get_or ends (place - 1) 0 + 1 ≤ get_or ends place 0
end-behind zero ends size h later within = absurd (later refl)
end-behind (suc place) ends size h later within =
    let same : suc place - 1 ≡ place = omega arith in
    subst (λ (n : ℕ). get_or ends n 0 + 1 ≤ get_or ends (suc place) 0) (sym same) (ends-order 0 place ends size h within)

field-at : (fields : List (List ℕ)) (i : ℕ) → i < length fields → Some (get_or fields i []) ≡ field_at fields i
unfolding field_at
field-at [] i within = absurd (omega arith)
field-at (f ∷ fs) zero within = refl
field-at (f ∷ fs) (suc i) within = field-at fs i (omega arith)

pub field-placed : (ends text field : List ℕ) (i : ℕ) → i < length ends → field ≡ get_or (fields_between 0 ends text) i []
    → Some field ≡ field_at (fields_between 0 ends text) i
field-placed ends text field i within is =
    let size : length (fields_between 0 ends text) ≡ length ends = between-length 0 ends text in
    ap Some is ∙ field-at (fields_between 0 ends text) i (omega (arith, size, within))

pub fits-below : (n m : ℕ) → n ≤ m → Fits w64 m → Fits w64 n
fits-below n m below fits = omega arith

-- a text without a byte order mark
pub unmarked : (bytes : List ℕ) → (get_or bytes 0 0 ≡ 239 → ⊥) → strip_bom bytes ≡ bytes
unfolding strip_bom
unmarked [] other = refl
unmarked (a ∷ []) other = refl
unmarked (a ∷ b ∷ []) other = refl
unmarked (a ∷ b ∷ c ∷ rest) other = rw (ne_eqb a 239 other) refl

pub unmarked-empty : (bytes : List ℕ) → length bytes ≡ 0 → strip_bom bytes ≡ bytes
unfolding strip_bom
unmarked-empty [] none = refl
unmarked-empty (b ∷ bytes) none = absurd (omega (arith, none))

-- the records of a text are its first one and those of what is left
pub first-record : (text ends : List ℕ) (size : ℕ) → IsFirstRecord text ends size
    → records default_config text ≡ fields_between 0 ends text ∷ records default_config (drop size text)
first-record text ends size h =
    (left-more default_config st.StartRecord text (fields_between 0 ends text, st.StartRecord, drop size text) refl h.read).0

pub no-record : records default_config [] ≡ []
unfolding records_from next_record
no-record = refl

-- where a text has a header, the records behind its first one follow that header
pub behind-header : (names fields : List (List ℕ)) (body rest whole : List (List (List ℕ))) → whole ≡ names ∷ body → whole ≡ fields ∷ rest
    → whole ≡ names ∷ rest
behind-header names fields body rest whole first second =
    let both : names ∷ body ≡ fields ∷ rest = sym first ∙ second in
    let same : names ≡ fields = cc in
    second ∙ ap (λ (t : List (List ℕ)). t ∷ rest) (sym same)

-- all of a text from a place on
pub all-left : (bytes : List ℕ) (at : ℕ) → take (length bytes - at) (drop at bytes) ≡ drop at bytes
all-left bytes at =
    let size = length-drop at bytes in
    take_all (length bytes - at) (drop at bytes) (omega (arith, size))

-- columns took a record, by whichever names it goes
pub took-from : (old old2 new : List ColumnCells) (ends ends2 text text2 : List ℕ) → old ≡ old2 → ends ≡ ends2 → text ≡ text2
    → TakesRecord old new (fields_between 0 ends text) true → TakesRecord old2 new (fields_between 0 ends2 text2) true
took-from old old2 new ends ends2 text text2 e f g h =
    subst (λ (o : List ColumnCells). TakesRecord o new (fields_between 0 ends2 text2) true) e
    (subst (λ (t : List (List ℕ)). TakesRecord old new t true)
    (ap (λ (u : List ℕ). fields_between 0 u text) f ∙ ap (fields_between 0 ends2) g) h)
