-- Bytes are one table at most, or have one first bad row and are none.
use Rattle.std.proofs.Common.{◌≡◌, ◌≤◌, ◌<◌, ◌+◌, ℕ, zero, suc, List, [], ◌∷◌, ◌++◌, length, get_or, Some, None, refl, sym, ap, ◌∙◌, arith}
use Rattle.std.proofs.Common.{subst, inl, inr, length-append}
use Rattle.std.proofs.lemmas.Bool.{cases_lt}
use Rattle.query_model.specs.declared.bounds.TheConstants.{MOST_ROWS}
use Rattle.query_model.specs.declared.cell.Cell.{Cell}
use Rattle.query_model.specs.declared.column.Column.{Column}
use Rattle.query_model.specs.declared.kind.Kind.{Kind}
use Rattle.row_text.specs.Fields.{cells_of}
use Rattle.row_text.specs.Table.{EachReads, IsFirstBad, IsFirstBadRow, IsTable, kinds_of, names_of, records_of}

-- lists with one head have one tail
pub tails : (x : List (List ℕ)) (xs ys zs : List (List (List ℕ))) → zs ≡ x ∷ xs → zs ≡ x ∷ ys → xs ≡ ys
tails x xs ys zs e f = (let g : x ∷ xs ≡ x ∷ ys = sym e ∙ f in cc)

-- records read as one list of rows
each-same : (kinds : List Kind) (records : List (List (List ℕ))) (rows others : List (List Cell)) → EachReads kinds records rows
    → EachReads kinds records others → rows ≡ others
unfolding EachReads
each-same kinds [] [] [] p q = refl
each-same kinds [] [] (o ∷ os) p q = absurd q
each-same kinds [] (r ∷ rs) others p q = absurd p
each-same kinds (f ∷ fs) [] others p q = absurd p
each-same kinds (f ∷ fs) (r ∷ rs) [] p q = absurd q
each-same kinds (f ∷ fs) (r ∷ rs) (o ∷ os) p q =
    let first : r ≡ o = (let e : Some r ≡ Some o = sym p.0 ∙ q.0 in cc) in
    ap (λ (t : List Cell). t ∷ rs) first ∙ ap (λ (t : List (List Cell)). o ∷ t) (each-same kinds fs rs os p.1 q.1)

-- each of the records that read as rows has a reading
each-at : (kinds : List Kind) (records : List (List (List ℕ))) (rows : List (List Cell)) (n : ℕ) → EachReads kinds records rows
    → n < length records
    → cells_of kinds (get_or records n []) ≡ None → ⊥
unfolding EachReads
each-at kinds [] rows n p within none = absurd (omega arith)
each-at kinds (f ∷ fs) [] n p within none = absurd p
each-at kinds (f ∷ fs) (r ∷ rs) zero p within none = (let e : None ≡ Some r = sym none ∙ p.0 in cc e)
each-at kinds (f ∷ fs) (r ∷ rs) (suc n) p within none = each-at kinds fs rs n p.1 (omega arith) none

get-front : (xs ys : List (List (List ℕ))) (n : ℕ) → n < length xs → get_or (xs ++ ys) n [] ≡ get_or xs n []
get-front [] ys n within = absurd (omega arith)
get-front (x ∷ xs) ys zero within = refl
get-front (x ∷ xs) ys (suc n) within = get-front xs ys n (omega arith)

-- the record between others
between : (before after : List (List (List ℕ))) (fields : List (List ℕ)) → get_or (before ++ fields ∷ after) (length before) [] ≡ fields
between [] after fields = refl
between (b ∷ bs) after fields = between bs after fields

pub one-table : (columns : List Column) (bytes : List ℕ) (rows others : List (List Cell)) → IsTable columns bytes rows
    → IsTable columns bytes others → rows ≡ others
one-table columns bytes rows others a b =
    let same : a.body ≡ b.body = tails (names_of columns) a.body b.body (records_of bytes) a.header b.header in
    each-same (kinds_of columns) b.body rows others (subst (λ (t : List (List (List ℕ))). EachReads (kinds_of columns) t rows) same a.each)
    b.each

pub no-bad-row : (columns : List Column) (bytes : List ℕ) (rows : List (List Cell)) (number : ℕ) → IsTable columns bytes rows
    → IsFirstBad columns bytes number → ⊥
no-bad-row columns bytes rows zero table bad = bad table.body table.header
no-bad-row columns bytes rows (suc number) table bad =
    let same : table.body ≡ bad.before ++ bad.fields ∷ bad.after = tails (names_of columns) table.body _ (records_of bytes) table.header
    bad.header in
    let size : length table.body ≡ length bad.before + length (bad.fields ∷ bad.after) = ap length same
    ∙ length-append bad.before (bad.fields ∷ bad.after) in
    let more : length (bad.fields ∷ bad.after) ≡ suc (length bad.after) = refl in
    let within : length bad.before < length table.body = omega (arith, size, more) in
    let few : suc number ≤ MOST_ROWS = omega (arith, bad.place, within, table.few) in
    let at : get_or table.body (length bad.before) [] ≡ bad.fields = ap (λ (t : List (List (List ℕ))). get_or t (length bad.before) []) same
    ∙ between bad.before bad.after bad.fields in
    each-at (kinds_of columns) table.body rows (length bad.before) table.each within (ap (cells_of (kinds_of columns)) at ∙ bad.bad few)

-- an earlier row of a first bad one isn't bad
earlier : (columns : List Column) (bytes : List ℕ) (number other : ℕ) → IsFirstBadRow columns bytes number
    → IsFirstBadRow columns bytes other → number < other → ⊥
earlier columns bytes number other a b less =
    let same : a.before ++ a.fields ∷ a.after ≡ b.before ++ b.fields ∷ b.after = tails (names_of columns) _ _ (records_of bytes) a.header
    b.header in
    let within : length a.before < length b.before = omega (arith, a.place, b.place, less) in
    let few : number ≤ MOST_ROWS = omega (arith, b.few, less) in
    let at : get_or b.before (length a.before) [] ≡ a.fields =
    sym (get-front b.before (b.fields ∷ b.after) (length a.before) within)
    ∙ ap (λ (t : List (List (List ℕ))). get_or t (length a.before) []) (sym same) ∙ between a.before a.after a.fields in
    each-at (kinds_of columns) b.before b.rows (length a.before) b.each within (ap (cells_of (kinds_of columns)) at ∙ a.bad few)

pub one-bad-row : (columns : List Column) (bytes : List ℕ) (number other : ℕ) → IsFirstBad columns bytes number
    → IsFirstBad columns bytes other → number ≡ other
one-bad-row columns bytes zero zero a b = refl
one-bad-row columns bytes zero (suc other) a b = absurd (a _ b.header)
one-bad-row columns bytes (suc number) zero a b = absurd (b _ a.header)
one-bad-row columns bytes (suc number) (suc other) a b =
    let up = earlier columns bytes (suc number) (suc other) a b in
    let down = earlier columns bytes (suc other) (suc number) b a in
    elim (cases_lt (suc number) (suc other)) [
      | inl less ↦ absurd (up less)
      | inr past ↦ elim (cases_lt (suc other) (suc number)) [ inl less ↦ absurd (down less) | inr under ↦ omega (arith, past, under) ]
    ]
