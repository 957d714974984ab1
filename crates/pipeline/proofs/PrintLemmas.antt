-- What a query prints, piece by piece.
use Rattle.std.proofs.Common.{◌≡◌, ◌<◌, ◌≤◌, ◌+◌, ℕ, List, [], ◌∷◌, ◌++◌, length, take, get_or, map, sym, ap, ◌∙◌, append_assoc}
use Rattle.std.proofs.lemmas.List.{map-append, take_all, take_more}
use Rattle.mem_num.specs.declared.buffer_ref.Ref.{Ref}
use Rattle.query_model.specs.declared.cell.Cell.{Cell}
use Rattle.row_text.specs.Answer.{rows_text, table_text}
use Rattle.row_text.proofs.WrittenLemmas.{rows-append, table-rows}
use Rattle.batch_vec.specs.Batches.{BatchView}
use Rattle.operators.specs.Groups.{rows_in_all}

-- one more of a list that goes behind another
pub mapped-more : {X Y : Type 0} (f : X → Y) (before : List Y) (xs : List X) (i : ℕ) (d : X) (now later : List Y) → i < length xs
    → now ≡ before ++ map f (take i xs) → later ≡ now ++ (f (get_or xs i d) ∷ []) → later ≡ before ++ map f (take (i + 1) xs)
mapped-more f before xs i d now later within so_far more =
    more ∙ ap (λ list. list ++ (f (get_or xs i d) ∷ [])) so_far
    ∙ append_assoc before (map f (take i xs)) (f (get_or xs i d) ∷ [])
    ∙ ap (λ list. before ++ list) (sym (map-append f (take i xs) (get_or xs i d ∷ [])) ∙ ap (map f) (sym (take_more xs i d within)))

-- and all of it
pub mapped-all : {X Y : Type 0} (f : X → Y) (before : List Y) (xs : List X) (i : ℕ) (now : List Y) → length xs ≤ i
    → now ≡ before ++ map f (take i xs) → now ≡ before ++ map f xs
mapped-all f before xs i now behind so_far = so_far ∙ ap (λ list. before ++ map f list) (take_all i xs behind)

-- the header, before the first batch
pub answer-begins : (before now : List ℕ) (header : List (List ℕ)) → now ≡ before ++ table_text header []
    → now ≡ before ++ table_text header (rows_in_all {H = Ref} [])
answer-begins before now header is = is

-- a batch more
pub answer-more : (before : List ℕ) (header : List (List ℕ)) (batches : List (BatchView Ref)) (i : ℕ) (batch : BatchView Ref)
    (rows : List (List Cell)) (now later : List ℕ) → i < length batches → rows_in_all (take i batches) ++ batch.rows ≡ rows_in_all (take (i + 1) batches)
    → rows ≡ batch.rows → now ≡ before ++ table_text header (rows_in_all (take i batches)) → later ≡ now ++ rows_text rows
    → later ≡ before ++ table_text header (rows_in_all (take (i + 1) batches))
answer-more before header batches i batch rows now later within taken same so_far more =
    let first = rows_in_all (take i batches) in
    let whole : table_text header first ++ rows_text rows ≡ table_text header (rows_in_all (take (i + 1) batches)) =
    ap (λ t. t ++ rows_text rows) (table-rows header first)
    ∙ append_assoc (table_text header []) (rows_text first) (rows_text rows)
    ∙ ap (λ t. table_text header [] ++ t) (sym (rows-append first rows) ∙ ap rows_text (ap (λ r. first ++ r) same ∙ taken))
    ∙ sym (table-rows header (rows_in_all (take (i + 1) batches))) in
    more ∙ ap (λ t. t ++ rows_text rows) so_far ∙ append_assoc before (table_text header first) (rows_text rows)
    ∙ ap (λ t. before ++ t) whole
