-- Steps of the programs that compute the definitions.
use Rattle.std.specs.Prelude.{◌≡◌, ◌≤◌, ◌<◌, ◌+◌, ℕ, suc, ℤ, true, false, nat_eq, List, [], ◌∷◌, ◌++◌, map, flat_map, length, take, drop, get_or, cond, Option, Some, None, option_to_list, refl}
use Rattle.std.specs.Cmp.Lexicographic.{pointwise}
use Rattle.std.specs.List.{cons_option, range_with_len}
use Rattle.std.specs.declared.cmp.Ordering.{Ordering}
use Rattle.std.specs.declared.cmp.Ordering.TheVariants.{Less, Equal, Greater}
use Rattle.std.specs.FinMap.{slice_cmp-IsAntisymmetric, nat_cmp-IsAntisymmetric}
use Rattle.std.proofs.Common.{arith, sym, ap, ◌∙◌, append_assoc, drop-cons}
use Rattle.std.proofs.lemmas.List.{take-append-drop, flat_map_more, map_more, take_more, take_all, drop_all, append-nil}
use Rattle.std.proofs.lemmas.List.FromFn.{map-range_with_len_more}
use Rattle.query_model.specs.declared.cell.Cell.{Cell}
use Rattle.query_model.specs.Answer.{with_key, distinct, key_of, rows_with_key, number_of, numbers_at}
use Rattle.query_model.specs.Cells.{cell_at}
use Rattle.query_model.proofs.KeyLemmas.{Key, order, by_order, below, put-less, put-equal, put-greater, put-swap}
use Rattle.query_model.proofs.GroupLemmas.{map-itself, numbers-append}

-- two keys put in either order
put-both : (s k : Key) (keys : List Key) → with_key s (with_key k keys) ≡ with_key k (with_key s keys)
put-both s k keys = by_order (order s k)
    (λ e. put-swap s k keys e)
    (λ e. let same : s ≡ k = slice_cmp-IsAntisymmetric nat_cmp-IsAntisymmetric s k e in
    ap (λ key. with_key key (with_key k keys)) same ∙ ap (λ key. with_key k (with_key key keys)) (sym same))
    (λ e. sym (put-swap k s keys (below s k e)))

-- a key more, behind the others
pub distinct-more : (keys : List Key) (key : Key) → distinct (keys ++ key ∷ []) ≡ with_key key (distinct keys)
distinct-more [] key = refl
distinct-more (first ∷ keys) key = ap (with_key first) (distinct-more keys key) ∙ put-both first key (distinct keys)

-- a number more
pub range-more : (n : ℕ) → range_with_len 1 n ++ (n + 1) ∷ [] ≡ range_with_len 1 (n + 1)
range-more n =
    let next : 1 + n ≡ n + 1 = omega arith in
    ap (λ front. front ++ (n + 1) ∷ []) (sym (map-itself (range_with_len 1 n)))
    ∙ sym (map-range_with_len_more (λ (i : ℕ). i) 1 n (n + 1) next)
    ∙ map-itself (range_with_len 1 (n + 1))

-- a batch more
pub kept-more : {X A : Type 0} (f : X → List A) (g : ℕ → X) (n : ℕ) →
    flat_map f (map g (range_with_len 1 n)) ++ f (g (n + 1)) ≡ flat_map f (map g (range_with_len 1 (n + 1)))
kept-more f g n =
    let next : 1 + n ≡ n + 1 = omega arith in
    flat_map_more f [] (map g (range_with_len 1 n)) (g (n + 1))
    ∙ ap (flat_map f) (sym (map-range_with_len_more g 1 n (n + 1) next))

-- an element more
pub map-pushed : {X Y : Type 0} (f : X → Y) (xs : List X) (i : ℕ) (x : X) → i < length xs → x ≡ get_or xs i x
    → map f (take i xs) ++ f x ∷ [] ≡ map f (take (i + 1) xs)
map-pushed f xs i x within is = ap (λ y. map f (take i xs) ++ f y ∷ []) is ∙ sym (map_more f xs i x within)

-- the key of a row more
pub keys-more : (column : ℕ) (rows : List (List Cell)) (i : ℕ) (row : List Cell) → i < length rows → row ≡ get_or rows i row
    → with_key (key_of column row) (distinct (map (key_of column) (take i rows))) ≡ distinct (map (key_of column) (take (i + 1) rows))
keys-more column rows i row within is =
    sym (distinct-more (map (key_of column) (take i rows)) (key_of column row))
    ∙ ap distinct (map-pushed (key_of column) rows i row within is)

-- the number of one row of a key, if it has one
number-list : (number : Option ℤ) → cons_option number [] ≡ option_to_list number
number-list None = refl
number-list (Some n) = refl

-- a row of the key adds its number
pub numbers-with : (column place : ℕ) (key : Key) (rows : List (List Cell)) (row : List Cell)
    → true ≡ pointwise nat_eq key (key_of column row)
    → numbers_at place (rows_with_key column key (rows ++ row ∷ []))
    ≡ numbers_at place (rows_with_key column key rows) ++ option_to_list (number_of (cell_at place row))
numbers-with column place key rows row has =
    numbers-append column place key rows (row ∷ [])
    ∙ ap (λ passes. numbers_at place (rows_with_key column key rows) ++ numbers_at place (cond passes (row ∷ []) [])) (sym has)
    ∙ ap (λ more. numbers_at place (rows_with_key column key rows) ++ more) (number-list (number_of (cell_at place row)))

-- another row adds none
pub numbers-without : (column place : ℕ) (key : Key) (rows : List (List Cell)) (row : List Cell)
    → false ≡ pointwise nat_eq key (key_of column row)
    → numbers_at place (rows_with_key column key (rows ++ row ∷ [])) ≡ numbers_at place (rows_with_key column key rows)
numbers-without column place key rows row other =
    numbers-append column place key rows (row ∷ [])
    ∙ ap (λ passes. numbers_at place (rows_with_key column key rows) ++ numbers_at place (cond passes (row ∷ []) [])) (sym other)
    ∙ append-nil (numbers_at place (rows_with_key column key rows))

-- a key goes behind those that it is above
pub put-past : (key : Key) (keys : List Key) (place : ℕ) (d : Key) → place < length keys
    → with_key key keys ≡ take place keys ++ with_key key (drop place keys) → order key (get_or keys place d) ≡ Greater
    → with_key key keys ≡ take (place + 1) keys ++ with_key key (drop (place + 1) keys)
put-past key keys place d within so_far above =
    let x = get_or keys place d in
    let next : suc place ≡ place + 1 = omega arith in
    so_far
    ∙ ap (λ rest. take place keys ++ with_key key rest) (drop-cons keys place d within)
    ∙ ap (λ rest. take place keys ++ rest) (put-greater key x (drop (suc place) keys) above)
    ∙ sym (append_assoc (take place keys) (x ∷ []) (with_key key (drop (suc place) keys)))
    ∙ ap (λ front. front ++ with_key key (drop (suc place) keys)) (sym (take_more keys place d within))
    ∙ ap (λ n. take (place + 1) keys ++ with_key key (drop n keys)) next

-- a key goes before one that it is below
pub put-before : (key : Key) (keys : List Key) (place : ℕ) (d : Key) → place < length keys
    → with_key key keys ≡ take place keys ++ with_key key (drop place keys) → order key (get_or keys place d) ≡ Less
    → take place keys ++ key ∷ drop place keys ≡ with_key key keys
put-before key keys place d within so_far below' =
    ap (λ rest. take place keys ++ key ∷ rest) (drop-cons keys place d within)
    ∙ ap (λ rest. take place keys ++ rest) (sym (put-less key (get_or keys place d) (drop (suc place) keys) below'))
    ∙ ap (λ rest. take place keys ++ with_key key rest) (sym (drop-cons keys place d within))
    ∙ sym so_far

-- a key that is there stays once
pub put-there : (key : Key) (keys : List Key) (place : ℕ) (d : Key) → place < length keys
    → with_key key keys ≡ take place keys ++ with_key key (drop place keys) → order key (get_or keys place d) ≡ Equal
    → keys ≡ with_key key keys
put-there key keys place d within so_far same =
    sym (take-append-drop place keys)
    ∙ ap (λ rest. take place keys ++ rest) (drop-cons keys place d within)
    ∙ ap (λ rest. take place keys ++ rest) (sym (put-equal key (get_or keys place d) (drop (suc place) keys) same))
    ∙ ap (λ rest. take place keys ++ with_key key rest) (sym (drop-cons keys place d within))
    ∙ sym so_far

-- a key that is above all goes last
pub put-last : (key : Key) (keys : List Key) (place : ℕ) → length keys ≤ place
    → with_key key keys ≡ take place keys ++ with_key key (drop place keys) → keys ++ key ∷ [] ≡ with_key key keys
put-last key keys place past so_far =
    ap (λ front. front ++ key ∷ []) (sym (take_all place keys past))
    ∙ ap (λ rest. take place keys ++ with_key key rest) (sym (drop_all place keys past))
    ∙ sym so_far

-- an order that a comparison told
pub told-order : (told is : Ordering) (key x y first second : Key) → told ≡ order first second → told ≡ is → first ≡ key → second ≡ x
    → x ≡ y
    → order key y ≡ is
told-order told is key x y first second compared answer here there same =
    sym (λ k. order (here k) ((there ∙ same) k)) ∙ sym compared ∙ answer
