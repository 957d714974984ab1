-- The rows of groups, in order of their keys.
use Rattle.std.proofs.Common.{◌≡◌, ℕ, ◌<◌, suc, List, [], ◌∷◌, length, map, get_or, All, refl, sym, ap, ◌∙◌, subst, arith}
use Rattle.std.specs.Prelude.{IsUtf8}
use Rattle.std.proofs.Math.ListN.{replicate}
use Rattle.std.proofs.lemmas.List.{append-nil, get_or-map, length-map}
use Rattle.std.proofs.lemmas.List.Elements.{All-cons, All-head, All-nil, All-tail}
use Rattle.std.proofs.lemmas.Simd.{map-map}
use Rattle.query_model.specs.Answer.{distinct, group_of, groups_of, key_of, rows_with_key, sum_of}
use Rattle.query_model.specs.Cells.{IsOfKind}
use Rattle.query_model.specs.declared.cell.Cell.{Cell}
use Rattle.query_model.specs.declared.cell.Cell.TheVariants.{Null, Text}
use Rattle.query_model.specs.declared.kind.Kind.TheVariants as kind
use Rattle.row_text.specs.Rows.{AreLong, AreRows, beside, cells_in, kinds_in, rows_from}
use Rattle.row_text.specs.Stored.{ColumnCells}
use Rattle.row_text.proofs.BuiltLemmas.{IsTyped, rows-typed}
use Rattle.query_model.specs.Requests.{sum_kinds}
use Rattle.operators.specs.Groups.{AreGroups, GroupsView, HaveRoom, group_columns, keys_seen}
use Rattle.operators.proofs.GatherLemmas.{all-gathered, map-same}
use Rattle.operators.proofs.KeyLemmas.{Key, seen-has}
use Rattle.operators.proofs.RisingLemmas.{distinct-has, distinct-rising, rising-same}

-- rows of which each cell is made of a key
besides : (g : Key → Cell) (h : Key → List Cell) (keys : List Key) → beside (map g keys) (map h keys) ≡ map (λ k. g k ∷ h k) keys
unfolding beside
besides g h [] = refl
besides g h (k ∷ keys) = ap (λ rest. (g k ∷ h k) ∷ rest) (besides g h keys)

abbrev no_cells : List Cell
no_cells = []

nones : (keys : List Key) → replicate (length keys) no_cells ≡ map (λ (k : Key). no_cells) keys
nones [] = refl
nones (k ∷ keys) = ap (λ rest. no_cells ∷ rest) (nones keys)

rows-made : (cells : List (Key → Cell)) (keys : List Key)
    → rows_from (length keys) (map (λ g. map g keys) cells) ≡ map (λ k. map (λ g. g k) cells) keys
unfolding rows_from
rows-made [] keys = nones keys
rows-made (g ∷ cells) keys = ap (beside (map g keys)) (rows-made cells keys) ∙ besides g (λ k. map (λ h. h k) cells) keys

long-made : (cells : List (Key → Cell)) (keys : List Key) → AreLong (length keys) (map (λ g. map g keys) cells)
long-made [] keys = All-nil _
long-made (g ∷ cells) keys =
    All-cons (λ column. length column ≡ length keys) (map g keys) (map (λ h. map h keys) cells) (length-map keys g) (long-made cells keys)

-- keys that are seen in turn, in order
distinct-seen : (keys : List Key) → distinct (keys_seen [] keys) ≡ distinct keys
distinct-seen keys = rising-same (distinct (keys_seen [] keys)) (distinct keys) (distinct-rising (keys_seen [] keys)) (distinct-rising keys)
    (λ k. distinct-has k (keys_seen [] keys) ∙ seen-has k [] keys ∙ sym (distinct-has k keys))

sum-kinds : (sums : List (List Cell)) (places : List ℕ)
    → kinds_in (map (λ sum. record { kind = kind.Sum; cells = map (λ place. get_or sum place Null) places }) sums)
    ≡ replicate (length sums) kind.Sum
sum-kinds [] places = refl
sum-kinds (sum ∷ sums) places = ap (λ rest. kind.Sum ∷ rest) (sum-kinds sums places)

texts-typed : (keys : List Key) (places : List ℕ) → All IsUtf8 keys → All (λ place. place < length keys) places
    → All (IsOfKind kind.Text) (map (λ place. Text (get_or keys place [])) places)
texts-typed keys [] utf8 within = All-nil _
texts-typed keys (place ∷ places) utf8 within =
    All-cons (IsOfKind kind.Text) (Text (get_or keys place [])) (map (λ p. Text (get_or keys p [])) places)
    (utf8 place [] (All-head (λ p. p < length keys) place places within))
    (texts-typed keys places utf8 (All-tail (λ p. p < length keys) place places within))

each-image : {X Y : Type 0} (P : Y → Type 0) (f : X → Y) (xs : List X) → ((x : X) → P (f x)) → All P (map f xs)
each-image P f [] each = All-nil _
each-image P f (x ∷ xs) each = All-cons P (f x) (map f xs) (each x) (each-image P f xs each)

module _ (key : ℕ) (columns : List ℕ) (rows : List (List Cell)) (groups : GroupsView) (are : AreGroups key columns rows groups) where
  -- each column has a sum for each key
  pub sums-long : All (λ sum. length sum ≡ length groups.keys) groups.sums
  sums-long = subst (All (λ sum. length sum ≡ length groups.keys)) (sym are.sums)
      (each-image (λ sum. length sum ≡ length groups.keys) (λ column. map (λ one. sum_of
      (rows_with_key key one rows) column) groups.keys) columns
      (λ column. length-map groups.keys _))

  module _ (places : List ℕ) (within : All (λ place. place < length groups.keys) places)
      (ordered : map (λ place. get_or groups.keys place []) places ≡ distinct groups.keys) (made : List ColumnCells)
      (made_is : made ≡ group_columns groups.keys groups.sums places) (count : ℕ) (count_is : count ≡ length places) where
    pub kinds-made : kinds_in made ≡ sum_kinds (length groups.sums)
    kinds-made = ap kinds_in made_is ∙ ap (λ rest. kind.Text ∷ rest) (sum-kinds groups.sums places)

    sum-cells : (f : Key → Cell) → map (λ place. get_or (map f groups.keys) place Null) places ≡ map f (distinct groups.keys)
    sum-cells f =
        map-same _ _ places (λ k d inside. get_or-map f groups.keys (get_or places k d) [] Null (within k d inside))
        ∙ sym (map-map f (λ place. get_or groups.keys place []) places) ∙ ap (map f) ordered

    sums-made : (list : List ℕ)
        → cells_in (map (λ sum. record { kind = kind.Sum; cells = map (λ place. get_or sum place Null) places })
        (map (λ column. map (λ one. sum_of (rows_with_key key one rows) column) groups.keys) list))
        ≡ map (λ g. map g (distinct groups.keys)) (map (λ column one. sum_of (rows_with_key key one rows) column) list)
    sums-made [] = refl
    sums-made (column ∷ list) =
        (λ k. sum-cells (λ one. sum_of (rows_with_key key one rows) column) k ∷ sums-made list k)

    cells-made : cells_in made ≡ map (λ g. map g (distinct groups.keys))
        ((λ one. Text one) ∷ map (λ column one. sum_of (rows_with_key key one rows) column) columns)
    cells-made =
        let text = sym (map-map Text (λ place. get_or groups.keys place []) places) ∙ ap (map Text) ordered in
        ap cells_in made_is
        ∙ ap (λ sums. cells_in (group_columns groups.keys sums places)) are.sums ∙ (λ k. text k ∷ sums-made columns k)

    size : count ≡ length (distinct groups.keys)
    size = count_is ∙ sym (length-map places _) ∙ ap length ordered

    pub long-rows : AreLong count (cells_in made)
    long-rows = subst (AreLong count) (sym cells-made)
        (subst (λ n. AreLong n (map (λ g. map g (distinct groups.keys)) ((λ one. Text one) ∷ map (λ column one. sum_of
        (rows_with_key key one rows) column) columns)))
        (sym size) (long-made ((λ one. Text one) ∷ map (λ column one. sum_of (rows_with_key key one rows) column) columns)
        (distinct groups.keys)))

    -- the rows of the groups
    pub rows-grouped : rows_from count (cells_in made) ≡ groups_of key columns rows
    rows-grouped =
        (λ k. rows_from (size k) (cells-made k)) ∙ rows-made ((λ one. Text one) ∷ map (λ column one. sum_of
        (rows_with_key key one rows) column) columns) (distinct groups.keys)
        ∙ map-same (λ (k : Key). map (λ (g : Key → Cell). g k) ((λ one. Text one) ∷ map (λ column one. sum_of
        (rows_with_key key one rows) column) columns))
        (group_of key columns rows) (distinct groups.keys) (λ k d inside.
        ap (λ rest. Text (get_or (distinct groups.keys) k d) ∷ rest)
        (map-map (λ (g : Key → Cell). g (get_or (distinct groups.keys) k d)) (λ column one. sum_of
        (rows_with_key key one rows) column) columns))
        ∙ ap (λ list. map (group_of key columns rows) (distinct list)) are.keys
        ∙ ap (map (group_of key columns rows)) (distinct-seen (map (key_of key) rows))

    sums-typed : (list : List ℕ) → HaveRoom key list rows
        → All IsTyped (map (λ sum. record { kind = kind.Sum; cells = map (λ place. get_or sum place Null) places })
        (map (λ column. map (λ one. sum_of (rows_with_key key one rows) column) groups.keys) list))
    sums-typed [] room = All-nil _
    sums-typed (column ∷ list) room =
        let f : Key → Cell = (λ one. sum_of (rows_with_key key one rows) column) in
        let one = room 0 column (omega arith) in
        let typed = each-image (IsOfKind kind.Sum) f groups.keys (λ k. one k rows [] (sym (append-nil rows))) in
        let inside : All (λ place. place < length (map f groups.keys)) places =
        subst (λ n. All (λ place. place < n) places) (sym (length-map groups.keys f)) within in
        All-cons IsTyped (record { kind = kind.Sum; cells = map (λ place. get_or (map f groups.keys) place Null) places })
        (map (λ sum. record { kind = kind.Sum; cells = map (λ place. get_or sum place Null) places })
        (map (λ c. map (λ k. sum_of (rows_with_key key k rows) c) groups.keys) list))
        (all-gathered (IsOfKind kind.Sum) (map f groups.keys) Null places typed inside)
        (sums-typed list (λ k d below. room (suc k) d (omega arith)))

    -- each cell is of its kind
    pub typed-rows : All IsUtf8 groups.keys → HaveRoom key columns rows → AreRows (kinds_in made) (rows_from count (cells_in made))
    typed-rows utf8 room =
        rows-typed count made long-rows (subst (All IsTyped) (sym (made_is ∙ ap (λ sums. group_columns groups.keys sums places) are.sums))
        (All-cons IsTyped (record { kind = kind.Text; cells = map (λ place. Text (get_or groups.keys place [])) places }) _
        (texts-typed groups.keys places utf8 within) (sums-typed columns room)))
