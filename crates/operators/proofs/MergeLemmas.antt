-- The rows of batches, one batch after the other.
use Rattle.std.proofs.Common.{◌≡◌, ℕ, ◌+◌, ◌<◌, ◌≤◌, zero, suc, List, [], ◌∷◌, ◌++◌, length, take, drop, get_or, All, refl, sym, ap, ◌∙◌}
use Rattle.std.proofs.Common.{append_assoc, arith}
use Rattle.std.specs.List.{range_with_len}
use Rattle.std.proofs.Math.Numerals.{add-one}
use Rattle.std.proofs.lemmas.List.{append-nil, length-replicate, take_all}
use Rattle.std.proofs.lemmas.List.FromFn.{get_or-range_with_len}
use Rattle.query_model.specs.declared.kind.Kind.{Kind}
use Rattle.query_model.specs.declared.kind.Kind.TheVariants as kind
use Rattle.batch_vec.specs.Batches.{BatchView}
use Rattle.query_model.specs.Requests.{sum_kinds}
use Rattle.operators.specs.Groups.{HaveRoom, rows_in_all}
use Rattle.operators.proofs.PlaceLemmas.{range-from}

module _ {H : Type 0} where
  -- the rows of one batch more
  taken : (batches : List (BatchView H)) (i : ℕ) (d : BatchView H) → i < length batches
      → rows_in_all (take (suc i) batches) ≡ rows_in_all (take i batches) ++ (get_or batches i d).rows
  taken [] i d within = absurd (omega arith)
  taken (batch ∷ batches) zero d within = append-nil batch.rows
  taken (batch ∷ batches) (suc i) d within =
      ap (λ rest. batch.rows ++ rest) (taken batches i d (omega arith))
      ∙ sym (append_assoc batch.rows (rows_in_all (take i batches)) (get_or batches i d).rows)

  pub rows-taken : (batches : List (BatchView H)) (i : ℕ) (d : BatchView H) → i < length batches
      → rows_in_all (take i batches) ++ (get_or batches i d).rows ≡ rows_in_all (take (i + 1) batches)
  rows-taken batches i d within = sym (taken batches i d within) ∙ ap (λ n. rows_in_all (take n batches)) (sym (add-one i))

  left : (batches : List (BatchView H)) (i : ℕ) → rows_in_all (take i batches) ++ rows_in_all (drop i batches) ≡ rows_in_all batches
  left batches zero = refl
  left [] (suc i) = refl
  left (batch ∷ batches) (suc i) =
      append_assoc batch.rows (rows_in_all (take i batches)) (rows_in_all (drop i batches)) ∙ ap (λ rest. batch.rows ++ rest)
      (left batches i)

  -- there is room for the first batches where there is for all
  pub room-taken : (key : ℕ) (columns : List ℕ) (batches : List (BatchView H)) (i : ℕ) (d : BatchView H) → i < length batches
      → HaveRoom key columns (rows_in_all batches) → HaveRoom key columns (rows_in_all (take i batches) ++ (get_or batches i d).rows)
  room-taken key columns batches i d within room k e inside = λ one first rest is.
      let after = rows_in_all (drop (i + 1) batches) in
      let all : rows_in_all batches ≡ first ++ (rest ++ after) =
      sym (left batches (i + 1)) ∙ ap (λ list. list ++ after) (sym (rows-taken batches i d within) ∙ is) ∙ append_assoc first rest after in
      room k e inside one first (rest ++ after) all

  pub rows-all : (batches : List (BatchView H)) (i : ℕ) → length batches ≤ i → rows_in_all (take i batches) ≡ rows_in_all batches
  rows-all batches i behind = ap rows_in_all (take_all i batches behind)

-- the numbers of the columns behind the first one
pub behind-more : (n : ℕ) (old new : List ℕ) → new ≡ old ++ (n + 1) ∷ [] → old ≡ range_with_len 1 n → new ≡ range_with_len 1 (n + 1)
behind-more n old new pushed before =
    pushed ∙ ap (λ list. list ++ (n + 1) ∷ []) before ∙ sym (range-from 1 n (n + 1) (omega arith))

kinds-many : (n : ℕ) → length (sum_kinds n) ≡ 1 + n
kinds-many n = (let many = length-replicate n kind.Sum in omega (arith, many))

module _ (kinds : List Kind) (columns : List ℕ) (are : kinds ≡ sum_kinds (length columns)) (behind : columns ≡ range_with_len 1
    (length columns))
  where
    -- there is a key
    pub key-within : 0 < length kinds
    key-within = (let many = ap length are ∙ kinds-many (length columns) in omega (arith, many))

    -- and they are columns
    pub behind-within : All (λ column. column < length kinds) columns
    behind-within k d inside =
        let many = ap length are ∙ kinds-many (length columns) in
        let is = ap (λ list. get_or list k d) behind ∙ get_or-range_with_len 1 (length columns) k d inside in
        omega (arith, many, is, inside)
