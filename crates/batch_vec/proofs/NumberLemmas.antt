-- Numbers and their bytes.
use Rattle.std.proofs.Common.{◌≡◌, ℕ, ℤ, ◌+◌, ◌/◌, ◌<◌, ◌≤◌, List, length, take, map, get_or, Bool, true, false, sym, ◌∙◌, ap, arith}
use Rattle.std.proofs.Common.{◌++◌, [], ◌∷◌}
use Rattle.std.specs.Prelude.{if◌then◌else◌}
use Rattle.std.specs.Int.{Width, w64, w128, to_le_bytes, cast_signed}
use Rattle.std.specs.List.{flat_map, range_with_len}
use Rattle.std.specs.Simd.{first_chunks}
use Rattle.std.proofs.lemmas.List.{take_all}
use Rattle.query_model.specs.Bytes.{number_bytes}
use Rattle.query_model.specs.declared.cell.Cell.{Cell}
use Rattle.query_model.specs.declared.cell.Cell.TheVariants.{Null, Int, Sum}
use Rattle.row_text.specs.Stored.{numbers}
use Rattle.row_text.proofs.PrintLemmas.{number-at}
use Rattle.row_text.proofs.SliceLemmas.{numbers-length}
use Rattle.batch_vec.specs.Numbers.{int_at, int_from, sum_at, sum_from}
use Rattle.batch_vec.proofs.ListLemmas.{chunk_there, map_pushed, pieces_pushed}

module _ (values : List ℤ) (known : List Bool) (place : ℕ) (same : length values ≡ length known) (within : place < length values) where
  -- a number that is known has its own bytes
  pub known_int : (d : ℤ) → get_or known place false ≡ true
      → number_bytes w64 (Int (get_or values place d)) ≡ number_bytes w64 (get_or (numbers Int values known) place Null)
  known_int d is = sym (ap (number_bytes w64) (number-at Int values known place d same within
      ∙ ap (λ mark. if mark then Int (get_or values place d) else Null) is))

  pub known_sum : (d : ℤ) → get_or known place false ≡ true
      → number_bytes w128 (Sum (get_or values place d)) ≡ number_bytes w128 (get_or (numbers Sum values known) place Null)
  known_sum d is = sym (ap (number_bytes w128) (number-at Sum values known place d same within
      ∙ ap (λ mark. if mark then Sum (get_or values place d) else Null) is))

  -- one that isn't has those of 0
  pub unknown_int : get_or known place false ≡ false
      → to_le_bytes w64 0 ≡ number_bytes w64 (get_or (numbers Int values known) place Null)
  unknown_int is = sym (ap (number_bytes w64) (number-at Int values known place (cast_signed w64 0) same within
      ∙ ap (λ mark. if mark then Int (get_or values place (cast_signed w64 0)) else Null) is))

  pub unknown_sum : get_or known place false ≡ false
      → to_le_bytes w128 0 ≡ number_bytes w128 (get_or (numbers Sum values known) place Null)
  unknown_sum is = sym (ap (number_bytes w128) (number-at Sum values known place (cast_signed w128 0) same within
      ∙ ap (λ mark. if mark then Sum (get_or values place (cast_signed w128 0)) else Null) is))

-- the bytes of one number more
pub number_pushed : {N : Type 0} (cell : N → Cell) (w : Width) (values : List N) (known : List Bool) (place : ℕ) (old new piece : List ℕ)
    → length values ≡ length known → place < length values → new ≡ old ++ piece
    → old ≡ flat_map (number_bytes w) (take place (numbers cell values known))
    → piece ≡ number_bytes w (get_or (numbers cell values known) place Null)
    → new ≡ flat_map (number_bytes w) (take (place + 1) (numbers cell values known))
number_pushed cell w values known place old new piece same within pushed before is =
    let long = numbers-length cell values known same in
    pieces_pushed (number_bytes w) (numbers cell values known) place Null old new piece (omega (arith, long, within)) pushed before is

-- all of them
pub number_all : {N : Type 0} (cell : N → Cell) (w : Width) (values : List N) (known : List Bool) (place : ℕ) (bytes : List ℕ)
    → length values ≡ length known → length values ≤ place → bytes ≡ flat_map (number_bytes w) (take place (numbers cell values known))
    → bytes ≡ flat_map (number_bytes w) (numbers cell values known)
number_all cell w values known place bytes same past is =
    let long = numbers-length cell values known same in
    is ∙ ap (flat_map (number_bytes w)) (take_all place (numbers cell values known) (omega (arith, long, past)))

-- one number more that was read
pub int_pushed : (bytes : List ℕ) (chunks : List (List ℕ)) (i : ℕ) (d : List ℕ) (old new : List ℤ) (x : ℤ)
    → chunks ≡ first_chunks 8 (length bytes / 8) bytes → i < length bytes / 8 → new ≡ old ++ x ∷ []
    → old ≡ map (int_at bytes) (range_with_len 0 i) → x ≡ int_from (get_or chunks i d)
    → new ≡ map (int_at bytes) (range_with_len 0 (i + 1))
int_pushed bytes chunks i d old new x are within pushed before is = map_pushed (int_at bytes) i old new x pushed before
    (is ∙ ap int_from (ap (λ list. get_or list i d) are ∙ chunk_there 8 (length bytes / 8) i bytes d within))

pub sum_pushed : (bytes : List ℕ) (chunks : List (List ℕ)) (i : ℕ) (d : List ℕ) (old new : List ℤ) (x : ℤ)
    → chunks ≡ first_chunks 16 (length bytes / 16) bytes → i < length bytes / 16 → new ≡ old ++ x ∷ []
    → old ≡ map (sum_at bytes) (range_with_len 0 i) → x ≡ sum_from (get_or chunks i d)
    → new ≡ map (sum_at bytes) (range_with_len 0 (i + 1))
sum_pushed bytes chunks i d old new x are within pushed before is = map_pushed (sum_at bytes) i old new x pushed before
    (is ∙ ap sum_from (ap (λ list. get_or list i d) are ∙ chunk_there 16 (length bytes / 16) i bytes d within))
