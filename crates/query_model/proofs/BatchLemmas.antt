-- The batches are the rows, cut.
use Rattle.std.specs.Prelude.{◌≡◌, ℕ, suc, zero, ◌+◌, ◌-◌, ◌*◌, ◌/◌, ◌%◌, ◌≤◌, ◌<◌, List, ◌++◌, map, flat_map, take, drop, length}
use Rattle.std.specs.List.{range_with_len}
use Rattle.std.proofs.Common.{arith, sym, ap, ◌∙◌}
use Rattle.std.proofs.Math.Seq.{take-add}
use Rattle.std.proofs.lemmas.List.{drop-drop, take_all}
use Rattle.std.proofs.Math.Nat.{div-add-mod, mod-lt}
use Rattle.query_model.specs.declared.plan.Plan.{Plan}
use Rattle.query_model.specs.declared.cell.Cell.{Cell}
use Rattle.query_model.specs.Requests.{batch_count, batches_of}

module _ (size : ℕ) (rows : List (List Cell)) where
  abbrev part : ℕ → List (List Cell)
  part batch = take size (drop (size * (batch - 1)) rows)

  -- so many batches from one on are the rows from there on
  parts-take : (batch count : ℕ) →
      flat_map (λ p. p) (map part (range_with_len (batch + 1) count)) ≡ take (size * count) (drop (size * batch) rows)
  parts-take batch zero =
      let none : size * 0 ≡ 0 = omega arith in
      sym (ap (λ n. take n (drop (size * batch) rows)) none)
  parts-take batch (suc count) =
      let here : size * ((batch + 1) - 1) ≡ size * batch = ap (λ n. size * n) (omega arith) in
      let more : size * suc count ≡ size + size * count = omega arith in
      let next : size * batch + size ≡ size * (batch + 1) = omega arith in
      ap (λ n. take size (drop n rows) ++ flat_map (λ p. p) (map part (range_with_len (batch + 1 + 1) count))) here
      ∙ ap (λ rest. take size (drop (size * batch) rows) ++ rest) (parts-take (batch + 1) count)
      ∙ ap (λ n. take size (drop (size * batch) rows) ++ take (size * count) (drop n rows)) (sym next)
      ∙ ap (λ rest. take size (drop (size * batch) rows) ++ take (size * count) rest) (sym (drop-drop size (size * batch) rows))
      ∙ sym (take-add size (size * count) (drop (size * batch) rows))
      ∙ ap (λ n. take n (drop (size * batch) rows)) (sym more)

-- so many batches reach to the end
enough : (size n : ℕ) → 1 ≤ size → n ≤ size * ((n + size - 1) / size)
enough size n some =
    let whole : size * ((n + size - 1) / size) + (n + size - 1) % size ≡ n + size - 1 = div-add-mod (n + size - 1) size in
    let rest : (n + size - 1) % size < size = mod-lt (n + size - 1) {m = size} (omega arith) in
    omega arith

-- the batches, one after the other, are the rows
pub batches_whole : (plan : Plan) (rows : List (List Cell)) → 1 ≤ plan.batch →
    flat_map (λ part. part) (batches_of plan rows) ≡ rows
batches_whole plan rows some =
    let start : plan.batch * 0 ≡ 0 = omega arith in
    parts-take plan.batch rows 0 (batch_count plan rows)
    ∙ ap (λ n. take (plan.batch * batch_count plan rows) (drop n rows)) start
    ∙ take_all (plan.batch * batch_count plan rows) rows (enough plan.batch (length rows) some)
