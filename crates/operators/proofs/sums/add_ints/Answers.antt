-- One number more.
use Rattle.std.proofs.Common.{◌≡◌, ◌+◌, ◌<◌, ◌∙◌, arith, length, get_or, sym, subst, rules}
use Rattle.std.specs.Int.{w64}
use Rattle.std.specs.Prelude.{FitsSigned, pos}
use Rattle.query_model.specs.declared.cell.Cell.TheVariants as cell
use Rattle.row_text.specs.Stored.{numbers}
use Rattle.row_text.proofs.SliceLemmas.{numbers-length}
use Rattle.operators.proofs.AddLemmas.{IsAdding, IsAdding-all, IsAdding-null, IsAdding-number, int-added, room-number, unknown-null}
use Rattle.operators.proofs.AddLemmas.{widened}
use Rattle.operators.proofs.sums.add_ints.Goals as goal
use Rattle.operators.proofs.sums.add_ints.Goals.{then-known-row, else-known-row}

pub add_number-requires-clause-room : goal.add_number-requires-clause-room
add_number-requires-clause-room c =
    let within : c.rows.row < length c.args.places.now = c.rows-test.true in
    let inside : c.rows.row < length c.args.values.now = omega (arith, within, c.requires.many) in
    let long = numbers-length cell.Int c.args.values.now c.args.known.now c.requires.both in
    let same : length c.args.places.now ≡ length (numbers cell.Int c.args.values.now c.args.known.now) = omega
    (arith, long, c.requires.many) in
    let fits : FitsSigned w64 (get_or c.args.values.now c.rows.row (pos 0)) = search rules in
    let is = widened (get_or c.args.values.now c.rows.row (pos 0)) fits in
    room-number _ _ c.args.places.now (numbers cell.Int c.args.values.now c.args.known.now) c.rows.row c.rows.invariant.adding within same _
    (int-added c.args.values.now c.args.known.now c.rows.row _ c.requires.both inside is c.if-known-row.true)

pub rows-preserved : goal.rows-preserved
rows-preserved c =
    let cells = numbers cell.Int c.args.values.now c.args.known.now in
    let within : c.rows.row < length c.args.places.now = c.rows-test.true in
    let inside : c.rows.row < length c.args.values.now = omega (arith, within, c.requires.many) in
    let long = numbers-length cell.Int c.args.values.now c.args.known.now c.requires.both in
    let same : length c.args.places.now ≡ length cells = omega (arith, long, c.requires.many) in
    elim c.if-known-row.branch [
      | then-known-row w ↦
          let fits : FitsSigned w64 (get_or c.args.values.now c.rows.row (pos 0)) = search rules in
          let is = widened (get_or c.args.values.now c.rows.row (pos 0)) fits in
          record {
            adding = IsAdding-number _ _ c.args.places.now cells c.rows.row c.rows.invariant.adding within same _ _
                (int-added c.args.values.now c.args.known.now c.rows.row _ c.requires.both inside is w.if-known-row.true)
                ((λ k. numbers cell.Sum (w.sums-is k) (w.seen-is k)) ∙ w.add_number.ensures.value);
            sums = search rules;
            seen = search rules;
          }
      | else-known-row w ↦
          let now : numbers cell.Sum c.if-known-row.sums c.if-known-row.seen ≡ numbers cell.Sum c.rows.sums c.rows.seen =
          (λ k. numbers cell.Sum (w.sums-is k) (w.seen-is k)) in
          let null = unknown-null cell.Int c.args.values.now c.args.known.now c.rows.row
          (pos 0) c.requires.both inside w.if-known-row.false in
          record {
            adding = subst (λ list. IsAdding (numbers cell.Sum c.args.sums.now c.args.seen.now) list c.args.places.now cells
                (c.rows.row + 1))
                (sym now) (IsAdding-null _ _ c.args.places.now cells c.rows.row c.rows.invariant.adding within same null);
            sums = search rules;
            seen = search rules;
          }
    ]

pub returns : goal.returns
returns c = record {
  value = IsAdding-all _ _ c.args.places.now (numbers cell.Int c.args.values.now c.args.known.now) c.rows.row c.rows.invariant.adding
      c.rows-test.false;
}
