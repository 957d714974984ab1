-- A sum that is known grows by the number, and another one is the number.
use Rattle.std.proofs.Common.{◌≡◌, ◌∙◌, ◌+ℤ◌, ap, get_or, sym, subst, to_z, of_z, rules, true}
use Rattle.std.specs.Int.{w128}
use Rattle.std.specs.Prelude.{FitsSigned, pos, slice_set, if◌then◌else◌}
use Rattle.std.proofs.lemmas.Int.{to_z-of_z}
use Rattle.query_model.specs.Cells.{IsOfKind}
use Rattle.query_model.specs.declared.cell.Cell.TheVariants as cell
use Rattle.query_model.specs.declared.kind.Kind.TheVariants as kind
use Rattle.row_text.specs.Stored.{numbers}
use Rattle.row_text.proofs.PrintLemmas.{number-at}
use Rattle.operators.specs.Adding.{with_number}
use Rattle.operators.proofs.AddLemmas.{add-first, add-known, sum-fits}
use Rattle.operators.proofs.sums.add_number.Goals as goal

pub overflow_add-sums : goal.overflow_add-sums
overflow_add-sums c =
    let sum = get_or c.args.sums.now c.args.place (pos 0) in
    let one : FitsSigned w128 sum = search rules in
    let two : FitsSigned w128 c.args.number = search rules in
    let both : to_z w128 (of_z w128 sum) +ℤ to_z w128 (of_z w128 c.args.number) ≡ sum +ℤ c.args.number =
    (λ k. to_z-of_z w128 sum one k +ℤ to_z-of_z w128 c.args.number two k) in
    let at = number-at (λ n. cell.Sum n) c.args.sums.now c.args.seen.now c.args.place (pos 0) c.requires.marked c.requires.within in
    let known = at ∙ ap (λ mark. if mark then cell.Sum sum else cell.Null) c.if-seen-place.true in
    let room = subst (λ one. IsOfKind kind.Sum (with_number one c.args.number)) known c.requires.room in
    subst (FitsSigned w128) (sym both) (sum-fits (sum +ℤ c.args.number) room)

pub returns-then-seen-place : goal.returns-then-seen-place
returns-then-seen-place c =
    let sum = get_or c.args.sums.now c.args.place (pos 0) in
    let one : FitsSigned w128 sum = search rules in
    let two : FitsSigned w128 c.args.number = search rules in
    let both : to_z w128 (of_z w128 sum) +ℤ to_z w128 (of_z w128 c.args.number) ≡ sum +ℤ c.args.number =
    (λ k. to_z-of_z w128 sum one k +ℤ to_z-of_z w128 c.args.number two k) in
    let at = number-at (λ n. cell.Sum n) c.args.sums.now c.args.seen.now c.args.place (pos 0) c.requires.marked c.requires.within in
    let known = at ∙ ap (λ mark. if mark then cell.Sum sum else cell.Null) c.if-seen-place.true in
    let room = subst (λ one. IsOfKind kind.Sum (with_number one c.args.number)) known c.requires.room in
    let fits = sum-fits (sum +ℤ c.args.number) room in
    let stored = ap (λ n. to_z w128 (of_z w128 n)) both ∙ to_z-of_z w128 (sum +ℤ c.args.number) fits in
    record {
      value = ap (λ n. numbers cell.Sum (slice_set c.args.sums.now c.args.place n) c.args.seen.now) stored
          ∙ add-known c.args.sums.now c.args.seen.now c.args.place (pos 0) c.args.number c.requires.marked c.requires.within
          c.if-seen-place.true;
    }

pub returns-else-seen-place : goal.returns-else-seen-place
returns-else-seen-place c =
    let two : FitsSigned w128 c.args.number = search rules in
    record {
      value = (λ k. numbers cell.Sum (slice_set c.args.sums.now c.args.place (to_z-of_z w128 c.args.number two k))
          (slice_set c.args.seen.now c.args.place true))
          ∙ add-first c.args.sums.now c.args.seen.now c.args.place c.args.number c.requires.marked c.requires.within
          c.if-seen-place.false;
    }
