-- The rows are summable, and are all the rows of the groups.
use Rattle.std.proofs.Common.{◌≡◌, ◌<◌, ◌≤◌, ◌∙◌, All, Some, [], ap, length, get_or, refl, sym, subst}
use Rattle.std.specs.Prelude.{IfOk, slice_get}
use Rattle.std.proofs.lemmas.List.{length-map}
use Rattle.std.proofs.lemmas.Option.{slice_get_within}
use Rattle.query_model.specs.Answer.{groups_of}
use Rattle.query_model.specs.declared.bounds.TheConstants.{MOST_ROWS}
use Rattle.query_model.specs.declared.kind.Kind.TheVariants as kind
use Rattle.query_model.specs.Requests.{sum_kinds}
use Rattle.operators.proofs.SummableLemmas.{ints-summable, room-summable}
use Rattle.operators.proofs.grouping.groups_of.Goals as goal

pub add-requires : goal.add-requires
add-requires g c =
    let kinds_is = ap (λ table. table.kinds) c.as_slice-all.ensures ∙ c.in-Ok.ensures.kinds in
    let rows_is = ap (λ table. table.rows) c.as_slice-all.ensures ∙ c.in-Ok.ensures.rows in
    let ints = subst (λ list. All (λ sum. slice_get list sum ≡ Some kind.Int) c.args.sums.now) (sym kinds_is) c.requires.ints in
    let few = subst (λ list. length list ≤ MOST_ROWS) (sym rows_is) c.requires.few in
    let summable = ints-summable c.args.key c.args.sums.now c.as_slice-all.result.kinds c.as_slice-all.result.rows c.len-count.ensures.typed
    ints few in
    record {
      key = subst (λ list. c.args.key < length list) (sym kinds_is) c.requires.key;
      within = λ k d inside. slice_get_within c.as_slice-all.result.kinds (get_or c.args.sums.now k d) kind.Int (ints k d inside);
      room = (
        [],
        c.in_ok-groups.ensures.groups c.args.key c.args.sums.now refl,
        room-summable c.args.key c.args.sums.now c.as_slice-all.result.rows summable,
      );
    }

pub rows-requires : goal.rows-requires
rows-requires g c =
    let kinds_is = ap (λ table. table.kinds) c.as_slice-all.ensures ∙ c.in-Ok.ensures.kinds in
    let rows_is = ap (λ table. table.rows) c.as_slice-all.ensures ∙ c.in-Ok.ensures.rows in
    let ints = subst (λ list. All (λ sum. slice_get list sum ≡ Some kind.Int) c.args.sums.now) (sym kinds_is) c.requires.ints in
    let few = subst (λ list. length list ≤ MOST_ROWS) (sym rows_is) c.requires.few in
    let summable = ints-summable c.args.key c.args.sums.now c.as_slice-all.result.kinds c.as_slice-all.result.rows c.len-count.ensures.typed
    ints few in
    record {
      room = (
        c.args.key,
        c.args.sums.now,
        c.as_slice-all.result.rows,
        c.in_ok-add.ensures.groups [] (c.in_ok-groups.ensures.groups c.args.key c.args.sums.now refl),
        room-summable c.args.key c.args.sums.now c.as_slice-all.result.rows summable,
      );
    }

pub returns-clause-kinds : goal.returns-clause-kinds
returns-clause-kinds g c =
    let groups = c.in_ok-add.ensures.groups [] (c.in_ok-groups.ensures.groups c.args.key c.args.sums.now refl) in
    let many = ap length groups.sums ∙ length-map c.args.sums.now _ in
    subst (λ n. IfOk c.rows-2.result (λ rows. rows.kinds ≡ sum_kinds n)) many c.rows-2.ensures.kinds

pub returns-clause-rows : goal.returns-clause-rows
returns-clause-rows g c =
    let groups = c.in_ok-add.ensures.groups [] (c.in_ok-groups.ensures.groups c.args.key c.args.sums.now refl) in
    let rows_is = ap (λ table. table.rows) c.as_slice-all.ensures ∙ c.in-Ok.ensures.rows in
    subst (λ list. IfOk c.rows-2.result (λ rows. rows.rows ≡ groups_of c.args.key c.args.sums.now list)) rows_is
    (c.rows-2.ensures.rows c.args.key c.args.sums.now c.as_slice-all.result.rows groups)
