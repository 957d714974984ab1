-- A column by its kind.
use Rattle.std.proofs.Common.{◌≡◌, ◌∙◌, Some, ap, map, refl, sym, subst}
use Rattle.std.specs.Prelude.{IfOk, OnOk, slice_get}
use Rattle.std.specs.Fmt.{signed_decimal}
use Rattle.csv.specs.Records.{cut_from}
use Rattle.query_model.specs.Cells.{printed}
use Rattle.query_model.specs.declared.cell.Cell.TheVariants as cell
use Rattle.row_text.specs.Slices.{cells_of_slice}
use Rattle.operators.specs.Groups.{keys_seen}
use Rattle.operators.proofs.KeyLemmas.{marked-printed, texts-printed}
use Rattle.operators.proofs.keys.Keys.places_of.Goals as goal

pub returns-in-Ints-clause-keys : goal.returns-in-Ints-clause-keys
returns-in-Ints-clause-keys c =
    let cells = marked-printed cell.Int signed_decimal (λ n. refl) c.in-Ints.values.now c.in-Ints.known.now
    ∙ ap (λ slice. map printed (cells_of_slice slice)) (sym c.in-Ints.is) in
    subst (λ list. OnOk c.places_of_numbers.result (c.places_of_numbers.new.self ≡ keys_seen c.args.self.now list)) cells
    c.places_of_numbers.ensures.keys

pub returns-in-Ints-clause-places : goal.returns-in-Ints-clause-places
returns-in-Ints-clause-places c =
    let cells = marked-printed cell.Int signed_decimal (λ n. refl) c.in-Ints.values.now c.in-Ints.known.now
    ∙ ap (λ slice. map printed (cells_of_slice slice)) (sym c.in-Ints.is) in
    subst (λ list. IfOk c.places_of_numbers.result (λ places. map
    (slice_get c.places_of_numbers.new.self) places.items ≡ map Some list)) cells
    c.places_of_numbers.ensures.places

pub returns-in-Sums-clause-keys : goal.returns-in-Sums-clause-keys
returns-in-Sums-clause-keys c =
    let cells = marked-printed cell.Sum signed_decimal (λ n. refl) c.in-Sums.values.now c.in-Sums.known.now
    ∙ ap (λ slice. map printed (cells_of_slice slice)) (sym c.in-Sums.is) in
    subst (λ list. OnOk c.places_of_numbers-in-Sums.result (c.places_of_numbers-in-Sums.new.self ≡ keys_seen c.args.self.now list)) cells
    c.places_of_numbers-in-Sums.ensures.keys

pub returns-in-Sums-clause-places : goal.returns-in-Sums-clause-places
returns-in-Sums-clause-places c =
    let cells = marked-printed cell.Sum signed_decimal (λ n. refl) c.in-Sums.values.now c.in-Sums.known.now
    ∙ ap (λ slice. map printed (cells_of_slice slice)) (sym c.in-Sums.is) in
    subst (λ list. IfOk c.places_of_numbers-in-Sums.result (λ places.
    map (slice_get c.places_of_numbers-in-Sums.new.self) places.items ≡ map Some list)) cells c.places_of_numbers-in-Sums.ensures.places

pub returns-in-Texts-clause-places : goal.returns-in-Texts-clause-places
returns-in-Texts-clause-places c =
    let cells = texts-printed (cut_from c.in-Texts.start c.in-Texts.ends.now c.in-Texts.bytes.now)
    ∙ ap (λ slice. map printed (cells_of_slice slice)) (sym c.in-Texts.is) in
    subst (λ list. IfOk c.places_of_texts.result (λ places. map (slice_get c.places_of_texts.new.self) places.items ≡ map Some list)) cells
    c.places_of_texts.ensures.places
