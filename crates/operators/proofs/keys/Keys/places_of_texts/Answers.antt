-- One text more.
use Rattle.std.proofs.Common.{◌<◌, ◌∙◌, arith, length, rules}
use Rattle.std.proofs.lemmas.List.{length-map}
use Rattle.csv.specs.Records.{cut_from}
use Rattle.query_model.specs.declared.cell.Cell.TheVariants.{Text}
use Rattle.row_text.proofs.SliceLemmas.{cuts-length}
use Rattle.operators.proofs.GatherLemmas.{text-utf8}
use Rattle.operators.proofs.KeyLemmas.{ArePlaced-all, ArePlaced-one}
use Rattle.operators.proofs.keys.Keys.places_of_texts.Goals as goal

pub place_of-requires : goal.place_of-requires
place_of-requires c =
    let cuts = cut_from c.args.start c.args.ends.now c.args.bytes.now in
    let within : c.rows.row < length c.args.ends.now = search rules in
    record {
      utf8 = text-utf8 c.args.start c.rows.row c.args.ends.now c.args.bytes.now c.text_at.result.now within c.requires.typed
          c.text_at.ensures.value (length-map cuts Text ∙ cuts-length c.args.start c.args.ends.now c.args.bytes.now);
    }

pub rows-preserved : goal.rows-preserved
rows-preserved c =
    let list = cut_from c.args.start c.args.ends.now c.args.bytes.now in
    let within : c.rows.row < length c.args.ends.now = search rules in
    let long = cuts-length c.args.start c.args.ends.now c.args.bytes.now in
    record {
      placed = ArePlaced-one c.args.self.now c.rows.self c.place_of.new.self list _ _ c.rows.row _ _ c.rows.invariant.placed
          (omega (arith, long, within)) c.text_at.ensures.value c.in_ok-place_of.ensures.keys c.in_ok-place_of.ensures.place
          c.push_reserved.ensures.items;
      filled = search rules;
      room = search rules;
    }

pub returns-clause-keys : goal.returns-clause-keys
returns-clause-keys c =
    let long = cuts-length c.args.start c.args.ends.now c.args.bytes.now in
    (ArePlaced-all _ _ _ _ c.rows.row c.rows.invariant.placed (omega (arith, long, c.rows-test.false))).0

pub returns-clause-places : goal.returns-clause-places
returns-clause-places c =
    let long = cuts-length c.args.start c.args.ends.now c.args.bytes.now in
    (ArePlaced-all _ _ _ _ c.rows.row c.rows.invariant.placed (omega (arith, long, c.rows-test.false))).1
