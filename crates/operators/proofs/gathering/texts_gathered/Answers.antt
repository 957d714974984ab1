-- One text more.
use Rattle.std.proofs.Common.{◌<◌, ◌∙◌, ap, length, map, get_or, sym, rules}
use Rattle.std.proofs.lemmas.List.{length-map}
use Rattle.csv.specs.Records.{cut_from}
use Rattle.query_model.specs.declared.cell.Cell.TheVariants.{Null, Text}
use Rattle.row_text.proofs.SliceLemmas.{cuts-length}
use Rattle.operators.proofs.GatherLemmas.{mapped-more, text-utf8}
use Rattle.operators.proofs.TextLemmas.{text-there}
use Rattle.operators.proofs.gathering.texts_gathered.Goals as goal

pub push-requires : goal.push-requires
push-requires c =
    let cuts = cut_from c.args.start c.args.ends.now c.args.bytes.now in
    let inside : c.places.place-index < length c.args.places.now = search rules in
    record {
      utf8 = text-utf8 c.args.start (get_or c.args.places.now c.places.place-index 0) c.args.ends.now c.args.bytes.now c.text_at.result.now
          (c.requires.within c.places.place-index 0 inside) c.requires.typed c.text_at.ensures.value
          (length-map cuts Text ∙ cuts-length c.args.start c.args.ends.now c.args.bytes.now);
    }

pub places-preserved : goal.places-preserved
places-preserved c =
    let cuts = cut_from c.args.start c.args.ends.now c.args.bytes.now in
    let inside : c.places.place-index < length c.args.places.now = search rules in
    mapped-more (λ place. get_or (map Text cuts) place Null) c.args.places.now c.places.place-index 0 _ _ (Text c.text_at.result.now) inside
    c.in_ok-push.ensures.value c.places.invariant
    (ap Text c.text_at.ensures.value ∙ sym (text-there c.args.start (get_or c.args.places.now c.places.place-index 0) c.args.ends.now
    c.args.bytes.now (c.requires.within c.places.place-index 0 inside)))
