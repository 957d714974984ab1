-- The key of the place is text.
use Rattle.std.proofs.Common.{◌<◌, ◌∙◌, [], ap, arith, length, get_or, sym, subst, rules}
use Rattle.std.specs.Prelude.{IsUtf8}
use Rattle.query_model.specs.declared.cell.Cell.TheVariants.{Text}
use Rattle.operators.proofs.GatherLemmas.{mapped-more}
use Rattle.operators.proofs.KeyLemmas.{seen-key}
use Rattle.operators.proofs.keys.Keys.texts.Goals as goal

pub push-requires : goal.push-requires
push-requires c =
    let place = get_or c.args.places.now c.places.place-index 0 in
    let inside : c.places.place-index < length c.args.places.now = search rules in
    let within : place < length c.args.self.now = c.requires.within c.places.place-index 0 inside in
    let key = c.as_slice.ensures.value
    ∙ seen-key c.self.inside.keys.keys _ c.args.self.now place c.index-keys-place.result c.as_slice-keys.ensures.keys c.self.view_is within
    c.index-keys-place.is in
    let long = ap length c.self.view_is in
    let text = subst IsUtf8 (ap (λ list. get_or list place []) c.self.view_is) (c.self.invariant place [] (omega (arith, long, within))) in
    record { utf8 = subst IsUtf8 (sym key) text }

pub places-preserved : goal.places-preserved
places-preserved c =
    let place = get_or c.args.places.now c.places.place-index 0 in
    let inside : c.places.place-index < length c.args.places.now = search rules in
    let within : place < length c.args.self.now = c.requires.within c.places.place-index 0 inside in
    let key = c.as_slice.ensures.value
    ∙ seen-key c.self.inside.keys.keys _ c.args.self.now place c.index-keys-place.result c.as_slice-keys.ensures.keys c.self.view_is within
    c.index-keys-place.is in
    mapped-more (λ p. Text (get_or c.args.self.now p [])) c.args.places.now c.places.place-index 0 _ _ (Text c.as_slice.result.now) inside
    c.in_ok-push.ensures.value c.places.invariant (ap Text key)
