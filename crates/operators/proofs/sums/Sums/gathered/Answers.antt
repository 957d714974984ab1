-- The cells at the places.
use Rattle.std.proofs.Common.{◌<◌, ◌∙◌, All, ap, false, length, map, get_or, sym, subst}
use Rattle.std.specs.Prelude.{pos}
use Rattle.std.proofs.lemmas.List.{length-map}
use Rattle.query_model.specs.declared.cell.Cell.TheVariants as cell
use Rattle.query_model.specs.declared.kind.Kind.TheVariants as kind
use Rattle.row_text.specs.Stored.{numbers}
use Rattle.operators.proofs.GatherLemmas.{numbers-gathered, places-within}
use Rattle.operators.proofs.sums.Sums.gathered.Goals as goal

pub gathered-requires : goal.gathered-requires
gathered-requires c =
    let both = places-within cell.Sum c.self.inside.values.items c.self.inside.known.items c.args.self.now c.args.places.now
    (sym c.self.view_is) c.self.invariant c.requires.within in
    record { within = subst (λ list. All (λ place. place < length list) c.args.places.now) (sym c.as_slice.ensures.value) both.0 }

pub gathered-requires-2 : goal.gathered-requires-2
gathered-requires-2 c =
    let both = places-within cell.Sum c.self.inside.values.items c.self.inside.known.items c.args.self.now c.args.places.now
    (sym c.self.view_is) c.self.invariant c.requires.within in
    record { within = subst (λ list. All (λ place. place < length list) c.args.places.now) (sym c.as_slice-2.ensures.value) both.1 }

pub sums-requires : goal.sums-requires
sums-requires c = record {
  marked = ap length (c.in_ok-values.ensures.value (pos 0)) ∙ length-map c.args.places.now _
      ∙ sym (ap length (c.in_ok-known.ensures.value false) ∙ length-map c.args.places.now _);
}

pub returns : goal.returns
returns c =
    let both = places-within cell.Sum c.self.inside.values.items c.self.inside.known.items c.args.self.now c.args.places.now
    (sym c.self.view_is) c.self.invariant c.requires.within in
    let values = c.in_ok-values.ensures.value (pos 0)
    ∙ ap (λ list. map (λ place. get_or list place (pos 0)) c.args.places.now) c.as_slice.ensures.value in
    let known = c.in_ok-known.ensures.value false
    ∙ ap (λ list. map (λ place. get_or list place false) c.args.places.now) c.as_slice-2.ensures.value in
    let cells = (λ k. numbers cell.Sum (values k) (known k))
    ∙ numbers-gathered cell.Sum c.self.inside.values.items c.self.inside.known.items (pos 0) c.args.places.now c.self.invariant both.0
    ∙ ap (λ list. map (λ place. get_or list place cell.Null) c.args.places.now) c.self.view_is in
    record { value = c.sums.ensures.value ∙ (λ k. record { kind = kind.Sum; cells = cells k }) }
