-- One number more.
use Rattle.std.proofs.Common.{◌<◌, ◌∙◌, [], arith, false, length, get_or, rules}
use Rattle.std.specs.Prelude.{if◌then◌else◌}
use Rattle.operators.specs.Groups.{marked_texts}
use Rattle.operators.proofs.KeyLemmas.{ArePlaced-all, ArePlaced-one, marked-at, marked-long}
use Rattle.operators.proofs.keys.Keys.places_of_numbers.Goals as goal

pub rows-preserved : goal.rows-preserved
rows-preserved g c =
    let list = marked_texts g.I.Integer.text c.args.values.now c.args.known.now in
    let within : c.rows.row < length c.args.values.now = search rules in
    let long = marked-long g.I.Integer.text c.args.values.now c.args.known.now c.requires.marked in
    let key = (λ k. if get_or c.args.known.now c.rows.row false then g.I.Integer.text (c.index-values-row.is k) else [])
    ∙ marked-at g.I.Integer.text c.args.values.now c.args.known.now c.rows.row c.index-values-row.result c.requires.marked within in
    record {
      placed = ArePlaced-one c.args.self.now c.rows.self c.place_of_number.new.self list _ _ c.rows.row _ _ c.rows.invariant.placed
          (omega (arith, long, within)) key c.in_ok-place_of_number.ensures.keys c.in_ok-place_of_number.ensures.place
          c.push_reserved.ensures.items;
      filled = search rules;
      room = search rules;
    }

pub returns-clause-keys : goal.returns-clause-keys
returns-clause-keys g c =
    let long = marked-long g.I.Integer.text c.args.values.now c.args.known.now c.requires.marked in
    (ArePlaced-all _ _ _ _ c.rows.row c.rows.invariant.placed (omega (arith, long, c.rows-test.false))).0

pub returns-clause-places : goal.returns-clause-places
returns-clause-places g c =
    let long = marked-long g.I.Integer.text c.args.values.now c.args.known.now c.requires.marked in
    (ArePlaced-all _ _ _ _ c.rows.row c.rows.invariant.placed (omega (arith, long, c.rows-test.false))).1
