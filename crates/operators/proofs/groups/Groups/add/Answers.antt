-- Groups of some rows and then of more are the groups of all.
use Rattle.std.proofs.Common.{◌≡◌, ◌<◌, ◌≤◌, ◌∙◌, All, Some, ap, length, map, sym, subst, rules}
use Rattle.query_model.specs.Answer.{key_of}
use Rattle.query_model.specs.Cells.{printed}
use Rattle.operators.specs.Adding.{CanAddAll, all_added}
use Rattle.operators.specs.Groups.{keys_seen}
use Rattle.operators.proofs.AddedLemmas.{keys-all, keys-of-cells, on-ok, placed-within, room-all, sums-all, sums-short}
use Rattle.operators.proofs.GatherLemmas.{slice-typed}
use Rattle.operators.proofs.MixLemmas.{whole-slice}
use Rattle.operators.proofs.groups.Groups.add.Goals as goal

pub places_of-requires-clause-typed : goal.places_of-requires-clause-typed
places_of-requires-clause-typed c = slice-typed c.args.rows.now c.args.key c.in-Some.column c.len-count.ensures.typed c.in-Some.ensures.some

pub add_columns-requires-clause-inside : goal.add_columns-requires-clause-inside
add_columns-requires-clause-inside c =
    let cells = ap (map printed) c.in-Some.ensures.some.cells ∙ keys-of-cells c.args.key c.args.rows.now.rows in
    let found = c.in_ok-places.ensures.places ∙ ap (map Some) cells in
    let within = placed-within c.places_of.new.self _ c.in_ok-places.places.items found in
    subst (λ n. All (λ place. place < n) c.as_slice.result.now) (sym c.len-count-2.ensures.value)
    (subst (All (λ place. place < length c.places_of.new.self)) (sym c.as_slice.ensures.value) within)

pub add_columns-requires-clause-short : goal.add_columns-requires-clause-short
add_columns-requires-clause-short c =
    let cells = ap (map printed) c.in-Some.ensures.some.cells ∙ keys-of-cells c.args.key c.args.rows.now.rows in
    let seen : c.places_of.new.self ≡ keys_seen c.args.self.now.keys (map (key_of c.args.key) c.args.rows.now.rows) =
    c.in_ok-places.ensures.keys ∙ (λ k. keys_seen ((c.self.view_is k).keys) (cells k)) in
    let found = c.in_ok-places.ensures.places ∙ ap (map Some) cells in
    let short = sums-short c.args.key c.args.columns.now c.requires.room.0 c.args.rows.now.rows c.args.self.now c.places_of.new.self _
    c.requires.room.1 seen found in
    let lent = c.as_mut_slice.ensures.value ∙ ap (λ groups. groups.sums) c.self.view_is in
    subst (λ n. All (λ sum. length sum ≤ n) c.as_mut_slice.result.now) (sym c.len-count-2.ensures.value)
    (subst (All (λ sum. length sum ≤ length c.places_of.new.self)) (sym lent) short)

pub add_columns-requires-clause-room : goal.add_columns-requires-clause-room
add_columns-requires-clause-room c =
    let cells = ap (map printed) c.in-Some.ensures.some.cells ∙ keys-of-cells c.args.key c.args.rows.now.rows in
    let seen : c.places_of.new.self ≡ keys_seen c.args.self.now.keys (map (key_of c.args.key) c.args.rows.now.rows) =
    c.in_ok-places.ensures.keys ∙ (λ k. keys_seen ((c.self.view_is k).keys) (cells k)) in
    let found = c.in_ok-places.ensures.places ∙ ap (map Some) cells in
    let room = room-all c.args.key c.args.columns.now c.requires.room.0 c.args.rows.now.rows c.args.self.now c.places_of.new.self _
    c.requires.room.1 seen found c.requires.room.2 in
    let lent = c.as_mut_slice.ensures.value ∙ ap (λ groups. groups.sums) c.self.view_is in
    subst (λ n. CanAddAll n c.as_slice.result.now c.args.rows.now.rows c.args.columns.now c.as_mut_slice.result.now)
    (sym c.len-count-2.ensures.value)
    (subst (λ list. CanAddAll (length c.places_of.new.self) list c.args.rows.now.rows c.args.columns.now c.as_mut_slice.result.now)
    (sym c.as_slice.ensures.value)
    (subst (CanAddAll (length c.places_of.new.self) c.in_ok-places.places.items c.args.rows.now.rows c.args.columns.now) (sym lent) room))

pub returns : goal.returns
returns c = record {
  groups = λ before are.
      let cells = ap (map printed) c.in-Some.ensures.some.cells ∙ keys-of-cells c.args.key c.args.rows.now.rows in
      let seen : c.places_of.new.self ≡ keys_seen c.args.self.now.keys (map (key_of c.args.key) c.args.rows.now.rows) =
      c.in_ok-places.ensures.keys ∙ (λ k. keys_seen ((c.self.view_is k).keys) (cells k)) in
      let found = c.in_ok-places.ensures.places ∙ ap (map Some) cells in
      let lent = c.as_mut_slice.ensures.value ∙ ap (λ groups. groups.sums) c.self.view_is in
      let long : length c.add_columns.new.sums ≡ c.self.inside.sums.len = search rules in
      on-ok c.add_columns.result (λ added. record {
        keys = keys-all c.args.key c.args.columns.now before c.args.rows.now.rows c.args.self.now c.places_of.new.self _ are seen found;
        sums = whole-slice c.self.inside.sums.len c.add_columns.new.sums c.self.inside.sums.items long ∙ added
            ∙ (λ k. all_added (c.len-count-2.ensures.value k) (c.as_slice.ensures.value k) c.args.rows.now.rows c.args.columns.now (lent k))
            ∙ sums-all c.args.key c.args.columns.now before c.args.rows.now.rows c.args.self.now c.places_of.new.self _ are seen found;
      }) c.add_columns.ensures.value;
}
