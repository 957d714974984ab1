-- One more kind is picked.
use Rattle.std.proofs.Common.{◌<◌, get_or, length, refl, rules}
use Rattle.std.proofs.lemmas.List.{take_more}
use Rattle.batch_vec.proofs.PickedLemmas.{kinds_pushed}
use Rattle.batch_vec.proofs.picking.kinds_picked.Goals as goal

pub picks-preserved : goal.picks-preserved
picks-preserved c =
    let below : c.picks.pick-index < length c.args.picks.now = search rules in
    let p = get_or c.args.picks.now c.picks.pick-index 0 in
    kinds_pushed c.args.kinds.now c.args.picks.now c.picks.pick-index p c.picks.picked.items c.push.new.self.items _ _
    (c.requires.within c.picks.pick-index 0 below) (take_more c.args.picks.now c.picks.pick-index 0 below) refl c.in_ok-push.ensures.items
    c.picks.invariant
