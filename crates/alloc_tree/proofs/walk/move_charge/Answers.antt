use Rattle.alloc_tree.proofs.LowerLemmas.{stays_open}
use Rattle.alloc_tree.proofs.ForceLemmas.{exceeds_by_moved, moved}
use Rattle.alloc_tree.proofs.walk.move_charge.Goals as goal

pub lower-requires-clause-open : goal.lower-requires-clause-open
lower-requires-clause-open c = stays_open c.args.rows.now c.force-fits.new.rows c.args.from.0 c.force-fits.ensures.kept c.requires.from

pub lower-requires-clause-covered : goal.lower-requires-clause-covered
lower-requires-clause-covered c =
    let covered = c.requires.covered in (
      covered.1,
      exceeds_by_moved covered.0 covered.1 c.args.from c.args.to c.args.amount c.args.rows.now c.force-fits.new.rows
          c.force-fits.result c.force-fits.ensures.kept covered.3 (c.force-fits.ensures.forced covered.0 covered.2),
    )

pub returns-clause-moved : goal.returns-clause-moved
returns-clause-moved c = λ before after balance moves.
    let forces = c.force-fits.ensures.forced before balance in
    moved before after (record { at = c.args.to; amount = c.args.amount }) c.args.rows.now c.force-fits.new.rows c.lower.new.rows
    c.force-fits.result c.force-fits.ensures.kept forces c.lower.ensures.peaks
    (c.lower.ensures.released after
    (exceeds_by_moved before after c.args.from c.args.to c.args.amount c.args.rows.now c.force-fits.new.rows c.force-fits.result
    c.force-fits.ensures.kept moves forces))
