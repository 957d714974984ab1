use Rattle.std.proofs.Common.{arith, refl, sym, ◌∙◌}
use Rattle.mem_model.specs.declared.charge.Charge.{Charge}
use Rattle.alloc_tree.proofs.RaiseLemmas.{at_row, rows_start, rows_go_on, rows_end, rows_end_at_root, parent_older, parent_open}
use Rattle.alloc_tree.proofs.RaiseLemmas.{keeps_nodes, held_before}
use Rattle.alloc_tree.proofs.walk.raise.Goals as goal

pub loop-pending-init : goal.loop-pending-init
loop-pending-init c = record {
  kept = record { nodes = refl; uses = refl; length = refl };
  open_ = c.requires.open;
  least = omega arith;
  fits = λ n below. refl;
  charged = λ charges balance. rows_start c.args.is_forced charges (record { at = c.args.at; amount = c.args.amount }) c.args.rows.now
      c.requires.tree balance c.requires.open;
}

pub loop-pending-smaller : goal.loop-pending-smaller
loop-pending-smaller c =
    let i = c.loop-pending.invariant in
    parent_older (at_row c.loop-pending.level c.row_of-row.result c.requires.tree i.kept i.open_ c.row_of-row.ensures) c.in-Some.is

pub loop-pending-preserved : goal.loop-pending-preserved
loop-pending-preserved c =
    let l = c.loop-pending in
    let i = l.invariant in
    let h = at_row l.level c.row_of-row.result c.requires.tree i.kept i.open_ c.row_of-row.ensures in
    let older = parent_older h c.in-Some.is in
    let request : Charge = record { at = c.args.at; amount = c.args.amount } in
    rw (c.with_charge.ensures, c.refusal_after-refusal.ensures, c.beyond_reservation-pending.ensures) (record {
      kept = keeps_nodes h l.pending _;
      open_ = parent_open h (keeps_nodes h l.pending _) c.in-Some.is;
      least = omega (arith, i.least);
      fits = λ n below. held_before h _ n (omega (arith, older, below)) ∙ i.fits n (omega (arith, older, below));
      charged = λ charges balance.
          rw (sym c.in-Some.is) (rows_go_on c.args.is_forced charges request c.args.rows.now c.requires.tree balance h l.pending l.refusal
          c.loop-pending-test.true (i.charged charges balance));
    })

pub returns-after-loop-pending-clause-charged : goal.returns-after-loop-pending-clause-charged
returns-after-loop-pending-clause-charged c = λ charges balance.
    let request : Charge = record { at = c.args.at; amount = c.args.amount } in
    rows_end c.args.is_forced charges request c.args.rows.now c.requires.tree balance {rows = c.loop-pending.rows}
    (omega (arith, c.loop-pending-test.false)) (c.loop-pending.invariant.charged charges balance)

pub returns-in_default : goal.returns-in_default
returns-in_default c =
    let l = c.loop-pending in
    let h = at_row l.level c.row_of-row.result c.requires.tree l.invariant.kept l.invariant.open_ c.row_of-row.ensures in
    let request : Charge = record { at = c.args.at; amount = c.args.amount } in
    rw (c.with_charge.ensures, c.refusal_after-refusal.ensures) (record {
      kept = keeps_nodes h l.pending _;
      charged = λ charges balance.
          let next = rows_go_on c.args.is_forced charges request c.args.rows.now c.requires.tree balance h l.pending l.refusal
          c.loop-pending-test.true (l.invariant.charged charges balance) in
          rows_end_at_root c.args.is_forced charges request c.args.rows.now c.requires.tree balance {rows = _} c.in_default.is next;
    })
