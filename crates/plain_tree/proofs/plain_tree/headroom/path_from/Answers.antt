use Rattle.std.proofs.Common.{sym, ◌∙◌}
use Rattle.mem_model.specs.Headroom.{path_from}
use Rattle.mem_model.proofs.PathLemmas.{path_step_here, path_step_past}
use Rattle.plain_tree.proofs.plain_tree.headroom.path_from.Goals as goal
use Rattle.plain_tree.proofs.plain_tree.headroom.path_from.Goals.{then-is_next+in_ok-push, else-is_next}

pub loop-node-preserved : goal.loop-node-preserved
loop-node-preserved c =
    let newest = c.args.newest.now in
    let i = c.loop-node.node-index in
    let whole = path_from newest c.args.at in
    elim c.if-is_next.branch [
      | then-is_next+in_ok-push w ↦ rw (w.path-is, w.next-is) (path_step_here newest i _ c.loop-node.next whole c.loop-node.path.items _ c.loop-node-test.true (sym c.is_next.ensures ∙ w.if-is_next.true) w.in_ok-push.ensures.items c.loop-node.invariant)
      | else-is_next w ↦ rw (w.path-is, w.next-is) (path_step_past newest i _ c.loop-node.next whole c.loop-node.path.items c.loop-node-test.true (sym c.is_next.ensures ∙ w.if-is_next.false) c.loop-node.invariant)
    ]
