-- The clauses of the tree's own call are those of a memory.
use Rattle.mem_buf.proofs.CauseLemmas.{child-causes}
use Rattle.alloc_tree.specs.SoloView.{solo_view}
use Rattle.alloc_tree.proofs.SoloCallLemmas.{makes-child}
use Rattle.alloc_tree.proofs.solo.SoloMemory.child.Goals as goal

pub returns : goal.returns
returns c =
    let made = makes-child c.args.parent c.args.reservation c.args.limit c.child.result c.args.token.now c.child.new.self
    c.every_tree_is_lawful.ensures (record { answer_is = c.child.ensures.answer; after = c.child.ensures.after }) c.child.ensures.counted in
    let causes = child-causes (solo_view c.args.token.now) c.args.parent c.args.reservation c.args.limit c.child.result made.answer in
    record { above = causes.above; closed = causes.closed; nodes = causes.nodes; full = causes.full; makes = made }
