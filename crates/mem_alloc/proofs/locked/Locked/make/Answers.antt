use Rattle.std.proofs.Common.{sym, subst}
use Rattle.mem_alloc.specs.RunningToken.{pins_of}
use Rattle.mem_alloc.proofs.ChildLemmas.{TellsChild, tells-child, unpinned-child}
use Rattle.mem_alloc.proofs.locked.Locked.make.Goals as goal

pub returns-clause-number : goal.returns-clause-number
returns-clause-number c =
    let a = c.args in
    let state = a.self.now.tree.state in
    (subst (TellsChild state a.parent) (sym c.child.ensures.makes.meaning.answer_is)
    (tells-child state a.parent a.reservation a.limit)).number

pub returns-clause-unpinned : goal.returns-clause-unpinned
returns-clause-unpinned c =
    let a = c.args in
    let state = a.self.now.tree.state in
    unpinned-child (pins_of a.token.now a.parent.0) state a.parent c.child.result
    (subst (TellsChild state a.parent) (sym c.child.ensures.makes.meaning.answer_is) (tells-child state a.parent a.reservation a.limit))
    c.requires.ready.pinned
