use Rattle.std.proofs.Common.{sym, subst}
use Rattle.mem_alloc.specs.RunningToken.{pins_of}
use Rattle.mem_alloc.proofs.OpenLemmas.{IsRefusedClosed, headroom-refused}
use Rattle.mem_alloc.proofs.locked.Locked.headroom.Goals as goal

pub returns-clause-closed : goal.returns-clause-closed
returns-clause-closed c =
    let pins = pins_of c.args.token.now c.args.at.0 in
    (subst (λ answer. IsRefusedClosed pins c.args.at answer) (sym c.headroom.ensures) (headroom-refused pins c.args.self.now.tree.state c.args.at
    (c.is_open_if_pinned.ensures.value.0 c.if-not-is_open_if_pinned.false))).closed

pub returns-clause-unpinned : goal.returns-clause-unpinned
returns-clause-unpinned c =
    let pins = pins_of c.args.token.now c.args.at.0 in
    (subst (λ answer. IsRefusedClosed pins c.args.at answer) (sym c.headroom.ensures) (headroom-refused pins c.args.self.now.tree.state c.args.at
    (c.is_open_if_pinned.ensures.value.0 c.if-not-is_open_if_pinned.false))).unpinned
