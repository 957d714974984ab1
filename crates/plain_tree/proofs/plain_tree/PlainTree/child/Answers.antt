use Rattle.std.proofs.Common.{sym, ◌∙◌, subst, IfOk, ◌+◌}
use Rattle.mem_model.specs.Child.{child_result}
use Rattle.plain_tree.specs.PlainTree.{MeetsCall}
use Rattle.plain_tree.proofs.SoundLemmas.{answers-unchanged, answers-quiet}
use Rattle.mem_model.proofs.CallResultLemmas.{child-above, child-closed, child-past, child-made}
use Rattle.plain_tree.proofs.plain_tree.PlainTree.child.Goals as goal

pub returns-then-limit-reservation-clause-call : goal.returns-then-limit-reservation-clause-call
returns-then-limit-reservation-clause-call c =
    let tree = c.args.self.now in
    answers-unchanged (child_result tree.state c.args.parent c.args.reservation c.args.limit) tree _ (child-above tree.state c.args.parent c.args.reservation c.args.limit c.if-limit-reservation.true)

pub returns-then-not-is_open-clause-call : goal.returns-then-not-is_open-clause-call
returns-then-not-is_open-clause-call c =
    let tree = c.args.self.now in
    answers-unchanged (child_result tree.state c.args.parent c.args.reservation c.args.limit) tree _
    (child-closed tree.state c.args.parent c.args.reservation c.args.limit c.if-limit-reservation.false (sym c.is_open.ensures ∙ c.if-not-is_open.true))

pub returns-then-not-has_node_left-clause-call : goal.returns-then-not-has_node_left-clause-call
returns-then-not-has_node_left-clause-call c =
    let tree = c.args.self.now in
    rw c.past_nodes.ensures.answer (answers-quiet (child_result tree.state c.args.parent c.args.reservation c.args.limit) tree c.past_nodes.new.self _ (record tree.state { next = tree.state.next + 1 })
    (child-past tree.state c.args.parent c.args.reservation c.args.limit c.if-limit-reservation.false (sym c.is_open.ensures ∙ c.if-not-is_open.false) (sym c.has_node_left.ensures ∙ c.if-not-has_node_left.true)) c.past_nodes.ensures.tree)

pub returns-clause-call : goal.returns-clause-call
returns-clause-call c =
    let tree = c.args.self.now in
    subst (λ call. IfOk c.made.result (λ answer. MeetsCall call tree c.made.new.self answer))
    (sym (child-made tree.state c.args.parent c.args.reservation c.args.limit c.if-limit-reservation.false (sym c.is_open.ensures ∙ c.if-not-is_open.false) (sym c.has_node_left.ensures ∙ c.if-not-has_node_left.false))) c.made.ensures.call
