use Rattle.std.proofs.Common.{◌≡◌, arith, sym, ◌∙◌}
use Rattle.mem_model.specs.Close.{with_closed, close_result}
use Rattle.plain_tree.proofs.SoundLemmas.{answers-unchanged, answers-quiet}
use Rattle.mem_model.proofs.CallResultLemmas.{close-closed, close-used, close-unused}
use Rattle.plain_tree.proofs.plain_tree.PlainTree.close.Goals as goal

pub returns-then-not-is_open-clause-call : goal.returns-then-not-is_open-clause-call
returns-then-not-is_open-clause-call c =
    let tree = c.args.self.now in
    answers-unchanged (close_result tree.state c.args.at) tree _ (close-closed tree.state c.args.at (sym c.is_open.ensures ∙ c.if-not-is_open.true))

pub returns-then-uses-gt0-clause-call : goal.returns-then-uses-gt0-clause-call
returns-then-uses-gt0-clause-call c =
    let tree = c.args.self.now in
    answers-unchanged (close_result tree.state c.args.at) tree _ (close-used tree.state c.args.at c.uses-uses.result c.uses-uses.ensures (sym c.is_open.ensures ∙ c.if-not-is_open.false) c.if-uses-gt0.true)

pub returns-clause-call : goal.returns-clause-call
returns-clause-call c =
    let tree = c.args.self.now in
    let none : c.uses-uses.result ≡ 0 = omega (arith, c.if-uses-gt0.false) in
    answers-quiet (close_result tree.state c.args.at) tree c.mark_closed.new.self _ (record tree.state { nodes = with_closed c.args.at.0 tree.state.nodes })
    (close-unused tree.state c.args.at (sym c.is_open.ensures ∙ c.if-not-is_open.false) (sym c.uses-uses.ensures ∙ none)) c.in_ok-mark_closed.ensures.ok
