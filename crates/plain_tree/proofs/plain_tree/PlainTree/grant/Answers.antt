use Rattle.std.proofs.Common.{sym, ◌∙◌, subst, IfOk}
use Rattle.mem_model.specs.Grant.{grant_result}
use Rattle.plain_tree.specs.PlainTree.{MeetsCall}
use Rattle.plain_tree.proofs.SoundLemmas.{answers-unchanged}
use Rattle.mem_model.proofs.CallResultLemmas.{grant-too_large, grant-closed, grant-empty, grant-charge}
use Rattle.plain_tree.proofs.plain_tree.PlainTree.grant.Goals as goal

pub returns-in-Err-clause-call : goal.returns-in-Err-clause-call
returns-in-Err-clause-call c =
    let tree = c.args.self.now in
    answers-unchanged (grant_result tree.state c.args.at c.args.request) tree _ (grant-too_large tree.state c.args.at c.args.request c.in-Err.refused c.in-Err.ensures.refused c.in-Err.ensures.size)

pub returns-then-not-is_open-clause-call : goal.returns-then-not-is_open-clause-call
returns-then-not-is_open-clause-call c =
    let tree = c.args.self.now in
    answers-unchanged (grant_result tree.state c.args.at c.args.request) tree _ (grant-closed tree.state c.args.at c.args.request c.in-Ok.size c.in-Ok.ensures.size.1 c.in-Ok.ensures.size.0 (sym c.is_open.ensures ∙ c.if-not-is_open.true))

pub returns-then-size-eq0-clause-call : goal.returns-then-size-eq0-clause-call
returns-then-size-eq0-clause-call c =
    let tree = c.args.self.now in
    answers-unchanged (grant_result tree.state c.args.at c.args.request) tree _ (grant-empty tree.state c.args.at c.args.request c.in-Ok.size c.in-Ok.ensures.size.1 c.in-Ok.ensures.size.0 (sym c.is_open.ensures ∙ c.if-not-is_open.false) c.if-size-eq0.true)

pub returns-clause-call : goal.returns-clause-call
returns-clause-call c =
    let tree = c.args.self.now in
    subst (λ call. IfOk c.charge.result (λ answer. MeetsCall call tree c.charge.new.self answer))
    (sym (grant-charge tree.state c.args.at c.args.request c.in-Ok.size c.in-Ok.ensures.size.1 c.in-Ok.ensures.size.0 (sym c.is_open.ensures ∙ c.if-not-is_open.false) c.if-size-eq0.false)) c.charge.ensures.call
