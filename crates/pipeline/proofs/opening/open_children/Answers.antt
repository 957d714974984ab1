-- The children of the root that was opened.
use Rattle.std.proofs.Common.{drop, subst, OnOk}
use Rattle.std.specs.Prelude.{slice_index_or}
use Rattle.pipeline.specs.Opening.{AddsChildren}
use Rattle.pipeline.proofs.OpeningLemmas.{nodes-opened}
use Rattle.pipeline.proofs.opening.open_children.Goals as goal

pub returns-clause-nodes : goal.returns-clause-nodes
returns-clause-nodes c =
    nodes-opened (slice_index_or c.args.plan.now.limits 0 0) (drop 1 c.args.plan.now.limits) c.args.plan.now.reserves c.args.tree.now
    c.open_each-result.new.tree c.requires.opened c.open_each-result.result
    (subst (λ numbers. OnOk c.open_each-result.result (AddsChildren numbers c.args.plan.now.reserves c.args.tree.now
    c.open_each-result.new.tree)) c.behind_root.ensures.limits c.open_each-result.ensures.children)
