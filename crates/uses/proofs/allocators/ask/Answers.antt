use Rattle.uses.proofs.CallLemmas.{grant_gives}
use Rattle.uses.proofs.allocators.ask.Goals as goal

-- what is granted is of the allocator that was asked
pub returns-clause-at : goal.returns-clause-at
returns-clause-at c = grant_gives c.args.tree.now.state c.args.at c.args.size c.grant.result c.grant.ensures.answer
