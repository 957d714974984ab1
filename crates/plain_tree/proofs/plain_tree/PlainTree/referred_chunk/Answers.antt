use Rattle.plain_tree.proofs.ReferenceLemmas.{all_referred}
use Rattle.plain_tree.proofs.plain_tree.PlainTree.referred_chunk.Goals as goal

pub returns-clause-referred : goal.returns-clause-referred
returns-clause-referred c =
    all_referred (λ r. r.now) c.args.self.now c.args.of c.find_referred.result c.find_referred.ensures.sound c.find_referred.ensures.value
