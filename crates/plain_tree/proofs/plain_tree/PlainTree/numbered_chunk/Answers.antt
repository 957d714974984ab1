use Rattle.plain_tree.proofs.ReferenceLemmas.{all_few}
use Rattle.plain_tree.proofs.plain_tree.PlainTree.numbered_chunk.Goals as goal

pub returns-clause-few : goal.returns-clause-few
returns-clause-few c =
    all_few (λ r. r.now) c.args.self.now c.args.number c.find_numbered.result c.find_numbered.ensures.sound c.find_numbered.ensures.value
