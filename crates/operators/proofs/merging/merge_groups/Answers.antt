-- Want of memory before anything was asked for.
use Rattle.operators.proofs.InsteadLemmas.{unstored-instead}
use Rattle.operators.proofs.merging.merge_groups.Goals as goal

pub returns-in-Err-clause-calls : goal.returns-in-Err-clause-calls
returns-in-Err-clause-calls g c =
    unstored-instead g.M.Memory.model c.args.at _ _ c.args.token.now c.release_batches.new.token c.release_batches.ensures.calls
