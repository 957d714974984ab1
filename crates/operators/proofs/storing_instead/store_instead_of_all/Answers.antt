-- A storing, and then what is given back.
use Rattle.operators.proofs.InsteadLemmas.{stored-instead}
use Rattle.operators.proofs.storing_instead.store_instead_of_all.Goals as goal

pub returns-clause-calls : goal.returns-clause-calls
returns-clause-calls g c =
    stored-instead g.M.Memory.model c.args.at _ _ _ c.args.token.now c.store_rows-stored.new.token c.release_batches.new.token
    c.store_rows-stored.ensures.calls c.release_batches.ensures.calls
