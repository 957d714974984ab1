-- A storing, and then what is given back.
use Rattle.operators.proofs.InsteadLemmas.{stored-instead}
use Rattle.operators.proofs.storing_instead.store_instead.Goals as goal

pub returns-clause-calls : goal.returns-clause-calls
returns-clause-calls g c =
    stored-instead g.M.Memory.model c.args.at _ _ _ c.args.token.now c.store_rows-stored.new.token c.release_batch.new.token
    c.store_rows-stored.ensures.calls c.release_batch.ensures.calls
