use Rattle.acct_core.proofs.OrderLemmas.{permuted_lawful, permuted_fixed}
use Rattle.acct_core.proofs.laws.order_of_claims_does_not_matter.Goals as goal

pub returns-clause-law : goal.returns-clause-law
returns-clause-law c = permuted_lawful

pub returns-clause-fixed : goal.returns-clause-fixed
returns-clause-fixed c = permuted_fixed
