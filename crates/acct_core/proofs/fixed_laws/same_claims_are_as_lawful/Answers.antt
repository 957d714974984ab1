use Rattle.acct_core.proofs.SameClaimsLemmas.{same_lawful, same_fixed}
use Rattle.acct_core.proofs.fixed_laws.same_claims_are_as_lawful.Goals as goal

pub returns-clause-law : goal.returns-clause-law
returns-clause-law c = same_lawful

pub returns-clause-fixed : goal.returns-clause-fixed
returns-clause-fixed c = same_fixed
