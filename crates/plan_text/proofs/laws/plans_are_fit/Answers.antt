use Rattle.plan_text.proofs.FitLemmas.{plan-fit}
use Rattle.plan_text.proofs.laws.plans_are_fit.Goals as goal

pub returns : goal.returns
returns c = λ bytes plan is. plan-fit is.document plan is.reading
