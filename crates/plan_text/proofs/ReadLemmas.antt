-- Reads that are a part of others.
use Rattle.std.proofs.Common.{◌≡◌, Option, None, Result, Ok, Err, sym, subst}
use Rattle.std.specs.Result.{IsErr, IsErrAnd}
use Rattle.plan_text.specs.Values.{Reads}
use Rattle.plan_text.specs.declared.refused.PlanRefused.{PlanRefused}
use Rattle.plan_text.specs.declared.refused.PlanRefused.TheVariants.{Bad, NoMemory}

-- a part is refused, and what it is a part of for the same cause
part-refused : {A B : Type 0} (part : Option A) (whole : Option B) (e : PlanRefused) → Reads part (Err e)
    → (part ≡ None → whole ≡ None) → Reads whole (Err e)
part-refused part whole Bad refused none = none refused
part-refused part whole NoMemory refused none = tt

pub whole-refused : {A B : Type 0} (part : Option A) (whole : Option B) (e : PlanRefused)
    (r : Result B PlanRefused) → Reads part (Err e) → (part ≡ None → whole ≡ None)
    → IsErr r × IsErrAnd r (λ other. other ≡ e) → Reads whole r
whole-refused part whole e (Ok v) refused none same = absurd same.1
whole-refused part whole e (Err other) refused none same =
    subst (λ t. Reads whole (Err t)) (sym same.1) (part-refused part whole e refused none)
