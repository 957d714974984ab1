-- An event can be taken exactly where its claim and its row are in the phase that the event table asks for.
use Rattle.std.proofs.Common.{◌≡◌, Option, Some, None, arith, refl}
use Rattle.std.proofs.lemmas.Grind.{common_steps}
use Rattle.acct_core.specs.declared.row.Row.{Row}
use Rattle.acct_core.specs.Claims.{Claim}
use Rattle.acct_core.specs.declared.event.Event.{Event}
use Rattle.acct_core.specs.Effects.{Effect, effect_of}
use Rattle.acct_core.specs.State.{IsInPhase, IsOfClaim}

-- where there is an effect, the event is in phase
pub effect_in_phase : (c : Claim) (r : Row) (event : Event) (u : Effect) → effect_of event c r ≡ Some u → IsInPhase event c r
effect_in_phase c r event u e = grind (arith, common_steps)

-- where there is none, it isn't
pub no_effect_no_phase : (c : Claim) (r : Row) (event : Event) → IsOfClaim event → effect_of event c r ≡ None → IsInPhase event c r → ⊥
no_effect_no_phase c r event o e h = grind (arith, common_steps)

-- and where the event is in phase, there is an effect
pub phase_has_effect : (c : Claim) (r : Row) (event : Event) → IsOfClaim event → IsInPhase event c r →
    (u : Effect) × (effect_of event c r ≡ Some u)
phase_has_effect c r event o h = some_effect (effect_of event c r) (λ e. no_effect_no_phase c r event o e h)
  where
    some_effect : (x : Option Effect) → (x ≡ None → ⊥) → (u : Effect) × (x ≡ Some u)
    some_effect None h = absurd (h refl)
    some_effect (Some u) h = (u, refl)
