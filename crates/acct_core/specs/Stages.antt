-- The phase that a stage and its steps stand for.
use Rattle.std.specs.Prelude.{ℕ, ◌+◌, List}
use Rattle.acct_core.specs.declared.level_step.LevelStep.{LevelStep}
use Rattle.acct_core.specs.declared.stage.Stage.{Stage}
use Rattle.acct_core.specs.declared.stage.Stage.TheVariants.{Free, In, Up, Held, Failed, Down, Bounced}
use Rattle.acct_core.specs.Phases.{Phase}

-- a stage with its steps
abbrev pub phase_of : Stage → List LevelStep → Phase
phase_of Free steps = Phase.Free
phase_of In steps = Phase.In
phase_of (Up size next pending forced) steps = Phase.Up size next pending forced steps
phase_of (Held size forced) steps = Phase.Held size forced steps
phase_of (Failed size forced) steps = Phase.Failed size forced steps
phase_of (Down size next pending) steps = Phase.Down size next pending
phase_of Bounced steps = Phase.Bounced

-- how many levels a request may still add to, if each parent has a smaller number
abbrev pub levels_ahead : Stage → ℕ
levels_ahead (Up size next pending forced) = next + 1
levels_ahead _ = 0
