use Rattle.std.proofs.Common.{ap}
use Rattle.mem_model.specs.Calls.{ToRetain, ToTransfer, ToRelease, answered}
use Rattle.mem_model.specs.PlannedCalls.{reference_at}
use Rattle.mem_model.proofs.PlannedLemmas.{retain-none, transfer-none, release-none, past-the-last}
use Rattle.mem_model.proofs.planned_calls.a_place_without_a_chunk_changes_nothing.Goals as goal

pub returns-clause-none : goal.returns-clause-none
returns-clause-none c = past-the-last

pub returns-clause-retain : goal.returns-clause-retain
returns-clause-retain c state answers place target h none = ap (answered ToRetain) (retain-none state (reference_at answers place) target h none)

pub returns-clause-transfer : goal.returns-clause-transfer
returns-clause-transfer c state answers place target h none = ap (answered ToTransfer) (transfer-none state (reference_at answers place) target h none)

pub returns-clause-release : goal.returns-clause-release
returns-clause-release c state answers place h none = ap (answered ToRelease) (release-none state (reference_at answers place) h none)
