-- What is done, and what is left to close.
use Rattle.std.proofs.Common.{◌≡◌, ◌≤◌, ◌+◌, drop}
use Rattle.pipeline.specs.Closing.{closings_done, after_closings}
use Rattle.pipeline.proofs.closing.close_each.Given as goal

-- the closings that are left add to those that are done, and lead to the same state
abbrev pub invariant-loop-at : goal.invariant-loop-at
invariant-loop-at l =
    (l.done ≤ l.at-index)
    × (l.done + closings_done l.tree.state (drop l.at-index l.order) ≡ closings_done l.initial.tree.state l.initial.order)
    × (after_closings l.tree.state (drop l.at-index l.order) ≡ after_closings l.initial.tree.state l.initial.order)
