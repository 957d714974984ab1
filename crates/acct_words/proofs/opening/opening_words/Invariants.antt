use Rattle.std.proofs.Common.{◌≤◌, length}
use Rattle.acct_words.specs.Openings.{AreFilledFrom}
use Rattle.acct_words.proofs.opening.opening_words.Given as goal

abbrev pub invariant-loop-level : goal.invariant-loop-level
invariant-loop-level l = record {
  filled : AreFilledFrom l.nodes l.level l.words.items;
  inside : l.level ≤ length l.nodes;
}

abbrev pub decreases-loop-level : goal.decreases-loop-level
decreases-loop-level l = l.level
