use Rattle.std.proofs.Common.{ℕ, ◌-◌, ◌<◌, ◌≤◌, length}
use Rattle.acct_words.specs.Rows.{node}
use Rattle.acct_words.proofs.opening.come_after_parents.Given as goal

abbrev pub invariant-loop-number : goal.invariant-loop-number
invariant-loop-number l = record {
  seen : (n : ℕ) → 1 ≤ n → n < l.number → (node l.nodes n).parent.0 < n;
  some : 1 ≤ l.number;
}

abbrev pub decreases-loop-number : goal.decreases-loop-number
decreases-loop-number l = length l.nodes - l.number
