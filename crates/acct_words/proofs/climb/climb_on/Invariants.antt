use Rattle.std.proofs.Common.{◌≡◌, length}
use Rattle.acct_words.specs.Climbs.{GoesOn, IsGoing, IsInTree, levels_left}
use Rattle.acct_words.proofs.climb.climb_on.Given as goal

abbrev pub invariant-loop-next : goal.invariant-loop-next
invariant-loop-next l = record {
  table : (l.token.table_id ≡ l.fn.token.table_id) × (l.token.me.1 ≡ l.fn.token.me.1);
  start : l.token.me.0.start ≡ l.fn.token.me.0.start;
  inside : IsInTree (length l.words.key.nodes.items) l.next;
  going : IsGoing l.at l.forced l.token.me.0 l.full l.next;
  went : GoesOn l.at l.forced l.fn.token.me.0 l.token.me.0 l.fn.full l.full l.fn.next l.next;
}

abbrev pub decreases-loop-next : goal.decreases-loop-next
decreases-loop-next l = levels_left l.next
