use Rattle.std.proofs.Common.{◌≡◌, List, length}
use Rattle.acct_words.specs.Entries.{Entry}
use Rattle.acct_words.specs.Climbs.{IsInTree, levels_left}
use Rattle.acct_words.specs.Falls.{IsReleased}
use Rattle.acct_words.proofs.release.release.Given as goal

abbrev pub invariant-loop-next : goal.invariant-loop-next
invariant-loop-next l = record {
  table : (l.token.table_id ≡ l.fn.token.table_id) × (l.token.me.1 ≡ l.fn.token.me.1);
  released : (entries : List Entry) × IsReleased l.at l.size l.fn.token.me.0 l.token.me.0 entries l.next;
  inside : IsInTree (length l.words.key.nodes.items) l.next;
}

abbrev pub decreases-loop-next : goal.decreases-loop-next
decreases-loop-next l = levels_left l.next
