use Rattle.std.proofs.Common.{◌≡◌, ◌<◌, length}
use Rattle.acct_words.proofs.words.tests.work.Given as goal

abbrev pub invariant-loop : goal.invariant-loop
invariant-loop l = record {
  table : l.pass.table ≡ l.words;
  at : l.at.0 < length l.words.start.tree;
}
