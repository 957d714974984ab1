-- Nothing has changed so far, and the key goes behind the keys that were passed.
use Rattle.std.proofs.Common.{◌≡◌, ◌-◌, ◌++◌, length, take, drop}
use Rattle.query_model.specs.Answer.{with_key}
use Rattle.query_model.proofs.keys.put_key.Given as goal

abbrev pub invariant-loop-place : goal.invariant-loop-place
invariant-loop-place l = record {
  key : l.key ≡ l.initial.key;
  keys : l.keys.items ≡ l.initial.keys.items;
  put : with_key l.key l.keys.items ≡ take l.place l.keys.items ++ with_key l.key (drop l.place l.keys.items);
}

abbrev pub decreases-loop-place : goal.decreases-loop-place
decreases-loop-place l = length l.keys.items - l.place
