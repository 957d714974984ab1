use Rattle.std.proofs.Common.{arith}
use Rattle.acct_words.proofs.FillLemmas.{filled_none}
use Rattle.acct_words.proofs.opening.opening_words.Goals as goal

pub loop-level-init : goal.loop-level-init
loop-level-init c = record {
  filled = filled_none c.args.nodes.now c.in-Ok.words.items (c.in-Ok.ensures.items_if_clones_equal (λ y e. e));
  inside = omega arith;
}
