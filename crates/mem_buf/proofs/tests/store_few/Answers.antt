-- A listed token pays for three words.
use Rattle.std.proofs.Common.{◌≤◌, length, refl, arith, rules}
use Rattle.mem_buf.specs.Listed.{listed_view}
use Rattle.mem_buf.proofs.StoringLemmas.{can_store_few}
use Rattle.mem_buf.proofs.tests.store_few.Goals as goal

pub store_vecs-requires : goal.store_vecs-requires
store_vecs-requires g c =
    let few : length c.args.words.items ≤ 3 = search rules in
    record {
      budget = can_store_few (λ input. input.items) (listed_view c.args.token.now.pinned.items) _ c.args.words.items refl
          (omega arith) (omega arith);
    }
