-- A listed token pays for a few columns.
use Rattle.std.proofs.Common.{◌≤◌, length, rules}
use Rattle.query_model.specs.Filter.{meeting}
use Rattle.operators.proofs.ListedLemmas.{listed-pays}
use Rattle.operators.proofs.tests.sifted.Goals as goal

pub filter-requires-clause-budget : goal.filter-requires-clause-budget
filter-requires-clause-budget g c =
    let few : length c.args.batch.kinds ≤ 8 = search rules in
    listed-pays c.push.new.self.items _ c.args.batch.kinds (meeting c.args.tests.now c.args.batch.rows) few
