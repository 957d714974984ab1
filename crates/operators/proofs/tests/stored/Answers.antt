-- A listed token pays for a few columns.
use Rattle.std.proofs.Common.{◌≤◌, length, rules}
use Rattle.operators.proofs.ListedLemmas.{listed-pays}
use Rattle.operators.proofs.tests.stored.Goals as goal

pub scan-requires-clause-budget : goal.scan-requires-clause-budget
scan-requires-clause-budget g c =
    let few : length c.args.rows.now.kinds ≤ 8 = search rules in
    listed-pays c.push.new.self.items _ c.args.rows.now.kinds c.args.rows.now.rows few
