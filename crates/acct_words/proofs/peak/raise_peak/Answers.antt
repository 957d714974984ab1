use Rattle.acct_words.proofs.ClimbLemmas.{peak_raised, peak_still, peak_not_due}
use Rattle.acct_words.proofs.peak.raise_peak.Goals as goal

pub returns-then-read_peak-to-clause-view : goal.returns-then-read_peak-to-clause-view
returns-then-read_peak-to-clause-view c = let r = c.raise.ensures.view in
    peak_raised c.args.level c.args.to c.read_peak.result r.0 c.args.due _ _ _ c.if-due.true c.read_peak.ensures.view r.1

pub returns-else-read_peak-to-clause-view : goal.returns-else-read_peak-to-clause-view
returns-else-read_peak-to-clause-view c =
    peak_still c.args.level c.args.to c.read_peak.result c.args.due _ _ c.if-due.true c.read_peak.ensures.view c.if-read_peak-to.false

pub returns-else-due-clause-view : goal.returns-else-due-clause-view
returns-else-due-clause-view c = peak_not_due c.args.level c.args.to c.args.due _ c.if-due.false
