use Rattle.std.proofs.Common.{◌+◌}
use Rattle.acct_words.proofs.ClimbLemmas.{level_ends, reached_read, still_of}
use Rattle.acct_words.proofs.peak.end_level.Goals as goal

pub raise_peak-requires-clause-table : goal.raise_peak-requires-clause-table
raise_peak-requires-clause-table c = still_of _ c.args.token.now c.read_level-limit.new.token c.args.level c.read_level-limit.result.0
    c.read_level-limit.result.1 c.requires.table c.read_level-limit.ensures.table.0 c.requires.known c.read_level-limit.ensures.view

pub raise_peak-requires-clause-reached : goal.raise_peak-requires-clause-reached
raise_peak-requires-clause-reached c = reached_read (c.args.found + c.args.amount) c.args.level c.read_level-limit.result.0
    c.read_level-limit.result.1 _ _ c.requires.reached c.requires.known c.read_level-limit.ensures.view

pub returns-clause-level : goal.returns-clause-level
returns-clause-level c = level_ends c.args.at c.args.level c.args.amount c.args.found c.read_level-limit.result.0
    c.read_level-limit.result.1 c.args.forced c.args.clean c.is_due-due.result _ _ _ _ _ c.read_level-limit.ensures.view
    c.refused_at-refused.ensures c.is_due-due.ensures c.raise_peak.ensures.view c.asked_next.ensures
