-- The first of the names tells that those that it has bound are names.
use Rattle.leak_report.proofs.PrintableLemmas.{are_names-more}
use Rattle.leak_report.proofs.report.+are_names.Goals as goal

pub returns : goal.returns
returns t c = are_names-more _ c.first-item.result c.first-item.is c.in-len1-up.len_at_least c.name_of-root.ensures.well_formed c.are_names.ensures
