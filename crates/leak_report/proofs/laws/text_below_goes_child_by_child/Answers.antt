use Rattle.leak_report.proofs.TextLemmas.{text_below-children}
use Rattle.leak_report.proofs.laws.text_below_goes_child_by_child.Goals as goal

pub returns : goal.returns
returns c = text_below-children
