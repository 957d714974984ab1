use Rattle.script.specs.declared.form.Form.TheVariants.{Trace}
use Rattle.script.proofs.ReportLemmas.{references_kept}
use Rattle.script.proofs.laws.references_of_a_trace_are_those_given.Goals as goal

pub returns : goal.returns
returns c = references_kept Trace
