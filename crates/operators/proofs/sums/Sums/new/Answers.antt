-- No sums.
use Rattle.std.proofs.Common.{◌∙◌}
use Rattle.query_model.specs.declared.cell.Cell.TheVariants as cell
use Rattle.row_text.specs.Stored.{numbers}
use Rattle.operators.proofs.AddLemmas.{no-sums}
use Rattle.operators.proofs.sums.Sums.new.Goals as goal

pub returns : goal.returns
returns c = record { value = (λ k. numbers cell.Sum (c.new.ensures.items k) (c.new-2.ensures.items k)) ∙ no-sums }
