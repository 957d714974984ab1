use Rattle.std.proofs.Common.{sym, ◌∙◌}
use Rattle.std.proofs.lemmas.Bool.{eq-eqb, eqb-true, false≢true}
use Rattle.row_text.proofs.LineLemmas.{unmarked, unmarked-empty}
use Rattle.row_text.proofs.lines.may_be_marked.Goals as goal

pub returns : goal.returns
returns c = λ e. unmarked c.args.bytes.now (λ is. false≢true (sym e ∙ eq-eqb _ _ is))

pub returns-then-is_empty : goal.returns-then-is_empty
returns-then-is_empty c = λ _. unmarked-empty c.args.bytes.now (eqb-true _ _ (sym c.is_empty.ensures ∙ c.if-is_empty.true))
