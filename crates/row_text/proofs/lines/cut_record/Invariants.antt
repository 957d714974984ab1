-- No record has ended so far.
use Rattle.row_text.proofs.LineLemmas.{IsScanned}
use Rattle.row_text.proofs.lines.cut_record.Given as goal

abbrev pub invariant-bytes : goal.invariant-bytes
invariant-bytes l = IsScanned l.text l.ends.items l.i
