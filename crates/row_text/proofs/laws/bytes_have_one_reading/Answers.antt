use Rattle.row_text.proofs.OneReadingLemmas.{no-bad-row, one-bad-row, one-table}
use Rattle.row_text.proofs.laws.bytes_have_one_reading.Goals as goal

pub returns : goal.returns
returns c = record { one_table = one-table; one_bad_row = one-bad-row; never_both = no-bad-row }
