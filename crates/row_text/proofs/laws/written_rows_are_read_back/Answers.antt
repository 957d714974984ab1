use Rattle.row_text.proofs.AgainLemmas.{read-written, written-read}
use Rattle.row_text.proofs.laws.written_rows_are_read_back.Goals as goal

pub returns : goal.returns
returns c = record { same = written-read; readable = read-written }
