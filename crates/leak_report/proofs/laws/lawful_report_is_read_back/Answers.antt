use Rattle.leak_report.proofs.ReadReportLemmas.{read_report-lawful}
use Rattle.leak_report.proofs.laws.lawful_report_is_read_back.Goals as goal

pub returns : goal.returns
returns c = read_report-lawful
