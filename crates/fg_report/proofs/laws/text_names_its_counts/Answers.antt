use Rattle.fg_report.proofs.ReportLemmas.{report_told}
use Rattle.fg_report.proofs.laws.text_names_its_counts.Goals as goal

pub returns : goal.returns
returns c = report_told
