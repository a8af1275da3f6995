use Rattle.fg_report.proofs.GapLemmas.{holding}
use Rattle.fg_report.proofs.laws.gaps_hold.Goals as goal

pub returns : goal.returns
returns c = holding
