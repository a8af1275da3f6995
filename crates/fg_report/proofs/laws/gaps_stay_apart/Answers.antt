use Rattle.fg_report.proofs.GapLemmas.{apart_with}
use Rattle.fg_report.proofs.laws.gaps_stay_apart.Goals as goal

pub returns : goal.returns
returns c = apart_with
