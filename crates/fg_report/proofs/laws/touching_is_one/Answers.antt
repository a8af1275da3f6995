use Rattle.fg_report.proofs.GapLemmas.{touching}
use Rattle.fg_report.proofs.laws.touching_is_one.Goals as goal

pub returns : goal.returns
returns c = touching
