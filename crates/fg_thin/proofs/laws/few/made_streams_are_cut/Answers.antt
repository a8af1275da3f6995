use Rattle.fg_thin.proofs.MadeLemmas.{made_cut}
use Rattle.fg_thin.proofs.laws.few.made_streams_are_cut.Goals as goal

pub returns : goal.returns
returns c = made_cut
