use Rattle.fg_encode.proofs.SizeLemmas.{records_fit}
use Rattle.fg_encode.proofs.laws.records_fit.Goals as goal

pub returns : goal.returns
returns c = records_fit
