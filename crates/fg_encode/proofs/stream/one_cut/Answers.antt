use Rattle.fg_encode.proofs.CutLemmas.{one_cut}
use Rattle.fg_encode.proofs.stream.one_cut.Goals as goal

pub returns : goal.returns
returns c = one_cut
