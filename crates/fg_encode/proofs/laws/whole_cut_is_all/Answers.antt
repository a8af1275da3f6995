use Rattle.fg_encode.proofs.StreamPayloadLemmas.{whole_cut_is_all}
use Rattle.fg_encode.proofs.laws.whole_cut_is_all.Goals as goal

pub returns : goal.returns
returns c = whole_cut_is_all
