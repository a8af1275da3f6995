use Rattle.fg_check.proofs.Accepted as proofs
use Rattle.fg_check.proofs.laws.proved_texts_are_accepted.Goals as goal

pub returns : goal.returns
returns c = proofs.proved_texts_are_accepted c.one_check.ensures c.one_text.ensures.answers c.one_told.ensures
