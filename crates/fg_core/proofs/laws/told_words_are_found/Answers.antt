use Rattle.fg_core.proofs.Growing.{told_words_are_found}
use Rattle.fg_core.proofs.laws.told_words_are_found.Goals as goal

pub returns : goal.returns
returns c = told_words_are_found
