use Rattle.fg_core.proofs.Growing.{words_of_equations_are_found}
use Rattle.fg_core.proofs.laws.words_of_equations_are_found.Goals as goal

pub returns : goal.returns
returns c = words_of_equations_are_found
