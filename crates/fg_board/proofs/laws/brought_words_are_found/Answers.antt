use Rattle.fg_board.proofs.Later as later
use Rattle.fg_board.proofs.laws.brought_words_are_found.Goals as goal

pub returns : goal.returns
returns c = later.brought_words_are_found c.words_of_equations_are_found.ensures c.codes_are_read_back.ensures.told
