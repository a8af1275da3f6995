use Rattle.fg_board.proofs.Later.{turns_are_of_the_core}
use Rattle.fg_board.proofs.laws.turns_are_of_the_core.Goals as goal

pub returns : goal.returns
returns c = turns_are_of_the_core c.codes_are_read_back.ensures.told
