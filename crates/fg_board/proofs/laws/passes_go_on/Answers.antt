use Rattle.fg_board.proofs.Later.{each_is_later, turns_go_on, no_turns_go_on}
use Rattle.fg_board.proofs.laws.passes_go_on.Goals as goal

pub returns-clause-itself : goal.returns-clause-itself
returns-clause-itself c = each_is_later

pub returns-clause-turn : goal.returns-clause-turn
returns-clause-turn c = turns_go_on

pub returns-clause-no_turn : goal.returns-clause-no_turn
returns-clause-no_turn c = no_turns_go_on
