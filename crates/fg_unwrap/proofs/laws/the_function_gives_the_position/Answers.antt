use Rattle.fg_unwrap.proofs.PositionLemmas.{position_of-some, position_of-none}
use Rattle.fg_unwrap.proofs.laws.the_function_gives_the_position.Goals as goal

pub returns-clause-gives : goal.returns-clause-gives
returns-clause-gives c = position_of-some

pub returns-clause-below_zero : goal.returns-clause-below_zero
returns-clause-below_zero c = position_of-none
