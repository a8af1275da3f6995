use Rattle.fg_unwrap.proofs.PositionLemmas.{has_position, one_position}
use Rattle.fg_unwrap.proofs.laws.each_sequence_number_has_one_position.Goals as goal

pub returns-clause-some : goal.returns-clause-some
returns-clause-some c = has_position

pub returns-clause-one : goal.returns-clause-one
returns-clause-one c = one_position
