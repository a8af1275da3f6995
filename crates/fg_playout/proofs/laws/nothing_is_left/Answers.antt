use Rattle.fg_playout.proofs.NothingLeft.{nothing_ahead_is_known, nothing_is_peeled}
use Rattle.fg_playout.proofs.laws.nothing_is_left.Goals as goal

pub returns-clause-known : goal.returns-clause-known
returns-clause-known c = nothing_ahead_is_known

pub returns-clause-peeled : goal.returns-clause-peeled
returns-clause-peeled c = nothing_is_peeled
