use Rattle.fg_pick.proofs.Picking.{one_picked, picked_join}
use Rattle.fg_pick.proofs.laws.one_picked.Goals as goal

pub returns-clause-one : goal.returns-clause-one
returns-clause-one c = one_picked

pub returns-clause-join : goal.returns-clause-join
returns-clause-join c = picked_join
