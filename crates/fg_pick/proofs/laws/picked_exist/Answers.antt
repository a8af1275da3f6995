use Rattle.fg_pick.proofs.Picking.{picked_exist}
use Rattle.fg_pick.proofs.laws.picked_exist.Goals as goal

pub returns : goal.returns
returns c = picked_exist c.fitting_is_decided.ensures
