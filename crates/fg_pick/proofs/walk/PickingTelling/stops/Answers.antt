use Rattle.fg_pick.proofs.Walking.{gained_none, none_is_part, so_far}
use Rattle.fg_pick.proofs.walk.PickingTelling.stops.Goals as goal

pub returns-clause-nothing : goal.returns-clause-nothing
returns-clause-nothing c = λ new place written. gained_none c.picked_exist.ensures c.args.self.now.selection.now place written

pub returns-clause-none : goal.returns-clause-none
returns-clause-none c = λ new records written. none_is_part c.args.self.now.selection.now records written

pub returns-clause-told : goal.returns-clause-told
returns-clause-told c = λ records later before after h.
    so_far c.one_picked.ensures.one c.one_picked.ensures.join c.picked_exist.ensures c.args.self.now.selection.now records c.args.self.now.held before after h.has_sent later
