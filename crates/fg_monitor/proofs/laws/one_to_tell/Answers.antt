use Rattle.fg_monitor.proofs.Later.{later_changes_nothing, one_to_tell}
use Rattle.fg_monitor.proofs.laws.one_to_tell.Goals as goal

pub returns-clause-one : goal.returns-clause-one
returns-clause-one c = one_to_tell

pub returns-clause-later : goal.returns-clause-later
returns-clause-later c = later_changes_nothing
