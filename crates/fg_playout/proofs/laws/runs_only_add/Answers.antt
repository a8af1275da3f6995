use Rattle.fg_playout.proofs.Following.{later_changes_nothing, plays_follow}
use Rattle.fg_playout.proofs.laws.runs_only_add.Goals as goal

pub returns-clause-later : goal.returns-clause-later
returns-clause-later c = later_changes_nothing

pub returns-clause-follow : goal.returns-clause-follow
returns-clause-follow c = plays_follow
