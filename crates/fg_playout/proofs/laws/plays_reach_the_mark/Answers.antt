use Rattle.fg_playout.proofs.Reaching.{plays_reach, due_reach, steps_reach, held_reach}
use Rattle.fg_playout.proofs.laws.plays_reach_the_mark.Goals as goal

pub returns : goal.returns
returns c = search (plays_reach, due_reach, steps_reach, held_reach)
