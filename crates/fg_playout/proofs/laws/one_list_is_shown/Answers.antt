use Rattle.fg_playout.proofs.OneOutcome.{plays_show_one_list, flush_steps_show_one_list}
use Rattle.fg_playout.proofs.Held.{held_steps_show_one_list}
use Rattle.fg_playout.proofs.laws.one_list_is_shown.Goals as goal

pub returns-clause-play : goal.returns-clause-play
returns-clause-play c = plays_show_one_list c.uniqueness.ensures

pub returns-clause-flush : goal.returns-clause-flush
returns-clause-flush c = flush_steps_show_one_list c.uniqueness.ensures

pub returns-clause-held : goal.returns-clause-held
returns-clause-held c = held_steps_show_one_list c.uniqueness.ensures
