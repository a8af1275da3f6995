use Rattle.fg_playout.proofs.PlayedOn.{plays_are_the_runs, desks_make_the_plays, one_list_of_desks}
use Rattle.fg_playout.proofs.laws.one_list_of_desks.Goals as goal

pub returns-clause-plays : goal.returns-clause-plays
returns-clause-plays c = plays_are_the_runs

pub returns-clause-desks : goal.returns-clause-desks
returns-clause-desks c = desks_make_the_plays

pub returns-clause-one : goal.returns-clause-one
returns-clause-one c = one_list_of_desks c.uniqueness.ensures
