use Rattle.fg_results.proofs.GapsTold as told
use Rattle.fg_results.proofs.laws.one_list_of_gaps.Goals as goal

pub returns-clause-told : goal.returns-clause-told
returns-clause-told c = told.gaps_are_told

pub returns-clause-one : goal.returns-clause-one
returns-clause-one c = told.one_list_of_gaps c.one_list_of_runs.ensures
