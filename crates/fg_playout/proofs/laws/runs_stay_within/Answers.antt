use Rattle.fg_playout.proofs.RunFacts.{runs_stay_within, flushes_stay_within}
use Rattle.fg_playout.proofs.laws.runs_stay_within.Goals as goal

pub returns-clause-taking : goal.returns-clause-taking
returns-clause-taking c = runs_stay_within

pub returns-clause-flushing : goal.returns-clause-flushing
returns-clause-flushing c = flushes_stay_within
