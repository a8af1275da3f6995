use Rattle.fg_drill.proofs.TrueRuns.{TrueRunsAreTrue, true_runs_are_true}
use Rattle.fg_drill.proofs.TrueShown.{runs_are_repaired, runs_show_the_truth, nothing_else}
use Rattle.fg_drill.proofs.laws.true_runs.true_runs_are_repaired.Goals as goal

are_true : goal.After-runs_only_add → TrueRunsAreTrue
are_true c = true_runs_are_true c.runs_are_lawful.ensures

pub returns-clause-repaired : goal.returns-clause-repaired
returns-clause-repaired c = runs_are_repaired (are_true c)

pub returns-clause-truth : goal.returns-clause-truth
returns-clause-truth c = runs_show_the_truth (are_true c) c.runs_only_add.ensures.follow

pub returns-clause-nothing_else : goal.returns-clause-nothing_else
returns-clause-nothing_else c = nothing_else (runs_show_the_truth (are_true c) c.runs_only_add.ensures.follow)
