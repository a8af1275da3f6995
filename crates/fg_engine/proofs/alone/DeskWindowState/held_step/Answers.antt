use Rattle.fg_engine.proofs.Windows.{counts_kept}
use Rattle.fg_engine.proofs.alone.DeskWindowState.held_step.Goals as goal

pub returns-clause-count : goal.returns-clause-count
returns-clause-count c = counts_kept c.held_step_in_place.new.self c.held_step_in_place.result
