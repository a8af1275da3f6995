use Rattle.fg_engine.proofs.Windows.{counts_kept}
use Rattle.fg_engine.proofs.alone.DeskWindowState.flush_step.Goals as goal

pub returns-clause-count : goal.returns-clause-count
returns-clause-count c = counts_kept c.flush_step_in_place.new.self c.flush_step_in_place.result
