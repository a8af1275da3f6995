use Rattle.fg_playout.proofs.EmptyWindows.{empty_windows_keep, empty_windows_are_due, empty_windows_are_flushed, empty_windows_are_held}
use Rattle.fg_playout.proofs.laws.empty_windows.Goals as goal

pub returns-clause-facts : goal.returns-clause-facts
returns-clause-facts c = empty_windows_keep

pub returns-clause-due : goal.returns-clause-due
returns-clause-due c = empty_windows_are_due

pub returns-clause-flushed : goal.returns-clause-flushed
returns-clause-flushed c = empty_windows_are_flushed c.peelings_are_told.ensures

pub returns-clause-held : goal.returns-clause-held
returns-clause-held c = empty_windows_are_held
