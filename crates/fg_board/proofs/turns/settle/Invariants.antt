use Rattle.fg_board.specs.Deeds.{event_of, told_by}
use Rattle.fg_board.proofs.turns.settle.Given as goal

-- what the deed tells is told
abbrev pub ghosts-tell : goal.ghosts-tell
ghosts-tell a = record { entries = told_by a.flow (event_of a.deed) }
