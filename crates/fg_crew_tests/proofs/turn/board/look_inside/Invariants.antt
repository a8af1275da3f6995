use Rattle.fg_crew_tests.specs.Board.{told_of_look}
use Rattle.fg_crew_tests.proofs.turn.board.look_inside.Given as goal

-- the mark that was found is told
abbrev pub ghosts-leave : goal.ghosts-leave
ghosts-leave g a = record { entries = told_of_look a.seat.now.entered }
