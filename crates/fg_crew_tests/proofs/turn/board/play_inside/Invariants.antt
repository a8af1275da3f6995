use Rattle.fg_crew_tests.specs.Board.{told_of_look}
use Rattle.fg_crew_tests.proofs.turn.board.play_inside.Given as goal

-- the mark that was found is the entry
abbrev pub ghosts-leave_owner : goal.ghosts-leave_owner
ghosts-leave_owner g a = record { entries = told_of_look a.owner.now.entered }
