use Rattle.std.proofs.Common.{[], ◌∷◌}
use Rattle.fg_crew_tests.proofs.turn.waking.all_are_woken.Given as goal

-- the entry is the first count
abbrev pub ghosts-leave_owner : goal.ghosts-leave_owner
ghosts-leave_owner g a = record { entries = (a.state.a ∷ []) ∷ [] }
