use Rattle.std.proofs.Common.{[], ◌∷◌}
use Rattle.fg_crew_tests.proofs.turn.pair.raise_a.Given as goal

-- the entry is the first count, and the second is told
abbrev pub ghosts-leave_owner : goal.ghosts-leave_owner
ghosts-leave_owner g a = record { entries = (a.state.a ∷ []) ∷ (a.state.b ∷ []) ∷ [] }
