use Rattle.std.proofs.Common.{[], ◌∷◌}
use Rattle.fg_crew_tests.proofs.turn.pair.raise_b.Given as goal

-- the count that was found is told
abbrev pub ghosts-tell : goal.ghosts-tell
ghosts-tell g a = record { entries = (a.seen ∷ []) ∷ [] }
