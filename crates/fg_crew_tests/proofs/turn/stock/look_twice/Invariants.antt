use Rattle.std.proofs.Common.{[], ◌∷◌}
use Rattle.fg_crew_tests.proofs.turn.stock.look_twice.Given as goal

-- the stock that is left is told
abbrev pub ghosts-leave : goal.ghosts-leave
ghosts-leave g a = record { entries = a.state.items.items ∷ [] }
