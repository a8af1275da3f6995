use Rattle.std.proofs.Common.{[], ◌∷◌}
use Rattle.fg_crew_tests.proofs.turn.stock.open.Given as goal

abbrev pub ghosts-new : goal.ghosts-new
ghosts-new a = record { entries = a.state.items.items ∷ [] }
