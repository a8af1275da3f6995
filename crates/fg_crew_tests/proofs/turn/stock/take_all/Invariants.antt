use Rattle.std.proofs.Common.{[], ◌∷◌}
use Rattle.std.specs.Prelude.{Option, Some, None, List, ℕ}
use Rattle.fg_crew_tests.specs.declared.turn.stock.Stock.{Stock}
use Rattle.fg_crew_tests.proofs.turn.stock.take_all.Given as goal

abbrev items_of : Option Stock → List ℕ
items_of None = []
items_of (Some stock) = stock.items.items

-- the entry is all that was there
abbrev pub ghosts-leave_owner : goal.ghosts-leave_owner
ghosts-leave_owner g a = record { entries = items_of a.owner.now.entered ∷ [] }
