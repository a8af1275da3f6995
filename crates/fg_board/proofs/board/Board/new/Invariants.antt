use Rattle.std.proofs.Common.{[], ◌∷◌}
use Rattle.fg_core.specs.Codes.{opening_code}
use Rattle.fg_board.proofs.board.Board.new.Given as goal

-- the calls begin with the window, the depth and the hold
abbrev pub ghosts-new : goal.ghosts-new
ghosts-new a = record { entries = opening_code a.state.desk.state.playout ∷ [] }
