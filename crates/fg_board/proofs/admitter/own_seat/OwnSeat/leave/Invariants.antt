use Rattle.fg_board.specs.Deeds.{call_of, named_by}
use Rattle.fg_board.proofs.admitter.own_seat.OwnSeat.leave.Given as goal

-- the call's entry, and what the call tells
abbrev pub ghosts-tell_owner : goal.ghosts-tell_owner
ghosts-tell_owner a = record { entries = named_by a.flow (call_of a.made) }
