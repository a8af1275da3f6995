use Rattle.std.proofs.Common.{◌≡◌}
use Rattle.fg_board_tests.proofs.tests.threads.board_is_fed.Given as goal

abbrev pub invariant-loop-datagram : goal.invariant-loop-datagram
invariant-loop-datagram g l = (l.admitter.seat.turn ≡ l.fn.admitter.seat.turn) × (l.admitter.playout.window ≡ l.fn.admitter.playout.window)
