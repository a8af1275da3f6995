use Rattle.std.proofs.Common.{◌≡◌, length}
use Rattle.fg_desk.proofs.tray.Tray.new.Given as goal

abbrev pub invariant-loop : goal.invariant-loop
invariant-loop l = length l.places.items ≡ l.counter
