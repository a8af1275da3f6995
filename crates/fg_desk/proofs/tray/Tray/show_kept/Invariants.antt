use Rattle.std.proofs.Common.{◌≡◌}
use Rattle.fg_desk.specs.TrayPlaces.{buffer_kept_from}
use Rattle.fg_desk.proofs.tray.Tray.show_kept.Given as goal

abbrev pub invariant-loop-i : goal.invariant-loop-i
invariant-loop-i l =
    l.self ≡ record { window = l.fn.self.window; shown = buffer_kept_from l.buffer l.fn.first l.i }
