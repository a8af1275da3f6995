use Rattle.std.proofs.Common.{◌≡◌, map, take}
use Rattle.fg_plain.specs.Datagrams.{shown_word}
use Rattle.fg_plain.proofs.run.copied.Given as goal

abbrev pub invariant-loop-i : goal.invariant-loop-i
invariant-loop-i l = map shown_word l.shown.items ≡ take l.i l.tray.shown
