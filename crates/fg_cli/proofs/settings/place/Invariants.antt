use Rattle.std.proofs.Common.{◌≡◌, [], take}
use Rattle.fg_cli.specs.Lines.{values_of}
use Rattle.fg_cli.proofs.settings.place.Given as goal

abbrev pub invariant-loop-i : goal.invariant-loop-i
invariant-loop-i l = values_of l.key (take l.i l.settings) ≡ []
