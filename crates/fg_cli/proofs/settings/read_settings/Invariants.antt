use Rattle.std.proofs.Common.{map, string_bytes, take}
use Rattle.fg_cli.specs.Lines.{IsLine}
use Rattle.fg_cli.proofs.settings.read_settings.Given as goal

abbrev pub invariant-loop-i : goal.invariant-loop-i
invariant-loop-i l = IsLine (take l.i (map string_bytes l.words)) l.command l.settings.items
