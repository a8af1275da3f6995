use Rattle.std.proofs.Common.{◌≡◌, take}
use Rattle.fg_cli.specs.Lines.{values_of}
use Rattle.fg_cli.proofs.making.ports.Given as goal

abbrev pub invariant-loop-setting : goal.invariant-loop-setting
invariant-loop-setting l = l.ports ≡ values_of l.key (take l.setting-index l.settings)
