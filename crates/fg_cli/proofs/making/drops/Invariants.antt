use Rattle.std.proofs.Common.{◌≡◌, take}
use Rattle.fg_cli.specs.declared.grammar.Key.TheVariants as key
use Rattle.fg_cli.specs.Lines.{values_of}
use Rattle.fg_cli.proofs.making.drops.Given as goal

abbrev pub invariant-loop-setting : goal.invariant-loop-setting
invariant-loop-setting l = l.drops ≡ values_of key.Drop (take l.setting-index l.settings)
