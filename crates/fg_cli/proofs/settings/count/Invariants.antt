use Rattle.std.proofs.Common.{◌≡◌, ◌≤◌, length, take}
use Rattle.fg_cli.specs.Lines.{values_of}
use Rattle.fg_cli.proofs.settings.count.Given as goal

abbrev pub invariant-loop-setting : goal.invariant-loop-setting
invariant-loop-setting l =
    (l.count ≤ l.setting-index) × (l.count ≡ length (values_of l.key (take l.setting-index l.settings)))
