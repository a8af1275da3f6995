use Rattle.std.proofs.Common.{◌≡◌, [], take}
use Rattle.std.specs.List.{filter_map}
use Rattle.fg_cli.specs.Lines.{missing_name}
use Rattle.fg_cli.proofs.settings.missing.Given as goal

abbrev pub invariant-loop-key : goal.invariant-loop-key
invariant-loop-key l = filter_map (missing_name l.settings) (take l.key-index l.key-items) ≡ []
