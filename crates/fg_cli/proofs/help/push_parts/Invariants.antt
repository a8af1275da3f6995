use Rattle.std.proofs.Common.{◌≡◌, ◌++◌, take}
use Rattle.std.specs.List.{flat_map}
use Rattle.fg_cli.specs.Help.{command_part}
use Rattle.fg_cli.proofs.help.push_parts.Given as goal

abbrev pub invariant-loop-command : goal.invariant-loop-command
invariant-loop-command l = l.text.items ≡ l.initial.text.items ++ flat_map command_part (take l.command-index l.commands)
