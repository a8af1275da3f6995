use Rattle.std.proofs.Common.{◌≡◌, ◌<◌, ℕ, get_or}
use Rattle.fg_cli.specs.declared.grammar.Command.TheVariants as command
use Rattle.fg_cli.specs.Grammar.{command_text}
use Rattle.fg_cli.proofs.grammar.Command.named.Given as goal

abbrev pub invariant-loop-command : goal.invariant-loop-command
invariant-loop-command l = (k : ℕ) → k < l.command-index → l.word ≡ command_text (get_or l.command-items k command.Repair) → ⊥
