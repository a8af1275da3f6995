use Rattle.std.proofs.Common.{◌≡◌, ◌<◌, ℕ, get_or}
use Rattle.fg_cli.specs.declared.grammar.Key.TheVariants as key
use Rattle.fg_cli.specs.Grammar.{row}
use Rattle.fg_cli.proofs.grammar.Command.key.Given as goal

abbrev pub invariant-loop-key : goal.invariant-loop-key
invariant-loop-key l = (k : ℕ) → k < l.key-index → l.name ≡ (row (get_or l.key-items k key.Flow)).name → ⊥
