use Rattle.std.proofs.Common.{◌≡◌, map, take}
use Rattle.fg_closure.specs.Flags.{rule_at}
use Rattle.fg_closure.proofs.ordering.rules_from.Given as goal

abbrev pub invariant-loop-line : goal.invariant-loop-line
invariant-loop-line l = l.rules ≡ map rule_at (take l.line-index l.lines)
