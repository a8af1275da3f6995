use Rattle.std.proofs.Common.{◌≡◌, ◌++◌, map, take}
use Rattle.fg_proof.specs.Text.{text_of, Rule}
use Rattle.fg_prove.proofs.text.push_rules.Given as goal

abbrev pub invariant-loop-i : goal.invariant-loop-i
invariant-loop-i l = l.text.items ≡ l.fn.text.items ++ text_of (map Rule (take l.i l.rules))
