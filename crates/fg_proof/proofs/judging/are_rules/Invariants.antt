use Rattle.std.specs.List.{AllWithin}
use Rattle.fg_proof.specs.Judgement.{IsRule}
use Rattle.fg_proof.proofs.judging.are_rules.Given as goal

-- those that were looked at are
abbrev pub invariant-loop-i : goal.invariant-loop-i
invariant-loop-i l = AllWithin IsRule l.lines 0 l.i
