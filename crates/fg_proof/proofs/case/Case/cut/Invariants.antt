use Rattle.fg_proof.proofs.Cutting.{IsEnd}
use Rattle.fg_proof.proofs.case.Case.cut.Given as goal

abbrev pub invariant-loop-i : goal.invariant-loop-i
invariant-loop-i l = IsEnd l.self.mark l.count l.self.lines l.i l.end
