use Rattle.fg_proof.proofs.JudgingHoles.{NoneBefore}
use Rattle.fg_proof.proofs.judging.first_alone.Given as goal

abbrev pub invariant-loop-i : goal.invariant-loop-i
invariant-loop-i l = NoneBefore l.case l.i
