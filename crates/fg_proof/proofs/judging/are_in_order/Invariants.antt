use Rattle.std.proofs.Common.{◌↔◌, drop}
use Rattle.fg_proof.specs.Judgement.{AreInOrder}
use Rattle.fg_proof.proofs.JudgingRuns.{RiseFrom}
use Rattle.fg_proof.proofs.judging.are_in_order.Given as goal

-- the runs are in order exactly if those that are left are, and begin far enough
abbrev pub invariant-loop-i : goal.invariant-loop-i
invariant-loop-i l = AreInOrder l.runs ↔ RiseFrom l.least (drop l.i l.runs)
