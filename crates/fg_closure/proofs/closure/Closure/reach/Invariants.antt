use Rattle.fg_closure.proofs.Findings.{IsReach}
use Rattle.fg_closure.proofs.closure.Closure.reach.Given as goal

abbrev pub invariant-loop-place : goal.invariant-loop-place
invariant-loop-place l = IsReach l.self l.count l.place l.end
