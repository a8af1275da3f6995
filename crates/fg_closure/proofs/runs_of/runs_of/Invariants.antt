use Rattle.fg_closure.proofs.Running.{IsRunning}
use Rattle.fg_closure.proofs.runs_of.runs_of.Given as goal

abbrev pub invariant-loop-k : goal.invariant-loop-k
invariant-loop-k l = IsRunning l.first l.fn.start l.k l.flags l.wanted l.runs
