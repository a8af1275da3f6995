use Rattle.fg_workers.specs.Crewed.{IsCrew}
use Rattle.fg_workers.proofs.opening.open.Given as goal

abbrev pub invariant-loop : goal.invariant-loop
invariant-loop l = IsCrew l.plan l.counter l.crew
