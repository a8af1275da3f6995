use Rattle.fg_closure.proofs.Readings.{AreBeside}
use Rattle.fg_closure.proofs.reading.read_found.Given as goal

abbrev pub invariant-loop-k : goal.invariant-loop-k
invariant-loop-k l = AreBeside l.desk.state l.first l.initial.flags l.flags
