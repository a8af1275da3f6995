use Rattle.std.proofs.Common.{subst}
use Rattle.fg_board.specs.Actors.{WasTold}
use Rattle.fg_board.proofs.job.Job.key.Goals as goal

pub returns-clause-told : goal.returns-clause-told
returns-clause-told c = subst WasTold c.self.view_is c.self.invariant
