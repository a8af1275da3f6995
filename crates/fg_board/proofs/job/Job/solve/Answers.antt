use Rattle.std.proofs.Common.{subst, rules}
use Rattle.fg_board.specs.Actors.{WasTold}
use Rattle.fg_board.proofs.Bringing.{job_worked_by}
use Rattle.fg_board.proofs.job.Job.solve.Goals as goal

pub returns-clause-word : goal.returns-clause-word
returns-clause-word c = search rules

pub returns-clause-worked : goal.returns-clause-worked
returns-clause-worked c =
    job_worked_by c.args.self.now (subst WasTold c.self.view_is c.self.invariant) c.of_payload.result (returns-clause-word c)
