use Rattle.std.proofs.Common.{◌+◌, ◌-◌, false, refl}
use Rattle.std.proofs.lemmas.Result.{IfOk-weaker}
use Rattle.fg_playout.specs.State.{State}
use Rattle.fg_runs.specs.Runs.{AreRunsOf}
use Rattle.fg_closure.specs.Found.{IsFoundOf}
use Rattle.fg_closure.specs.Flags.{IsTold}
use Rattle.fg_closure.specs.Holes.{IsHole}
use Rattle.fg_closure.proofs.Findings.{holes_told}
use Rattle.fg_closure.proofs.Running.{runs_same}
use Rattle.fg_closure.proofs.closure.Closure.holes.Goals as goal

pub returns : goal.returns
returns c =
    let closure = c.args.self.now in
    let start = closure.mark - closure.first in
    IfOk-weaker c.runs_of.result (AreRunsOf (IsTold closure.first start (start + c.reach.result) closure.closed.items false))
    (λ runs. (desk : State) → IsFoundOf desk closure → AreRunsOf (IsHole desk c.args.count) runs)
    (λ runs are desk is. runs_same (IsTold closure.first start (start + c.reach.result) closure.closed.items false) (IsHole desk c.args.count) runs
    (holes_told desk closure c.args.count start (start + c.reach.result) c.reach.result is refl refl (c.reach.ensures.looked_at desk is)) are)
    (rw (← c.deref.ensures.value) c.runs_of.ensures)
