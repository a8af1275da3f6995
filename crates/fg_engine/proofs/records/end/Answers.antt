use Rattle.std.proofs.Common.{Ok, Err, sym, subst}
use Rattle.fg_trace.specs.declared.step.Finish.{Finish}
use Rattle.fg_results.specs.Contract.{IsRepair}
use Rattle.fg_engine.proofs.Faults.{repair_counts}
use Rattle.fg_engine.proofs.records.end.Goals as goal

pub returns-in-Ok-clause-faults : goal.returns-in-Ok-clause-faults
returns-in-Ok-clause-faults g c = λ growth reads writes h.
    repair_counts growth (Ok c.in-Ok.finish) _ _ c.in-Ok.ensures.ending (c.in-Ok.ensures.faults growth reads writes h)

pub returns-in-Err-clause-repairs : goal.returns-in-Err-clause-repairs
returns-in-Err-clause-repairs g c = λ growth first left before h.
    subst (λ (answer : Finish). IsRepair growth c.args.plan.now answer first left g.O.Outlet.lanes before c.finish.new.lanes g.K.Sink.written c.args.out.now c.finish.new.out)
    (sym c.into.ensures) (c.in-Err.ensures.repairs growth first left before h)

pub returns-in-Err-clause-faults : goal.returns-in-Err-clause-faults
returns-in-Err-clause-faults g c = λ growth reads writes h. rw c.into.ensures
    (repair_counts growth (Err c.in-Err.fault) _ _ tt (c.in-Err.ensures.faults growth reads writes h))
