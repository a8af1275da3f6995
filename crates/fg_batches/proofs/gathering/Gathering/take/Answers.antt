use Rattle.std.proofs.Common.{sym, subst}
use Rattle.fg_engine.proofs.Standing.{IsOfNone}
use Rattle.fg_flows.specs.Flows.{IsPortOf}
use Rattle.fg_batches.proofs.Gathered.{kept_added, kept_other}
use Rattle.fg_batches.proofs.gathering.Gathering.take.Goals as goal

pub returns-in-Some-clause-keeps : goal.returns-in-Some-clause-keeps
returns-in-Some-clause-keeps c = λ records batch r h on at same.
    kept_added c.one_flow_has_a_port.ensures c.args.plan.now c.requires.fits.table c.args.datagram.now records batch c.args.self.now c.add.new.self r
    (record { flow = c.in-Some.flow; kind = c.in-Some.kind; time = c.args.time })
    h c.requires.none c.add.ensures
    (subst (λ port. IsPortOf c.args.plan.now.table port c.in-Some.flow c.in-Some.kind) (sym on) c.in-Some.ensures.found) at same

pub returns-in-None-clause-keeps : goal.returns-in-None-clause-keeps
returns-in-None-clause-keeps c = λ records batch r h on at same.
    kept_other c.args.plan.now c.args.datagram.now records batch c.args.self.now r h c.requires.none
    (subst (IsOfNone c.args.plan.now.table) (sym on) c.in-None.ensures.none)
