use Rattle.fg_engine.proofs.Standing.{come_none, come_some, breaks_some}
use Rattle.fg_io.proofs.FaultLemmas.{on_err}
use Rattle.fg_engine.proofs.engine.Engine.take.Goals as goal

pub returns-in_err-take-in-Some-clause-breaks : goal.returns-in_err-take-in-Some-clause-breaks
returns-in_err-take-in-Some-clause-breaks g c =
    on_err _ _ (breaks_some c.args.plan.now c.args.self.now c.args.port c.in-Some.i c.in-Some.kind c.in-Some.ensures.found
    c.index_mut.result.now c.index_mut.ensures.value c.args.time c.args.datagram.now _ _ c.in_err-take-in-Some.ensures.breaks)

pub returns-in_ok-take-in-Some-clause-takes : goal.returns-in_ok-take-in-Some-clause-takes
returns-in_ok-take-in-Some-clause-takes g c =
    come_some c.one_flow_has_a_port.ensures c.args.plan.now c.requires.fits.table c.args.self.now c.args.port c.in-Some.i c.in-Some.kind c.in-Some.ensures.found
    c.index_mut.result.now c.take.new.self (record c.args.self.now { writer = c.take.new.player }) c.index_mut.ensures.value
    (record { port = c.take.ensures.port; playout = c.take.ensures.playout })
    c.args.time c.args.datagram.now _ _ c.in_ok-take-in-Some.ensures.takes

pub returns-in-None-clause-takes : goal.returns-in-None-clause-takes
returns-in-None-clause-takes g c =
    λ before records r h e at_time same. come_none c.args.plan.now c.args.self.now c.args.port c.in-None.ensures.none before _ records r h e
