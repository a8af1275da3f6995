use Rattle.std.proofs.Common.{◌∙◌, Ok, Err, ap, subst, refl, List, ℕ, Option}
use Rattle.fg_report.specs.declared.tail.Tail.TheVariants as tail
use Rattle.fg_trace.specs.Reader.{Answer, Walks}
use Rattle.fg_trace.specs.Trace.{Ended, Cut, TooLong}
use Rattle.fg_io.specs.Outlet.{Lanes}
use Rattle.fg_io.specs.declared.fault.Fault.{Fault}
use Rattle.fg_trace.specs.Finish.{finish_after}
use Rattle.fg_results.specs.Stops.{ByRecord}
use Rattle.fg_results.proofs.CountLemmas.{read_only}
use Rattle.fg_engine.specs.Engine.{HasWalked, LanesStop, StandsAtFault}
use Rattle.fg_engine.proofs.Results.{passed_on}
use Rattle.fg_engine.proofs.Walking.{running, stands_at_read, stop_at_record, stop_at_fault, took_all}
use Rattle.fg_engine.proofs.engine.Engine.take_next.Goals as goal

pub take-requires-clause-running : goal.take-requires-clause-running
take-requires-clause-running g c =
    let first = c.requires.underway.0 in
    let before = c.requires.underway.1 in
    running c.args.plan.now c.requires.fits first _ c.args.reader.now c.args.self.now before _ c.requires.max c.requires.underway.2

pub returns-in_err-take-in-Ok-Datagram-clause-stops : goal.returns-in_err-take-in-Ok-Datagram-clause-stops
returns-in_err-take-in-Ok-Datagram-clause-stops g c =
    passed_on (λ (fault : Fault). (first : Option (List ℕ)) (before : Option Lanes) → HasWalked c.args.plan.now first (g.S.Source.left c.args.input.now) c.args.reader.now c.args.self.now before (g.O.Outlet.lanes c.args.lanes.now)
    → LanesStop ByRecord c.args.plan.now (finish_after fault) first before (g.O.Outlet.lanes c.take.new.lanes))
    c.from_residual.result c.in_err-take-in-Ok-Datagram.field-0.0 c.from_residual.ensures.1
    (λ first before h.
    stop_at_record c.walks_the_front.ensures c.args.plan.now (finish_after c.in_err-take-in-Ok-Datagram.field-0.0)
    (λ read. c.in_err-take-in-Ok-Datagram.ensures.faults.read (read_only c.in_err-take-in-Ok-Datagram.field-0.0 read))
    first _ _ c.args.reader.now c.next.new.self c.args.self.now before _ _ c.next.result c.in-Ok-Datagram.time c.in-Ok-Datagram.port c.in-Ok-Datagram.field-0-2 c.payload.result.now
    (c.next.ensures.max ∙ c.requires.max) (c.in-Ok-Datagram.is ∙ ap Ok c.in-Ok-Datagram.field-0-is) c.payload.ensures (c.next.ensures.walks first) (c.in_err-take-in-Ok-Datagram.ensures.breaks before) h)

pub returns-in-Ok-End-clause-ends : goal.returns-in-Ok-End-clause-ends
returns-in-Ok-End-clause-ends g c = λ first before h.
    took_all c.args.plan.now c.requires.fits first _ _ c.args.reader.now c.next.new.self c.args.self.now before _ Ended _ (c.next.ensures.max ∙ c.requires.max) refl
    (λ records k. subst (λ (a : Answer). Walks a c.next.new.self first (g.S.Source.left c.next.new.from) records) (c.in-Ok-End.is ∙ ap Ok c.in-Ok-End.field-0-is) (c.next.ensures.walks first records k)) h

pub returns-in-Err-Cut-clause-ends : goal.returns-in-Err-Cut-clause-ends
returns-in-Err-Cut-clause-ends g c = λ first before h.
    took_all c.args.plan.now c.requires.fits first _ _ c.args.reader.now c.next.new.self c.args.self.now before _ (Cut c.in-Err-Cut.place) _ (c.next.ensures.max ∙ c.requires.max) (ap tail.Cut c.in-Err-Cut.place-is)
    (λ records k. subst (λ (a : Answer). Walks a c.next.new.self first (g.S.Source.left c.next.new.from) records) (c.in-Err-Cut.is ∙ ap Err c.in-Err-Cut.field-0-is) (c.next.ensures.walks first records k)) h

pub returns-in-Err-TooLong-clause-ends : goal.returns-in-Err-TooLong-clause-ends
returns-in-Err-TooLong-clause-ends g c = λ first before h.
    took_all c.args.plan.now c.requires.fits first _ _ c.args.reader.now c.next.new.self c.args.self.now before _ (TooLong c.in-Err-TooLong.place) _ (c.next.ensures.max ∙ c.requires.max) (ap tail.TooLong c.in-Err-TooLong.place-is)
    (λ records k. subst (λ (a : Answer). Walks a c.next.new.self first (g.S.Source.left c.next.new.from) records) (c.in-Err-TooLong.is ∙ ap Err c.in-Err-TooLong.field-0-is) (c.next.ensures.walks first records k)) h

pub returns-in-Err-ReadFault-clause-stops : goal.returns-in-Err-ReadFault-clause-stops
returns-in-Err-ReadFault-clause-stops g c = λ first before h.
    stop_at_fault c.walks_the_front.ensures ByRecord c.args.plan.now _ first _ _ c.args.reader.now c.next.new.self c.args.self.now before _ c.in-Err-ReadFault.field-0
    (c.next.ensures.max ∙ c.requires.max) (c.in-Err-ReadFault.ensures.walks first) h

pub returns-in_err-take-in-Ok-Datagram-clause-at_read : goal.returns-in_err-take-in-Ok-Datagram-clause-at_read
returns-in_err-take-in-Ok-Datagram-clause-at_read g c =
    passed_on (λ (fault : Fault). (first : Option (List ℕ)) (before : Option Lanes) → HasWalked c.args.plan.now first (g.S.Source.left c.args.input.now) c.args.reader.now c.args.self.now before (g.O.Outlet.lanes c.args.lanes.now)
    → StandsAtFault c.args.plan.now fault first (g.S.Source.left c.next.new.from) before (g.O.Outlet.lanes c.take.new.lanes))
    c.from_residual.result c.in_err-take-in-Ok-Datagram.field-0.0 c.from_residual.ensures.1
    (λ first before h read. absurd (c.in_err-take-in-Ok-Datagram.ensures.faults.read read))

pub returns-in-Err-ReadFault-clause-at_read : goal.returns-in-Err-ReadFault-clause-at_read
returns-in-Err-ReadFault-clause-at_read g c = λ first before h read.
    stands_at_read c.whole_records_are_answered.ensures.answered c.args.plan.now first _ _ c.args.reader.now c.next.new.self c.args.self.now before _ c.in-Err-ReadFault.field-0
    (c.next.ensures.max ∙ c.requires.max) (c.in-Err-ReadFault.ensures.walks first)
    (c.next.ensures.short (c.in-Err-ReadFault.is ∙ ap Err c.in-Err-ReadFault.field-0-is)) h
