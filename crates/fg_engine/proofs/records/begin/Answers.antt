use Rattle.std.proofs.Common.{◌≡◌, ◌∙◌, [], Err, ap, refl, sym, subst}
use Rattle.fg_io.specs.declared.fault.Fault.TheVariants.{Read, Memory}
use Rattle.fg_trace.specs.declared.step.Finish.{Finish}
use Rattle.fg_trace.specs.declared.step.TraceFault.TheVariants as fault
use Rattle.fg_trace.specs.declared.step.Finish.TheVariants as finish
use Rattle.fg_trace.specs.Finish.{finish_after}
use Rattle.fg_trace.specs.Reader.{ReaderState, Opens}
use Rattle.fg_trace.proofs.Opening.{never_refused}
use Rattle.fg_results.specs.Contract.{IsRepair}
use Rattle.fg_results.proofs.AtRead.{unmade_at_read}
use Rattle.fg_results.proofs.RepairLemmas.{whole_repair}
use Rattle.fg_engine.specs.Engine.{HasRead}
use Rattle.fg_engine.proofs.Reaching.{fault_is, read_for, fault_reached, none_read, fault_read, none_made}
use Rattle.fg_engine.proofs.Finishing.{not_trace, stopped, stopped_first}
use Rattle.fg_engine.proofs.records.begin.Goals as goal

pub returns-in_default-clause-ends : goal.returns-in_default-clause-ends
returns-in_default-clause-ends g c = λ growth.
    let left = g.S.Source.left c.args.input.now in
    stopped_first c.stops_leave_parts.ensures growth c.args.plan.now c.requires.fits (Err Memory) refl left left g.O.Outlet.lanes c.args.lanes.now g.K.Sink.written c.args.out.now
    (c.read_as_far_as_needed.ensures.unread _ finish.Memory _ (fault_is (Err Memory) refl)) (λ read. absurd cc)

pub returns-in-Ok-make_ready-clause-begun : goal.returns-in-Ok-make_ready-clause-begun
returns-in-Ok-make_ready-clause-begun g c =
    let left = g.S.Source.left c.args.input.now in
    c.in-Ok-make_ready.ensures.begun left (g.S.Source.left c.start.new.from) (c.in-Ok-start.ensures.opens left (c.in-Ok.ensures.opening left))

pub returns-in-Ok-start-clause-ends : goal.returns-in-Ok-start-clause-ends
returns-in-Ok-start-clause-ends g c = λ growth.
    let left = g.S.Source.left c.args.input.now in
    let now = g.S.Source.left c.start.new.from in
    let reader = c.start.new.self in
    let fault = c.in-Err.fault in
    let opens = c.in-Ok-start.ensures.opens left (c.in-Ok.ensures.opening left) in
    let read : HasRead c.args.plan.now.max reader left now = record {
      records = [];
      stands = opens;
      bounded = c.start.ensures.bounded;
      limit = c.start.ensures.max ∙ ap (λ (t : ReaderState). t.max) c.in-Ok.ensures.new;
    } in
    subst (λ (answer : Finish). IsRepair growth c.args.plan.now answer left now g.O.Outlet.lanes c.args.lanes.now c.make_ready.new.lanes g.K.Sink.written c.args.out.now c.args.out.now)
    (sym c.into.ensures)
    (stopped c.stops_leave_parts.ensures growth c.args.plan.now c.requires.fits (Err fault) refl left now g.O.Outlet.lanes c.args.lanes.now c.make_ready.new.lanes g.K.Sink.written c.args.out.now
    (read_for c.read_as_far_as_needed.ensures.after _ (finish_after fault) reader left now read (fault_reached (Err fault) reader now refl))
    (never_refused _ left now reader c.args.plan.now.max opens) (c.in-Err.ensures.stops growth left)
    (λ read. absurd (c.in-Err.ensures.faults.read read)))

pub returns-in-Err-NotTrace-clause-ends : goal.returns-in-Err-NotTrace-clause-ends
returns-in-Err-NotTrace-clause-ends g c = λ growth.
    let left = g.S.Source.left c.args.input.now in
    let now = g.S.Source.left c.start.new.from in
    let reader = c.start.new.self in
    let n = c.in-Err-NotTrace.place in
    let max : reader.max ≡ c.args.plan.now.max = c.start.ensures.max ∙ ap (λ (t : ReaderState). t.max) c.in-Ok.ensures.new in
    let is : c.start.result ≡ Err (fault.NotTrace n) = c.in-Err-NotTrace.is ∙ ap Err c.in-Err-NotTrace.field-0-is in
    let opens : Opens (Err (fault.NotTrace n)) reader left now = subst (λ t. Opens t reader left now) is (c.start.ensures.opens left (c.in-Ok.ensures.opening left)) in
    subst (λ m. IsRepair growth c.args.plan.now (finish.NotTrace m) left now g.O.Outlet.lanes c.args.lanes.now c.args.lanes.now g.K.Sink.written c.args.out.now c.args.out.now) (sym c.in-Err-NotTrace.place-is)
    (whole_repair growth c.args.plan.now (finish.NotTrace n) left now g.O.Outlet.lanes c.args.lanes.now c.args.lanes.now g.K.Sink.written c.args.out.now c.args.out.now
    (none_read c.read_as_far_as_needed.ensures.before c.args.plan.now.max left now reader n max c.start.ensures.bounded c.start.ensures.few
    (c.start.ensures.differs (rw c.in-Ok.ensures.new refl) n is) opens.0)
    (none_made c.args.plan.now.max left c.args.lanes.now c.args.out.now) c.one_trace.ensures
    (not_trace c.results_exist.ensures.plan c.args.plan.now c.requires.fits.playout.window.0 left reader.max _ _ n max opens.1) (λ all. absurd all))

pub returns-in-Err-ReadFault-clause-ends : goal.returns-in-Err-ReadFault-clause-ends
returns-in-Err-ReadFault-clause-ends g c = λ growth.
    let left = g.S.Source.left c.args.input.now in
    let now = g.S.Source.left c.start.new.from in
    let reader = c.start.new.self in
    let max : reader.max ≡ c.args.plan.now.max = c.start.ensures.max ∙ ap (λ (t : ReaderState). t.max) c.in-Ok.ensures.new in
    let is : c.start.result ≡ Err fault.ReadFault = c.in-Err-ReadFault.is ∙ ap Err c.in-Err-ReadFault.field-0-is in
    let opens : Opens (Err fault.ReadFault) reader left now = subst (λ t. Opens t reader left now) is (c.start.ensures.opens left (c.in-Ok.ensures.opening left)) in
    stopped_first c.stops_leave_parts.ensures growth c.args.plan.now c.requires.fits (Err Read) refl left now g.O.Outlet.lanes c.args.lanes.now g.K.Sink.written c.args.out.now
    (fault_read c.read_as_far_as_needed.ensures.before c.args.plan.now.max left now reader max c.start.ensures.bounded opens)
    (λ read. unmade_at_read c.whole_records_are_answered.ensures.unopened c.args.plan.now left now reader (g.O.Outlet.lanes c.args.lanes.now) opens (c.start.ensures.short (rw c.in-Ok.ensures.new refl) is))
