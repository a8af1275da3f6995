use Rattle.std.proofs.Common.{◌≡◌, ◌∙◌, length, Ok, Err, IfOk, IfErr, Result, refl, sym, ap, subst}
use Rattle.std.specs.Vec.{with_items}
use Rattle.std.proofs.lemmas.List.{with_items_is}
use Rattle.fg_io.specs.declared.fault.Fault.{Fault}
use Rattle.fg_io.specs.declared.fault.Fault.TheVariants.{Read}
use Rattle.fg_report.specs.declared.tail.Tail.{Tail}
use Rattle.fg_trace.specs.Finish.{finish_after}
use Rattle.fg_trace.specs.Reading.{HasReached}
use Rattle.fg_results.proofs.RepairLemmas.{whole_repair}
use Rattle.fg_results.proofs.CountLemmas.{read_only}
use Rattle.fg_engine.specs.Engine.{LanesStop, StandsAtFault, TookAll, told_finish, answer_of}
use Rattle.fg_engine.proofs.Results.{same_cause, passed_on}
use Rattle.fg_engine.proofs.Reaching.{told_ends, read_for, fault_reached, reached_end, magic_refuses}
use Rattle.fg_engine.proofs.Finishing.{stopped, stopped_in_report, finished}
use Rattle.fg_engine.proofs.Writing.{ready, took_flushing, flush_stops, all_whole}
use Rattle.fg_engine.proofs.records.finish.Goals as goal

pub returns-in_err-tail-clause-repairs : goal.returns-in_err-tail-clause-repairs
returns-in_err-tail-clause-repairs g c = λ growth first left before h.
    let result = c.from_residual.result in
    let told = g.O.Outlet.lanes in
    let P : Fault → Type 0 = λ fault. LanesStop growth c.args.plan.now (finish_after fault) first (told before) (told c.args.lanes.now) in
    let Q : Fault → Type 0 = λ fault. StandsAtFault c.args.plan.now fault first left (told before) (told c.args.lanes.now) in
    let was : c.args.taken ≡ Err c.in_err-tail.field-0.0 = c.in_err-tail.was in
    stopped c.stops_leave_parts.ensures growth c.args.plan.now c.requires.fits result c.from_residual.ensures.0 first left told before c.args.lanes.now g.K.Sink.written c.args.out.now
    (read_for c.read_as_far_as_needed.ensures.after _ (answer_of result) _ first left h.far (fault_reached result _ _ c.from_residual.ensures.0))
    (magic_refuses _ c.args.plan.now first h.magic)
    (passed_on P result c.in_err-tail.field-0.0 c.from_residual.ensures.1 (subst (λ (t : Result Tail Fault). IfErr t P) was h.stops))
    (passed_on Q result c.in_err-tail.field-0.0 c.from_residual.ensures.1 (subst (λ (t : Result Tail Fault). IfErr t Q) was h.at_read))

pub flush-requires : goal.flush-requires
flush-requires g c =
    let now = g.O.Outlet.lanes c.args.lanes.now in
    let first = c.requires.taken.1 in
    let before = c.requires.taken.3 in
    let engine = c.args.begun.engine in
    let was : c.args.taken ≡ Ok c.in_ok-tail.tail = c.in_ok-tail.was in
    ready c.args.plan.now c.requires.fits first engine c.in_ok-tail.tail before now c.deref_mut.result.now c.deref_mut.ensures.value
    (subst (λ (t : Result Tail Fault). IfOk t (λ tail. TookAll c.args.plan.now first engine tail before now)) was c.requires.taken.4.whole)

pub returns-in_err-flush-clause-repairs : goal.returns-in_err-flush-clause-repairs
returns-in_err-flush-clause-repairs g c = λ growth first left before h.
    let result = c.from_residual-in_err-flush.result in
    let is = c.from_residual-in_err-flush.ensures.0 in
    let fault = c.in_err-flush.field-0.0 in
    let told = g.O.Outlet.lanes in
    let now = told c.args.lanes.now in
    let engine = c.args.begun.engine in
    let was : c.args.taken ≡ Ok c.in_ok-tail.tail = c.in_ok-tail.was in
    let took : TookAll c.args.plan.now first engine c.in_ok-tail.tail (told before) now =
    subst (λ (t : Result Tail Fault). IfOk t (λ tail. TookAll c.args.plan.now first engine tail (told before) now)) was h.whole in
    let flushing = took_flushing c.args.plan.now first engine c.in_ok-tail.tail (told before) now c.deref_mut.result.now c.deref_mut.ensures.value took in
    stopped c.stops_leave_parts.ensures growth c.args.plan.now c.requires.fits result is first left told before c.flush.new.lanes g.K.Sink.written c.args.out.now
    (read_for c.read_as_far_as_needed.ensures.after _ (answer_of result) _ first left h.far (fault_reached result _ _ is))
    (magic_refuses _ c.args.plan.now first h.magic)
    (passed_on (λ (fault : Fault). LanesStop growth c.args.plan.now (finish_after fault) first (told before) (told c.flush.new.lanes))
    result fault c.from_residual-in_err-flush.ensures.1
    (flush_stops c.one_trace.ensures growth c.args.plan.now (finish_after fault) (λ read. c.in_err-flush.ensures.faults.read (read_only fault read))
    first engine c.in_ok-tail.tail (told before) now _ took (c.in_err-flush.ensures.breaks c.args.plan.now took.records (told before) c.requires.fits flushing)))
    (passed_on (λ (fault : Fault). StandsAtFault c.args.plan.now fault first left (told before) (told c.flush.new.lanes))
    result fault c.from_residual-in_err-flush.ensures.1 (λ read. absurd (c.in_err-flush.ensures.faults.read read)))

pub returns-in_err-report-clause-repairs : goal.returns-in_err-report-clause-repairs
returns-in_err-report-clause-repairs g c = λ growth first left before h.
    let result = c.from_residual-in_err-report.result in
    let is = c.from_residual-in_err-report.ensures.0 in
    let told = g.O.Outlet.lanes in
    let now = told c.args.lanes.now in
    let engine = c.args.begun.engine in
    let ended = record engine { flows = with_items engine.flows c.flush.new.flows; writer = c.flush.new.writer } in
    let was : c.args.taken ≡ Ok c.in_ok-tail.tail = c.in_ok-tail.was in
    let took : TookAll c.args.plan.now first engine c.in_ok-tail.tail (told before) now =
    subst (λ (t : Result Tail Fault). IfOk t (λ tail. TookAll c.args.plan.now first engine tail (told before) now)) was h.whole in
    let flushing = took_flushing c.args.plan.now first engine c.in_ok-tail.tail (told before) now c.deref_mut.result.now c.deref_mut.ensures.value took in
    let long : length c.flush.new.flows ≡ engine.flows.len = c.flush.auto.flows ∙ ap length c.deref_mut.ensures.value ∙ sym engine.flows.ok.0 in
    stopped_in_report c.one_trace.ensures c.one_flow_result.ensures growth c.args.plan.now result is
    (λ read. c.in_err-report.ensures.faults.read (same_cause result c.in_err-report.field-0.0 Read c.from_residual-in_err-report.ensures.1 read))
    first left told before c.flush.new.lanes g.K.Sink.written c.args.out.now c.report.new.out
    (read_for c.read_as_far_as_needed.ensures.after _ (answer_of result) _ first left h.far (fault_reached result _ _ is))
    (magic_refuses _ c.args.plan.now first h.magic)
    ended c.in_ok-tail.tail
    (all_whole c.args.plan.now first engine ended c.in_ok-tail.tail (told before) now _ c.flush.new.flows took (with_items_is engine.flows c.flush.new.flows long) refl
    (c.in_ok-flush.ensures.ends c.args.plan.now took.records (told before) c.requires.fits flushing))
    c.in_err-report.ensures.part

pub returns-clause-ending : goal.returns-clause-ending
returns-clause-ending g c = rw c.finish_at.ensures (told_ends c.in_ok-tail.tail)

pub returns-clause-repairs : goal.returns-clause-repairs
returns-clause-repairs g c = λ growth first left before h.
    let told = g.O.Outlet.lanes in
    let now = told c.args.lanes.now in
    let reader = c.args.begun.reader in
    let engine = c.args.begun.engine in
    let ended = record engine { flows = with_items engine.flows c.flush.new.flows; writer = c.flush.new.writer } in
    let was : c.args.taken ≡ Ok c.in_ok-tail.tail = c.in_ok-tail.was in
    let took : TookAll c.args.plan.now first engine c.in_ok-tail.tail (told before) now =
    subst (λ (t : Result Tail Fault). IfOk t (λ tail. TookAll c.args.plan.now first engine tail (told before) now)) was h.whole in
    let flushing = took_flushing c.args.plan.now first engine c.in_ok-tail.tail (told before) now c.deref_mut.result.now c.deref_mut.ensures.value took in
    let long : length c.flush.new.flows ≡ engine.flows.len = c.flush.auto.flows ∙ ap length c.deref_mut.ensures.value ∙ sym engine.flows.ok.0 in
    let reached : HasReached c.finish_at.result reader left =
    rw c.finish_at.ensures (subst (λ (t : Result Tail Fault). IfOk t (λ tail. HasReached (told_finish tail) reader left)) was h.reaches) in
    whole_repair growth c.args.plan.now c.finish_at.result first left told before c.flush.new.lanes g.K.Sink.written c.args.out.now c.report.new.out
    (read_for c.read_as_far_as_needed.ensures.after _ c.finish_at.result reader first left h.far reached)
    (magic_refuses _ c.args.plan.now first h.magic) c.one_trace.ensures
    (finished c.args.plan.now first ended c.in_ok-tail.tail c.finish_at.result _ _ _ _
    (all_whole c.args.plan.now first engine ended c.in_ok-tail.tail (told before) now _ c.flush.new.flows took (with_items_is engine.flows c.flush.new.flows long) refl
    (c.in_ok-flush.ensures.ends c.args.plan.now took.records (told before) c.requires.fits flushing))
    c.finish_at.ensures c.in_ok-report.ensures.whole)
    (reached_end c.finish_at.result reader left reached)
