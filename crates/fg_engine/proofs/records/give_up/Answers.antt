use Rattle.std.proofs.Common.{Err, refl}
use Rattle.fg_io.specs.declared.fault.Fault.TheVariants.{Memory}
use Rattle.fg_trace.specs.declared.step.Finish.TheVariants as finish
use Rattle.fg_results.specs.Contract.{Repairs}
use Rattle.fg_results.specs.Stops.{Growth, ByRecord, ByBatch}
use Rattle.fg_engine.proofs.Driving.{none_counted}
use Rattle.fg_engine.proofs.Reaching.{fault_is}
use Rattle.fg_engine.proofs.Finishing.{stopped_first}
use Rattle.fg_engine.proofs.records.give_up.Goals as goal

pub returns : goal.returns
returns g c =
    let left = g.S.Source.left c.args.input.now in
    let repairs : (growth : Growth) → Repairs growth c.args.plan.now finish.Memory g.S.Source.left g.S.Source.faults g.S.Source.fixed
    c.args.input.now c.args.input.now g.O.Outlet.lanes g.O.Outlet.faults c.args.lanes.now c.args.lanes.now g.K.Sink.written
    g.K.Sink.faults c.args.out.now c.args.out.now = λ growth. record {
      repairs = stopped_first c.stops_leave_parts.ensures growth c.args.plan.now c.requires (Err Memory) refl left left g.O.Outlet.lanes c.args.lanes.now g.K.Sink.written c.args.out.now
          (c.read_as_far_as_needed.ensures.unread _ finish.Memory _ (fault_is (Err Memory) refl)) (λ read. absurd cc);
      faults = none_counted growth _ _ _;
      fixed = refl;
    } in
    record { answer = refl; by_record = repairs ByRecord; by_batch = repairs ByBatch }
