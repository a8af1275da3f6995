use Rattle.std.proofs.Common.{◌∙◌}
use Rattle.fg_results.specs.Stops.{ByRecord}
use Rattle.fg_engine.specs.Engine.{HasWalked}
use Rattle.fg_engine.proofs.Driving.{ended_counts, taken_all, taken_counts, walked_none}
use Rattle.fg_engine.proofs.records.repair_windows.Goals as goal

pub take_all-taken-requires-clause-underway : goal.take_all-taken-requires-clause-underway
take_all-taken-requires-clause-underway g c =
    let first = g.S.Source.left c.args.input.now in
    let before = g.O.Outlet.lanes c.args.lanes.now in
    (first, before, walked_none _ first _ _ _ before _ c.in-Ok.ensures.begun.start)

pub end-requires-clause-taken : goal.end-requires-clause-taken
end-requires-clause-taken g c =
    let took = c.take_all-taken in
    let first = g.S.Source.left c.args.input.now in
    let before = g.O.Outlet.lanes c.args.lanes.now in (
      ByRecord,
      first,
      g.S.Source.left took.new.input,
      before,
      taken_all (λ first before. HasWalked c.args.plan.now first _ c.in-Ok.begun.reader c.in-Ok.begun.engine before _) ByRecord c.args.plan.now first _ _ c.in-Ok.begun
          took.new.self took.new.reader before _ _ took.result c.in-Ok.ensures.begun (walked_none _ first _ _ _ before _ c.in-Ok.ensures.begun.start) took.ensures.whole took.ensures.stops took.ensures.at_read took.ensures.far took.ensures.reaches,
    )

pub returns-in-Ok : goal.returns-in-Ok
returns-in-Ok g c =
    let took = c.take_all-taken in
    let first = g.S.Source.left c.args.input.now in
    let before = g.O.Outlet.lanes c.args.lanes.now in
    record {
      repairs = c.end.ensures.repairs ByRecord first _ c.args.lanes.now
          (taken_all (λ first before. HasWalked c.args.plan.now first _ c.in-Ok.begun.reader c.in-Ok.begun.engine before _) ByRecord c.args.plan.now first _ _ c.in-Ok.begun
          took.new.self took.new.reader before _ _ took.result c.in-Ok.ensures.begun (walked_none _ first _ _ _ before _ c.in-Ok.ensures.begun.start) took.ensures.whole took.ensures.stops took.ensures.at_read took.ensures.far took.ensures.reaches);
      faults = c.end.ensures.faults ByRecord _ _
          (taken_counts ByRecord took.result _ _ _ _ _ _ c.in-Ok.ensures.still.0 c.in-Ok.ensures.still.1 took.ensures.faults);
      fixed = took.ensures.fixed ∙ c.begin.ensures.fixed;
    }

pub returns-in-Err : goal.returns-in-Err
returns-in-Err g c = record {
  repairs = c.in-Err.ensures.ends ByRecord;
  faults = ended_counts ByRecord _ _ _ _ _ _ c.in-Err.ensures.faults;
  fixed = c.begin.ensures.fixed;
}
