use Rattle.std.proofs.Common.{◌∙◌}
use Rattle.fg_results.specs.Stops.{ByBatch}
use Rattle.fg_engine.specs.Engine.{IsAtStart}
use Rattle.fg_engine.proofs.Driving.{ended_counts, taken_all, taken_counts}
use Rattle.fg_batches.proofs.records.repair_in_batches.Goals as goal
use Rattle.fg_batches.proofs.records.repair_in_batches.Goals.{in-Ok, in-Err}

pub end-requires-clause-taken : goal.end-requires-clause-taken
end-requires-clause-taken g c =
    let took = c.take_in_batches-reader in
    let plan = c.args.plan.now in
    let first = g.S.Source.left c.args.ends.input.now in
    let before = g.O.Outlet.lanes c.args.ends.lanes.now in (
      ByBatch,
      first,
      g.S.Source.left took.new.input,
      before,
      taken_all (λ first before. IsAtStart plan first _ c.in-Ok.begun.reader c.in-Ok.begun.engine before _) ByBatch plan first _ _ c.in-Ok.begun took.new.engine took.result.0 before _ _ took.result.1
          c.in-Ok.ensures.begun c.in-Ok.ensures.begun.start took.ensures.whole took.ensures.stops took.ensures.at_read took.ensures.far took.ensures.reaches,
    )

pub returns : goal.returns
returns g c =
    let plan = c.args.plan.now in
    let first = g.S.Source.left c.args.ends.input.now in
    let before = g.O.Outlet.lanes c.args.ends.lanes.now in
    elim c.match-begin.branch [
      | in-Ok w ↦
          let took = w.take_in_batches-reader in
          rw (w.result-is, w.input-is, w.out-is, w.lanes-is) (record {
            repairs = w.end.ensures.repairs ByBatch first _ c.args.ends.lanes.now
                (taken_all (λ first before. IsAtStart plan first _ w.in-Ok.begun.reader w.in-Ok.begun.engine before _) ByBatch plan first _ _ w.in-Ok.begun took.new.engine took.result.0 before _ _ took.result.1
                w.in-Ok.ensures.begun w.in-Ok.ensures.begun.start took.ensures.whole took.ensures.stops took.ensures.at_read took.ensures.far took.ensures.reaches);
            faults = w.end.ensures.faults ByBatch _ _
                (taken_counts ByBatch took.result.1 _ _ _ _ _ _ w.in-Ok.ensures.still.0 w.in-Ok.ensures.still.1 took.ensures.faults);
            fixed = took.ensures.fixed ∙ c.begin.ensures.fixed;
          })
      | in-Err w ↦ rw (w.result-is, w.input-is, w.out-is, w.lanes-is) (record {
        repairs = w.in-Err.ensures.ends ByBatch;
        faults = ended_counts ByBatch _ _ _ _ _ _ w.in-Err.ensures.faults;
        fixed = c.begin.ensures.fixed;
      })
    ]
