-- What `repair` is for: this project's own.
use Rattle.std.specs.Prelude.{◌≡◌, ◌⊎◌, IfSome, ⊤}
use Rattle.fg_trace.specs.Trace.{Ending}
use Rattle.fg_flows.specs.declared.Plan.{Plan}
use Rattle.fg_results.specs.Repair.{Outputs, OutputsPart}
use Rattle.fg_results.specs.Stops.{StandsAtRead, growth_of}
use Rattle.fg_drill.specs.Repairs.{EncodingsComeBack}
use Rattle.fg_commands.specs.Behaviour.{Behaviour}
use Rattle.fg_commands.specs.Ended.{IsFault}
use Rattle.fg_commands.specs.Endings.{why_of_ending}
use Rattle.fg_commands.specs.Traces.{EndsTrace, IsNoTrace, IsTraceAnswer, ReadsTrace}
use Rattle.fg_run.specs.Counted.{MayHaveFailedBeside}
use Rattle.fg_run.specs.Stopping.{StopsTrace}

-- The flows of the input's trace are repaired, and the answer is that of its ending. A fault stops it over the trace's records, and a
-- failed read behind all that stand whole in what was read. What comes back is what of a thinned encoding does, where the trace is
-- exactly one on a flow's ports.
abbrev pub repairing : Plan → Behaviour
repairing plan = record {
  is_answer = IsTraceAnswer plan.max;
  gains = λ answer input lanes lanes' written written'.
      (end : Ending) × (answer ≡ why_of_ending end) × Outputs plan end input lanes lanes' written written';
  part = λ {K} input lanes lanes' written out out'. OutputsPart plan input lanes lanes' written out out';
  stops = λ answer input lanes lanes'. StopsTrace plan input answer lanes lanes';
  at_read = λ input now lanes lanes'. IfSome input (λ bytes. StandsAtRead plan bytes now lanes lanes');
  comes_back = λ answer input lanes lanes' written written'.
      IfSome input (λ bytes. IsFault answer ⊎ EncodingsComeBack plan bytes lanes lanes');
  reads = ReadsTrace plan.max;
  reads_all = EndsTrace;
  may_have_failed_to_read = MayHaveFailedBeside (growth_of plan);
  is_no_input = IsNoTrace plan.max;
  reads_nothing = ⊥;
  writes_nothing = ⊥;
  makes_no_lane = ⊥;
  writes_last = ⊤;
}
