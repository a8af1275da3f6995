use Rattle.std.proofs.Common.{◌≡◌, ap}
use Rattle.std.proofs.lemmas.Result.{IfOk-weaker}
use Rattle.fg_io.specs.InputBuffer.{InputState}
use Rattle.fg_io.proofs.FaultLemmas.{err_more}
use Rattle.fg_encode.proofs.ReadLemmas.{read_of}
use Rattle.fg_monitor.proofs.Walking.{breaks_as, monitored_at, new_here}
use Rattle.fg_monitor.proofs.walk.monitor_stream.Goals as goal

pub walk-requires : goal.walk-requires
walk-requires g c =
    let work = c.in_ok-monitoring.ensures in
    let left = g.S.Source.left c.args.input.now in
    (left, new_here c.in_ok-monitoring.monitoring c.in_ok-input_buffer.input_buffer left c.args.max c.requires.limit c.in_ok-input_buffer.ensures work.seen work.held work.faults)

pub returns : goal.returns
returns g c =
    let input = c.in_ok-input_buffer.input_buffer in
    let work = c.in_ok-monitoring.ensures in
    let left = g.S.Source.left c.args.input.now in
    let max : input.max ≡ c.args.max = ap (λ (t : InputState). t.max) c.in_ok-input_buffer.ensures in
    let new = new_here c.in_ok-monitoring.monitoring input left c.args.max c.requires.limit c.in_ok-input_buffer.ensures work.seen work.held work.faults in
    let all = monitored_at input.max c.args.max c.walk.result left _ _ _ max (IfOk-weaker c.walk.result _ _ (λ ending h. h left new) c.walk.ensures.whole) in
    let broken = breaks_as input.max c.args.max c.walk.result left _ _ _ max (err_more c.walk.result _ _ (λ h. h left new) c.walk.ensures.part) in
    record {
      whole = IfOk-weaker c.walk.result _ _ (λ ending h. h.monitors) all;
      all_read = IfOk-weaker c.walk.result _ _ (λ ending h. h.at_end) all;
      reads = read_of c.args.max c.walk.result left _ (IfOk-weaker c.walk.result _ _ (λ ending h. h.read) all) (err_more c.walk.result _ _ (λ h. h.1) broken);
      part = err_more c.walk.result _ _ (λ h. h.0) broken;
      faults = c.walk.ensures.faults;
      fixed = c.walk.ensures.fixed;
    }
