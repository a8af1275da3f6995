use Rattle.fg_commands.specs.Endings.{why_of_stream}
use Rattle.fg_commands.proofs.Came.{came_so}
use Rattle.fg_commands.proofs.Streams.{stream_answered}
use Rattle.fg_commands.proofs.monitoring.run_monitor.Goals as goal

pub returns : goal.returns
returns g c =
    let e = c.monitor_stream.ensures in
    came_so why_of_stream c.monitor_stream.result c.by.result c.by.ensures.status c.by.ensures.came c.by.ensures.failed
    (stream_answered c.one_cut.ensures 1 c.args.max _ _ c.monitor_stream.result (λ ending told. (told.packets, told.of_input)) e.whole e.all_read e.reads e.part e.faults)
