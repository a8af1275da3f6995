use Rattle.fg_commands.specs.Endings.{why_of_stream}
use Rattle.fg_commands.proofs.Came.{came_so}
use Rattle.fg_commands.proofs.Streams.{stream_answered}
use Rattle.fg_commands.proofs.encoding.run_encode.Goals as goal

pub returns : goal.returns
returns g c =
    let e = c.encode.ensures in
    came_so why_of_stream c.encode.result c.by.result c.by.ensures.status c.by.ensures.came c.by.ensures.failed
    (stream_answered c.one_cut.ensures c.args.settings.now.packets c.args.max _ _ c.encode.result (λ ending told. (told.payloads, told.of_input)) e.whole e.all_read e.reads e.part e.faults)
