use Rattle.fg_inspect.proofs.Telling.{part_of}
use Rattle.fg_inspect.proofs.walk.inspect.Goals as goal

pub walk_trace-requires-clause-new : goal.walk_trace-requires-clause-new
walk_trace-requires-clause-new g c = record { table = c.count-flows.ensures.table; empty = c.in-Ok.ensures.0; number = c.in-Ok.ensures.1 }

pub returns-clause-part : goal.returns-clause-part
returns-clause-part g c = λ fault. part_of c.args.table.now c.args.max _ _ _ c.in-Err.ensures.part
