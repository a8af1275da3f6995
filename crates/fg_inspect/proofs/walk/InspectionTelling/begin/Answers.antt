use Rattle.fg_inspect.proofs.Telling.{told_none}
use Rattle.fg_inspect.proofs.walk.InspectionTelling.begin.Goals as goal

pub returns-clause-told : goal.returns-clause-told
returns-clause-told g c = told_none c.args.self.now.table.now c.args.self.now.lines (g.K.Sink.written c.args._out.now) c.requires
