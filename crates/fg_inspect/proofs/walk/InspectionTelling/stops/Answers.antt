use Rattle.fg_trace.specs.Trace.{NotTrace}
use Rattle.fg_inspect.proofs.Telling.{gained_none, none_is_part, part_told}
use Rattle.fg_inspect.proofs.walk.InspectionTelling.stops.Goals as goal

pub returns-clause-nothing : goal.returns-clause-nothing
returns-clause-nothing c = λ new place written. gained_none c.args.self.now.table.now (NotTrace place) written

pub returns-clause-none : goal.returns-clause-none
returns-clause-none c = λ new records written. none_is_part c.args.self.now.table.now records written

pub returns-clause-told : goal.returns-clause-told
returns-clause-told c = λ records later before after h. part_told c.one_text.ensures.front c.args.self.now.table.now records c.args.self.now.lines before after h later
