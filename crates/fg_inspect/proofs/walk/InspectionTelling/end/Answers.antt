use Rattle.std.proofs.Common.{List, Option}
use Rattle.fg_io.proofs.FaultLemmas.{on_err}
use Rattle.fg_trace.specs.Trace.{Record}
use Rattle.fg_inspect.specs.Steps.{HasPart, HasTold}
use Rattle.fg_inspect.proofs.Telling.{told_part, told_whole}
use Rattle.fg_inspect.proofs.walk.InspectionTelling.end.Goals as goal

pub returns-in_err-flush-clause-part : goal.returns-in_err-flush-clause-part
returns-in_err-flush-clause-part g c =
    let flows = c.args.self.now.table.now in
    let part : (records : List Record) (before : Option (List _)) → HasTold flows records c.args.self.now.lines before (g.K.Sink.written c.args.out.now) → HasPart flows records before (g.K.Sink.written c.flush.new.out) = λ records before h.
    told_part c.one_text.ensures.one flows records c.args.self.now.lines before _ _ h c.in_err-flush.ensures.part in
    on_err _ _ part

pub returns-clause-whole : goal.returns-clause-whole
returns-clause-whole g c = λ records end before is h.
    told_whole c.args.self.now.table.now records end c.args.self.now.lines before _ _ h c.in_ok-flush.ensures.whole
