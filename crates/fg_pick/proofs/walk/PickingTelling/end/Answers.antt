use Rattle.std.proofs.Common.{List, Option}
use Rattle.fg_io.proofs.FaultLemmas.{on_err}
use Rattle.fg_trace.specs.Trace.{Record}
use Rattle.fg_pick.specs.Steps.{HasPart, HasPicked}
use Rattle.fg_pick.proofs.Walking.{sent_part, sent_whole}
use Rattle.fg_pick.proofs.walk.PickingTelling.end.Goals as goal

pub returns-in_err-flush-clause-part : goal.returns-in_err-flush-clause-part
returns-in_err-flush-clause-part g c =
    let work = c.args.self.now in
    let s = work.selection.now in
    let part : (records : List Record) (before : Option (List _)) → HasPicked s work.table.entries.items records work.held before (g.K.Sink.written c.args.out.now) → HasPart s records before (g.K.Sink.written c.flush.new.out) = λ records before h.
    sent_part c.one_picked.ensures.one s records work.held before _ _ h.has_sent c.in_err-flush.ensures.part in
    on_err _ _ part

pub returns-clause-whole : goal.returns-clause-whole
returns-clause-whole g c = λ records end before is h.
    sent_whole c.args.self.now.selection.now records end c.args._finish c.args.self.now.held before _ _ c.requires.begun is h.has_sent c.in_ok-flush.ensures.whole
