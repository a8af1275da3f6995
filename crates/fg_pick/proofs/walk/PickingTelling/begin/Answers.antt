use Rattle.fg_io.proofs.FaultLemmas.{on_err}
use Rattle.std.proofs.Common.{List}
use Rattle.fg_trace.specs.Trace.{Record}
use Rattle.fg_pick.specs.Steps.{HasPart}
use Rattle.fg_pick.proofs.Walking.{part_first, sent_first}
use Rattle.fg_pick.proofs.walk.PickingTelling.begin.Goals as goal

pub returns-in_err-add-clause-part : goal.returns-in_err-add-clause-part
returns-in_err-add-clause-part g c =
    let s = c.args.self.now.selection.now in
    let part : (records : List Record) → HasPart s records (g.K.Sink.written c.args.out.now) (g.K.Sink.written c.add.new.out) = λ records.
    part_first c.one_picked.ensures.one c.one_picked.ensures.join c.picked_exist.ensures s c.args.self.now.held _ _ c.requires.empty c.in_err-add.ensures.part records in
    on_err _ _ part

pub returns-clause-told : goal.returns-clause-told
returns-clause-told g c = record {
  table = c.requires.table;
  has_sent = sent_first c.picked_exist.ensures c.args.self.now.selection.now c.args.self.now.held _ _ _ c.requires.empty c.in_ok-add.ensures.sent;
}
