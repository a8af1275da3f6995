use Rattle.std.proofs.Common.{List, ◌++◌, ◌∷◌, [], Option}
use Rattle.fg_io.proofs.FaultLemmas.{on_err}
use Rattle.fg_trace.specs.Trace.{Record}
use Rattle.fg_pick.specs.Steps.{HasPart, HasPicked}
use Rattle.fg_pick.proofs.Walking.{part_more, sent_more}
use Rattle.fg_pick.proofs.walk.PickingTelling.tell.Goals as goal

pub pick_record-requires-clause-table : goal.pick_record-requires-clause-table
pick_record-requires-clause-table g c = c.requires.told.3.table

pub returns-in_err-pick_record-clause-part : goal.returns-in_err-pick_record-clause-part
returns-in_err-pick_record-clause-part g c =
    let work = c.args.self.now in
    let s = work.selection.now in
    let part : (records later : List Record) (before : Option (List _)) → HasPicked s work.table.entries.items records work.held before (g.K.Sink.written c.args.out.now)
    → HasPart s ((records ++ (record { time = c.args.datagram.time; port = c.args.datagram.port; datagram = c.args.datagram.bytes.now }) ∷ []) ++ later) before (g.K.Sink.written c.pick_record.new.out) = λ records later before h.
    part_more c.one_picked.ensures.one c.one_picked.ensures.join c.picked_exist.ensures s records (record { time = c.args.datagram.time; port = c.args.datagram.port; datagram = c.args.datagram.bytes.now }) work.held before _ _ h.has_sent c.in_err-pick_record.ensures.part later in
    on_err _ _ part

pub returns-clause-told : goal.returns-clause-told
returns-clause-told g c = λ records before h. record {
  table = h.table;
  has_sent = sent_more c.one_picked.ensures.join c.args.self.now.selection.now records (record { time = c.args.datagram.time; port = c.args.datagram.port; datagram = c.args.datagram.bytes.now }) c.args.self.now.held c.pick_record.new.held before _ _ h.has_sent c.in_ok-pick_record.ensures.sent;
}
