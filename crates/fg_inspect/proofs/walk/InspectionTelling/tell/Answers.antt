use Rattle.std.proofs.Common.{List, ◌++◌, ◌∷◌, [], Option, arith, refl}
use Rattle.fg_io.proofs.FaultLemmas.{on_err}
use Rattle.fg_trace.specs.Trace.{Record}
use Rattle.fg_inspect.specs.Steps.{HasPart, HasTold}
use Rattle.fg_inspect.proofs.Telling.{part_at_line, told_more}
use Rattle.fg_inspect.proofs.walk.InspectionTelling.tell.Goals as goal

pub add-requires : goal.add-requires
add-requires g c = omega (arith, c.requires.told.3.number, c.requires.told.2)

pub returns-in_err-add-clause-part : goal.returns-in_err-add-clause-part
returns-in_err-add-clause-part g c =
    let flows = c.args.self.now.table.now in
    let part : (records later : List Record) (before : Option (List _)) → HasTold flows records c.args.self.now.lines before (g.K.Sink.written c.args.out.now)
    → HasPart flows ((records ++ (record { time = c.args.datagram.time; port = c.args.datagram.port; datagram = c.args.datagram.bytes.now }) ∷ []) ++ later) before (g.K.Sink.written c.add.new.out) = λ records later before h.
    part_at_line c.one_text.ensures.front flows records c.args.self.now.lines before _ _ (record { time = c.args.datagram.time; port = c.args.datagram.port; datagram = c.args.datagram.bytes.now }) _ c.read_record-reading.result h c.read_record-reading.ensures refl c.in_err-add.ensures.part later in
    on_err _ _ part

pub returns-clause-told : goal.returns-clause-told
returns-clause-told g c = λ records before h.
    told_more c.args.self.now.table.now records c.args.self.now.lines c.add.new.self before _ _ (record { time = c.args.datagram.time; port = c.args.datagram.port; datagram = c.args.datagram.bytes.now }) _ c.read_record-reading.result h c.read_record-reading.ensures refl c.in_ok-add.ensures.sent c.in_ok-add.ensures.number
