use Rattle.std.proofs.lemmas.Bool.{iff_false}
use Rattle.fg_io.proofs.FaultLemmas.{err_more, ok_more}
use Rattle.fg_io.proofs.FaultLemmas.{on_err}
use Rattle.fg_trace.specs.Trace.{Record}
use Rattle.fg_pick.proofs.Sending.{in_datagram, in_header, it_sent, none_sent}
use Rattle.fg_pick.proofs.walk.pick_record.Goals as goal

pub returns-then-not-fits-clause-sent : goal.returns-then-not-fits-clause-sent
returns-then-not-fits-clause-sent g c =
    let r : Record = record { time = c.args.time; port = c.args.port; datagram = c.args.datagram.now } in
    none_sent c.picked_exist.ensures c.args.selection.now r c.args.held.now _ (iff_false c.fits.ensures c.if-not-fits.true)

pub returns-in_err-add-clause-part : goal.returns-in_err-add-clause-part
returns-in_err-add-clause-part g c =
    let r : Record = record { time = c.args.time; port = c.args.port; datagram = c.args.datagram.now } in
    on_err _ _ (in_header c.picked_exist.ensures c.args.selection.now r (c.fits.ensures.0 c.if-not-fits.false) c.args.held.now c.record_header.result c.record_header.ensures _ _ c.in_err-add.ensures.part)

pub returns-clause-sent : goal.returns-clause-sent
returns-clause-sent g c =
    let r : Record = record { time = c.args.time; port = c.args.port; datagram = c.args.datagram.now } in
    ok_more _ _ _ (it_sent c.picked_exist.ensures c.args.selection.now r (c.fits.ensures.0 c.if-not-fits.false) c.args.held.now c.record_header.result c.record_header.ensures _ _ _ _ _ c.in_ok-add.ensures.sent) c.add-2.ensures.sent

pub returns-clause-part : goal.returns-clause-part
returns-clause-part g c =
    let r : Record = record { time = c.args.time; port = c.args.port; datagram = c.args.datagram.now } in
    err_more _ _ _ (in_datagram c.picked_exist.ensures c.args.selection.now r (c.fits.ensures.0 c.if-not-fits.false) c.args.held.now c.record_header.result c.record_header.ensures _ _ _ _ c.in_ok-add.ensures.sent) c.add-2.ensures.part
