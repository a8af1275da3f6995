use Rattle.fg_io.proofs.FaultLemmas.{err_more, ok_more}
use Rattle.fg_io.proofs.FaultLemmas.{on_err as any_err}
use Rattle.fg_pcap.proofs.Sending.{none_sent, one_sent, header_part, payload_part}
use Rattle.fg_pcap.proofs.conversion.send_frame.Goals as goal

pub returns-in_default-clause-sent : goal.returns-in_default-clause-sent
returns-in_default-clause-sent g c =
    none_sent (record { time = c.args.time; bytes = c.args.frame.now }) c.args.trace.now _ (rw c.in_default.is at c.datagram_of.ensures.none)

pub returns-in_err-add-clause-part : goal.returns-in_err-add-clause-part
returns-in_err-add-clause-part g c =
    any_err _ _ (header_part (record { time = c.args.time; bytes = c.args.frame.now }) c.in-Some.port c.in-Some.payload.now c.args.trace.now _ _ _ c.in-Some.ensures.found c.record_header.ensures c.in_err-add.ensures.part)

pub returns-clause-sent : goal.returns-clause-sent
returns-clause-sent g c =
    ok_more c.add-2.result _ _
    (λ again. one_sent (record { time = c.args.time; bytes = c.args.frame.now }) c.in-Some.port c.in-Some.payload.now c.args.trace.now _ _ _ _ _ _ c.in-Some.ensures.found c.record_header.ensures c.in_ok-add.ensures.sent again)
    c.add-2.ensures.sent

pub returns-clause-part : goal.returns-clause-part
returns-clause-part g c =
    err_more c.add-2.result _ _
    (λ again. payload_part (record { time = c.args.time; bytes = c.args.frame.now }) c.in-Some.port c.in-Some.payload.now c.args.trace.now _ _ _ _ _ c.in-Some.ensures.found c.record_header.ensures c.in_ok-add.ensures.sent again)
    c.add-2.ensures.part
