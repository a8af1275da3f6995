use Rattle.std.proofs.Common.{◌+◌, ◌∙◌, ◌≤◌, None, length, refl, ap, arith}
use Rattle.fg_ts.specs.Packets.{FirstFault}
use Rattle.fg_encode.specs.StreamSteps.{fault_from, reader_at}
use Rattle.fg_encode.proofs.StreamEndings.{fault_here}
use Rattle.fg_encode.proofs.StreamViews.{holds, within_here}
use Rattle.fg_encode.proofs.stream.ending.Goals as goal

pub returns-in-Err : goal.returns-in-Err
returns-in-Err c =
    let input = c.args.input.now in
    let packets = c.args.packets in
    let next = c.next_payload.result.now in
    let fault : FirstFault c.in-Err.fault next = (c.in-Err.ensures.faults c.in-Err.fault).0 refl in
    let within : input.place + length next ≤ input.max = omega (arith, within_here c.args.ahead input packets c.in-Whole.is c.requires.ahead, ap length c.next_payload.ensures) in
    rw (c.in_stream-fault.ensures ∙ ap (λ n. fault_from n c.in-Err.fault) c.place-in-Err.ensures.value)
    (fault_here (reader_at input packets None) next c.in-Err.fault c.next_payload.ensures fault within (holds c.args.ahead input packets None c.requires.ahead))
