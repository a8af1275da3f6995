-- The next record is read and its datagram sent on, or the capture ends.
use Rattle.std.proofs.Common.{◌≡◌, ◌+◌, ◌-◌, ℕ, Option, List, take, drop, refl, ap}
use Rattle.fg_io.proofs.FaultLemmas.{on_err}
use Rattle.fg_io.specs.InputBuffer.{InputState}
use Rattle.fg_pcap.specs.Reading.{Breaks, GoesOn}
use Rattle.fg_pcap.proofs.Underway.{breaks_at_frame, breaks_at_read, ended, fewer_left, frame_is, goes_on, underway_taking}
use Rattle.fg_pcap.proofs.conversion.ConversionWalking.step.Goals as goal

pub look-requires : goal.look-requires
look-requires g c = record { reading = c.requires.2.reading }

pub returns-in_err-header-clause-part : goal.returns-in_err-header-clause-part
returns-in_err-header-clause-part g c =
    let work = c.args.self.now in
    let buffer = c.look.new.input in
    let now = g.S.Source.left c.look.new.from in
    let limit : buffer.max ≡ c.args.reader.now.max = ap (λ (t : InputState). t.max) c.look.ensures.same in
    let part : (first before : Option (List ℕ)) → GoesOn work.format work.trace c.args.reader.now first (g.S.Source.left c.args.input.now) before (g.K.Sink.written c.args.out.now) → Breaks c.args.reader.now.max first now before (g.K.Sink.written c.args.out.now) = λ first before h.
    breaks_at_read work.format buffer c.args.reader.now.max first now work.trace before _ limit c.look.ensures.bounded (underway_taking work.format c.args.reader.now buffer first _ now work.trace before _ c.look.ensures.takes c.look.ensures.same h.underway) in
    on_err _ _ part

pub returns-in-Err-clause-ends : goal.returns-in-Err-clause-ends
returns-in-Err-clause-ends g c = λ first before h.
    let work = c.args.self.now in
    ended work.format c.look.new.input first _ c.in-Err.ending work.trace before _ c.look.ensures.bounded (rw c.in-Err.is at c.in_ok-header.ensures.ends) (rw c.in-Err.is at c.in_ok-header.ensures.reached)
    (underway_taking work.format c.args.reader.now c.look.new.input first _ _ work.trace before _ c.look.ensures.takes c.look.ensures.same h.underway)

pub returns-in_err-send_frame-clause-part : goal.returns-in_err-send_frame-clause-part
returns-in_err-send_frame-clause-part g c =
    let work = c.args.self.now in
    let buffer = c.look.new.input in
    let now = g.S.Source.left c.look.new.from in
    let header = c.in-Ok.header in
    let holds = rw c.in-Ok.is at c.in_ok-header.ensures.holds in
    let is = frame_is work.format.unit header buffer.held c.time.result (16 + header.kept) _ c.time.ensures (ap (λ t. take (16 + header.kept - 16) (drop 16 t)) c.held.ensures.value) refl in
    let limit : buffer.max ≡ c.args.reader.now.max = ap (λ (t : InputState). t.max) c.look.ensures.same in
    let part : (first before : Option (List ℕ)) → GoesOn work.format work.trace c.args.reader.now first (g.S.Source.left c.args.input.now) before (g.K.Sink.written c.args.out.now) → Breaks c.args.reader.now.max first now before (g.K.Sink.written c.send_frame.new.out) = λ first before h.
    breaks_at_frame work.format buffer header _ c.args.reader.now.max first now work.trace before _ _ limit c.look.ensures.bounded holds is c.in_err-send_frame.ensures.part (underway_taking work.format c.args.reader.now buffer first _ now work.trace before _ c.look.ensures.takes c.look.ensures.same h.underway) in
    on_err _ _ part

pub returns-clause-more : goal.returns-clause-more
returns-clause-more g c = λ first before h.
    let work = c.args.self.now in
    let header = c.in-Ok.header in
    let holds = rw c.in-Ok.is at c.in_ok-header.ensures.holds in
    let is = frame_is work.format.unit header c.look.new.input.held c.time.result (16 + header.kept) _ c.time.ensures (ap (λ t. take (16 + header.kept - 16) (drop 16 t)) c.held.ensures.value) refl in
    goes_on work.format c.look.new.input c.step.new.self header _ first _ work.trace c.send_frame.new.trace before _ _ holds c.step.ensures is c.in_ok-send_frame.ensures.sent (rw c.in-Ok.is at c.in_ok-header.ensures.reading)
    (underway_taking work.format c.args.reader.now c.look.new.input first _ _ work.trace before _ c.look.ensures.takes c.look.ensures.same h.underway)

pub returns-clause-fewer : goal.returns-clause-fewer
returns-clause-fewer g c =
    fewer_left c.args.reader.now c.look.new.input c.step.new.self c.args.self.now.format.order c.in-Ok.header c.look.ensures.same (rw c.in-Ok.is at c.in_ok-header.ensures.holds) c.step.ensures
