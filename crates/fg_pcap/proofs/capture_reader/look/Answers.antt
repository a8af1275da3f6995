-- No record stands next, and the ending is the one that is here.
use Rattle.std.proofs.Common.{subst, arith}
use Rattle.fg_pcap.specs.PacketHeader.{IsPacketHeader}
use Rattle.fg_pcap.proofs.Stopping.{ends_before, ends_inside, ends_at_header}
use Rattle.fg_pcap.proofs.capture_reader.look.Goals as goal

pub returns-in-Some-clause-ends : goal.returns-in-Some-clause-ends
returns-in-Some-clause-ends g c =
    ends_before c.args.order c.in-Some.ending c.ask.new.input _ (rw c.in-Some.is at c.in_ok-ending.ensures.lacks)

pub returns-then-header-gt-MOST_KEPT-clause-ends : goal.returns-then-header-gt-MOST_KEPT-clause-ends
returns-then-header-gt-MOST_KEPT-clause-ends g c =
    let h = c.read-header.result in
    let read : IsPacketHeader c.args.order c.ask.new.input.held h.seconds h.fraction h.kept h.original = subst (λ t. IsPacketHeader c.args.order t h.seconds h.fraction h.kept h.original) c.held.ensures.value c.read-header.ensures in
    let has = rw c.in_default.is at c.in_ok-ending.ensures.has in
    ends_at_header c.args.order c.place.result _ _ _ _ c.ask.new.input _ read (omega (arith, c.if-header-gt-MOST_KEPT.true)) c.place.ensures.value has.within

pub returns-in-Some-2-clause-ends : goal.returns-in-Some-2-clause-ends
returns-in-Some-2-clause-ends g c =
    let h = c.read-header.result in
    let read : IsPacketHeader c.args.order c.ask.new.input.held h.seconds h.fraction h.kept h.original = subst (λ t. IsPacketHeader c.args.order t h.seconds h.fraction h.kept h.original) c.held.ensures.value c.read-header.ensures in
    ends_inside c.args.order c.in-Some-2.ending c.ask.new.input.held _ _ _ _ _ c.ask-2.new.input _ c.in_ok-ending-2.ensures.takes.given read (omega (arith, c.if-header-gt-MOST_KEPT.false)) (omega arith) c.in_ok-ending-2.ensures.takes.grown
    (rw c.in-Some-2.is at c.in_ok-ending-2.ensures.lacks)
