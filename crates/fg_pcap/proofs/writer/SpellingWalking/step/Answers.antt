use Rattle.std.proofs.Common.{◌≡◌, ◌∙◌, ◌++◌, Ok, Err, IsNone, sym, ap, subst, refl, List, length, ℕ, Option}
use Rattle.fg_io.proofs.FaultLemmas.{on_err}
use Rattle.fg_io.specs.Sent.{Sent}
use Rattle.fg_io.specs.Sink.{GainsPart}
use Rattle.fg_pcap.specs.Spelling.{spelling}
use Rattle.fg_trace.specs.declared.step.Step.{Step}
use Rattle.fg_trace.specs.Reader.{Answer, ReadsToEnd, Walks, payload_size}
use Rattle.fg_trace.specs.Trace.{Ended, Cut, TooLong}
use Rattle.fg_pcap.specs.declared.writer.SpellingEnding.TheVariants as ending
use Rattle.fg_pcap.specs.Steps.{Breaks, IsUnderway}
use Rattle.fg_pcap.proofs.Writing.{few_spelt, underway_more, breaks_at_record, breaks_at_fault, stops_at, spelled_all}
use Rattle.fg_pcap.proofs.writer.SpellingWalking.step.Goals as goal

pub add-requires-clause-number : goal.add-requires-clause-number
add-requires-clause-number g c = few_spelt c.requires.0 _ c.args.reader.now c.args.self.now c.requires.1 _ c.requires.2

pub returns-in_err-add-in-Ok-Datagram-clause-part : goal.returns-in_err-add-in-Ok-Datagram-clause-part
returns-in_err-add-in-Ok-Datagram-clause-part g c =
    let sized : c.in-Ok-Datagram.size ≡ length c.next.new.self.payload = sym (ap (λ (s : Step). payload_size (Ok s)) c.in-Ok-Datagram.field-0-is) ∙ sym c.in-Ok-Datagram.ensures.payload in
    let limits = c.fit.ensures.0 c.if-not-fit.false in
    let breaks : (first : Option (List ℕ)) (before : Option (List ℕ)) → IsUnderway c.args.self.now c.args.reader.now first (g.S.Source.left c.args.input.now) before (g.K.Sink.written c.args.out.now) → Breaks c.args.reader.now.max first (g.S.Source.left c.next.new.from) before (g.K.Sink.written c.add.new.out) = λ first before h.
    breaks_at_record first _ _ c.args.reader.now c.next.new.self c.args.self.now before _ _ c.next.result c.in-Ok-Datagram.time c.in-Ok-Datagram.port c.in-Ok-Datagram.size
    c.next.ensures.max c.next.ensures.bounded (c.in-Ok-Datagram.is ∙ ap Ok c.in-Ok-Datagram.field-0-is) (c.next.ensures.walks first) limits.0 limits.1 sized
    (subst (λ (b : List ℕ). GainsPart (g.K.Sink.written c.args.out.now) (c.args.self.now.held ++ spelling (record { time = c.in-Ok-Datagram.time; port = c.in-Ok-Datagram.port; datagram = b })) (g.K.Sink.written c.add.new.out)) c.payload.ensures c.in_err-add-in-Ok-Datagram.ensures.part) h in
    on_err _ _ breaks

pub returns-in_ok-add-in-Ok-Datagram-clause-more : goal.returns-in_ok-add-in-Ok-Datagram-clause-more
returns-in_ok-add-in-Ok-Datagram-clause-more g c = λ first before h.
    let sized : c.in-Ok-Datagram.size ≡ length c.next.new.self.payload = sym (ap (λ (s : Step). payload_size (Ok s)) c.in-Ok-Datagram.field-0-is) ∙ sym c.in-Ok-Datagram.ensures.payload in
    let limits = c.fit.ensures.0 c.if-not-fit.false in
    underway_more first _ _ c.args.reader.now c.next.new.self c.args.self.now c.add.new.self before _ _ c.next.result c.in-Ok-Datagram.time c.in-Ok-Datagram.port c.in-Ok-Datagram.size
    (c.in-Ok-Datagram.is ∙ ap Ok c.in-Ok-Datagram.field-0-is) (rw (c.in-Ok-Datagram.is ∙ ap Ok c.in-Ok-Datagram.field-0-is) at c.next.ensures.kept) c.next.ensures.max (c.next.ensures.walks first) limits.0 limits.1 sized
    (subst (λ (b : List ℕ). Sent (g.K.Sink.written c.args.out.now) (c.args.self.now.held ++ spelling (record { time = c.in-Ok-Datagram.time; port = c.in-Ok-Datagram.port; datagram = b })) c.add.new.self.held (g.K.Sink.written c.add.new.out)) c.payload.ensures c.in_ok-add-in-Ok-Datagram.ensures.sent)
    c.in_ok-add-in-Ok-Datagram.ensures.number h

pub returns-then-not-fit-clause-ends : goal.returns-then-not-fit-clause-ends
returns-then-not-fit-clause-ends g c = λ first before h.
    let sized : c.in-Ok-Datagram.size ≡ length c.next.new.self.payload = sym (ap (λ (s : Step). payload_size (Ok s)) c.in-Ok-Datagram.field-0-is) ∙ sym c.in-Ok-Datagram.ensures.payload in
    stops_at first _ _ c.args.reader.now c.next.new.self c.args.self.now before _ c.next.result c.in-Ok-Datagram.time c.in-Ok-Datagram.port c.in-Ok-Datagram.size c.fit.result
    c.next.ensures.bounded c.next.ensures.few (c.in-Ok-Datagram.is ∙ ap Ok c.in-Ok-Datagram.field-0-is) (c.next.ensures.walks first) c.fit.ensures c.if-not-fit.true sized h

pub returns-in-Ok-End-clause-ends : goal.returns-in-Ok-End-clause-ends
returns-in-Ok-End-clause-ends g c = λ first before h.
    spelled_all first _ _ c.args.reader.now c.next.new.self c.args.self.now before _ Ended _ c.next.ensures.bounded refl
    (λ records. c.next.ensures.at_end (subst IsNone (sym h.untold) refl) (subst ReadsToEnd (sym (c.in-Ok-End.is ∙ ap Ok c.in-Ok-End.field-0-is)) tt)) (λ records. refl) (λ all. c.next.ensures.at_end (subst IsNone (sym h.untold) refl) (subst ReadsToEnd (sym (c.in-Ok-End.is ∙ ap Ok c.in-Ok-End.field-0-is)) tt))
    (λ records k. subst (λ (a : Answer). Walks a c.next.new.self first (g.S.Source.left c.next.new.from) records) (c.in-Ok-End.is ∙ ap Ok c.in-Ok-End.field-0-is) (c.next.ensures.walks first records k)) h

pub returns-in-Err-Cut-clause-ends : goal.returns-in-Err-Cut-clause-ends
returns-in-Err-Cut-clause-ends g c = λ first before h.
    spelled_all first _ _ c.args.reader.now c.next.new.self c.args.self.now before _ (Cut c.in-Err-Cut.place) _ c.next.ensures.bounded (ap ending.Cut c.in-Err-Cut.place-is)
    (λ records. c.next.ensures.at_end (subst IsNone (sym h.untold) refl) (subst ReadsToEnd (sym (c.in-Err-Cut.is ∙ ap Err c.in-Err-Cut.field-0-is)) tt)) (λ records. refl) (λ all. c.next.ensures.at_end (subst IsNone (sym h.untold) refl) (subst ReadsToEnd (sym (c.in-Err-Cut.is ∙ ap Err c.in-Err-Cut.field-0-is)) tt))
    (λ records k. subst (λ (a : Answer). Walks a c.next.new.self first (g.S.Source.left c.next.new.from) records) (c.in-Err-Cut.is ∙ ap Err c.in-Err-Cut.field-0-is) (c.next.ensures.walks first records k)) h

pub returns-in-Err-TooLong-clause-ends : goal.returns-in-Err-TooLong-clause-ends
returns-in-Err-TooLong-clause-ends g c = λ first before h.
    spelled_all first _ _ c.args.reader.now c.next.new.self c.args.self.now before _ (TooLong c.in-Err-TooLong.place) _ c.next.ensures.bounded (ap ending.TooLong c.in-Err-TooLong.place-is)
    (λ records. c.next.ensures.past c.in-Err-TooLong.place (c.in-Err-TooLong.is ∙ ap Err c.in-Err-TooLong.field-0-is)) (λ records. refl) (λ all. absurd all)
    (λ records k. subst (λ (a : Answer). Walks a c.next.new.self first (g.S.Source.left c.next.new.from) records) (c.in-Err-TooLong.is ∙ ap Err c.in-Err-TooLong.field-0-is) (c.next.ensures.walks first records k)) h

pub returns-in-Err-ReadFault-clause-part : goal.returns-in-Err-ReadFault-clause-part
returns-in-Err-ReadFault-clause-part g c = λ first before h.
    breaks_at_fault first _ _ c.args.reader.now c.next.new.self c.args.self.now before _ c.in-Err-ReadFault.field-0 c.next.ensures.max c.next.ensures.bounded
    (c.in-Err-ReadFault.ensures.walks first) h
