use Rattle.std.proofs.Common.{◌≡◌, ◌∙◌, ◌++◌, ◌∷◌, ℕ, Ok, Option, List, [], length, ap, subst}
use Rattle.fg_encode.specs.declared.stream.StreamStep.{StreamStep}
use Rattle.fg_encode.specs.EncodeSteps.{Breaks, IsUnderway}
use Rattle.fg_encode.specs.Encoder.{StandsAfter}
use Rattle.fg_encode.specs.Encoding.{records_at}
use Rattle.fg_encode.specs.StreamReader.{Walks, ending_told}
use Rattle.fg_encode.proofs.Encodings.{takes_next, within_limit, underway_more, breaks_at_payload, breaks_at_read, encoded}
use Rattle.fg_io.proofs.FaultLemmas.{on_err}
use Rattle.fg_encode.proofs.FaultLemmas.{failed_as, none_read}
use Rattle.fg_encode.proofs.encoding.EncodingWalking.step.Goals as goal

pub push-requires-clause-stands : goal.push-requires-clause-stands
push-requires-clause-stands g c =
    let h = c.requires.2 in
    let whole = c.in_ok-next.ensures.payload (ap Ok c.in-Payload.is) in
    (h.payloads, takes_next c.args.reader.now c.args.self.now.encoder h.payloads c.next.new.self.payload c.next.new.self.held whole.0 h.goes_on (λ over. (c.next.ensures.ended over).1) whole.1 whole.3)

pub push-requires-clause-limit : goal.push-requires-clause-limit
push-requires-clause-limit g c =
    let h = c.requires.2 in
    let whole = c.in_ok-next.ensures.payload (ap Ok c.in-Payload.is) in
    within_limit c.args.reader.now c.next.new.self c.args.self.now.encoder h.payloads c.payload.result.now whole.0 h.stands.placed h.packets h.goes_on
    (λ over. (c.next.ensures.ended over).1) whole.1 whole.3 c.payload.ensures c.next.ensures.place c.next.ensures.within c.next.ensures.max h.limit

pub returns-in_ok-add_all-in-Payload-clause-more : goal.returns-in_ok-add_all-in-Payload-clause-more
returns-in_ok-add_all-in-Payload-clause-more g c = λ first before h.
    let whole = c.in_ok-next.ensures.payload (ap Ok c.in-Payload.is) in
    let settings = c.args.self.now.encoder.settings in
    let now = g.S.Source.left c.next.new.from in
    underway_more c.a_payload_more_adds_its_records.ensures.adds c.args.self.now _ c.args.reader.now c.next.new.self first _ now before _ _ c.push.new.into whole.0
    (λ payloads stands. subst (λ (s : StreamStep). Walks (Ok s) c.next.new.self first now payloads) c.in-Payload.is (c.in_ok-next.ensures.walks first payloads stands))
    (c.in_ok-next.ensures.kept ∙ ap (λ (s : StreamStep). ending_told (Ok s)) c.in-Payload.is) c.next.ensures.max
    (λ over. (c.next.ensures.ended over).1) whole.1 whole.3 (c.in_ok-next.ensures.last (ap Ok c.in-Payload.is)) c.next.ensures.packets c.push.ensures.settings
    (λ payloads k. c.push.ensures.batch payloads k ∙ ap (λ (p : List ℕ). records_at settings (payloads ++ p ∷ []) (length payloads)) c.payload.ensures)
    (λ payloads k full. subst (λ (p : List ℕ). StandsAfter c.push.new.self (payloads ++ p ∷ [])) c.payload.ensures (c.push.ensures.stands payloads k (ap length c.payload.ensures ∙ full)))
    c.in_ok-add_all-in-Payload.ensures.sent h

pub returns-in_err-add_all-in-Payload-clause-part : goal.returns-in_err-add_all-in-Payload-clause-part
returns-in_err-add_all-in-Payload-clause-part g c =
    let whole = c.in_ok-next.ensures.payload (ap Ok c.in-Payload.is) in
    let settings = c.args.self.now.encoder.settings in
    let left = g.S.Source.left c.args.input.now in
    let now = g.S.Source.left c.next.new.from in
    let written = g.K.Sink.written c.args.out.now in
    let after = g.K.Sink.written c.add_all.new.out in
    let P : Type 0 = (first : Option (List ℕ)) (before : Option (List ℕ)) → IsUnderway c.args.self.now c.args.reader.now first left before written → Breaks c.args.self.now.encoder.settings c.args.reader.now.max first now before after in
    let part : P = λ first before h.
    breaks_at_payload c.a_payload_more_adds_its_records.ensures.adds c.read_as_far_as_needed.ensures c.args.self.now c.args.reader.now c.next.new.self first left now before written after c.push.new.into whole.0
    (λ payloads stands. subst (λ (s : StreamStep). Walks (Ok s) c.next.new.self first now payloads) c.in-Payload.is (c.in_ok-next.ensures.walks first payloads stands))
    (record { within = c.next.ensures.within; bounded = c.next.ensures.bounded; few = c.next.ensures.few; ending = c.next.ensures.ending }) c.next.ensures.max
    (λ over. (c.next.ensures.ended over).1) whole.1 whole.3 c.next.ensures.packets
    (λ payloads k. c.push.ensures.batch payloads k ∙ ap (λ (p : List ℕ). records_at settings (payloads ++ p ∷ []) (length payloads)) c.payload.ensures)
    c.in_err-add_all-in-Payload.ensures.part h in
    on_err _ P part

pub returns-in_err-add_all-in-Payload-clause-faults : goal.returns-in_err-add_all-in-Payload-clause-faults
returns-in_err-add_all-in-Payload-clause-faults g c = none_read _ _ _ _ _ _ (c.in_ok-next.ensures.faults.no_read (λ no. no)) (failed_as c.from_residual-in_err-add_all-in-Payload.result _ [] _ c.from_residual-in_err-add_all-in-Payload.ensures.1 c.in_err-add_all-in-Payload.ensures.faults)

pub returns-in_err-next-clause-part : goal.returns-in_err-next-clause-part
returns-in_err-next-clause-part g c =
    let left = g.S.Source.left c.args.input.now in
    let now = g.S.Source.left c.next.new.from in
    let written = g.K.Sink.written c.args.out.now in
    let P : Type 0 = (first : Option (List ℕ)) (before : Option (List ℕ)) → IsUnderway c.args.self.now c.args.reader.now first left before written → Breaks c.args.self.now.encoder.settings c.args.reader.now.max first now before written in
    let part : P = λ first before h.
    breaks_at_read c.a_payload_more_adds_its_records.ensures.adds c.read_as_far_as_needed.ensures c.args.self.now c.args.reader.now c.next.new.self first left now before written
    (c.in_err-next.ensures.walks first)
    (record { within = c.next.ensures.within; bounded = c.next.ensures.bounded; few = c.next.ensures.few; ending = c.next.ensures.ending }) c.next.ensures.max h in
    on_err _ P part

pub returns-in-End-clause-ends : goal.returns-in-End-clause-ends
returns-in-End-clause-ends g c = λ first before h.
    let now = g.S.Source.left c.next.new.from in
    encoded c.read_as_far_as_needed.ensures c.args.self.now c.args.reader.now c.next.new.self first _ now before _ c.in-End.ending
    (λ payloads stands. subst (λ (s : StreamStep). Walks (Ok s) c.next.new.self first now payloads) c.in-End.is (c.in_ok-next.ensures.walks first payloads stands))
    (record { within = c.next.ensures.within; bounded = c.next.ensures.bounded; few = c.next.ensures.few; ending = c.next.ensures.ending })
    (subst (λ (s : StreamStep). c.next.new.self.kept ≡ ending_told (Ok s)) c.in-End.is c.in_ok-next.ensures.kept)
    c.next.ensures.packets h
