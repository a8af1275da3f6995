use Rattle.std.proofs.Common.{◌≡◌, ◌∙◌, IsNone, Ok, Err, ap, subst, sym, refl, List, ◌++◌, ◌∷◌, [], ℕ, Option}
use Rattle.fg_io.proofs.FaultLemmas.{on_err}
use Rattle.fg_trace.specs.declared.step.Finish.TheVariants as finish
use Rattle.fg_trace.specs.declared.step.Step.TheVariants.{End}
use Rattle.fg_trace.specs.declared.step.TraceFault.TheVariants as fault
use Rattle.fg_trace.specs.Reader.{Answer, ReadsToEnd, Walks}
use Rattle.fg_trace.specs.Trace.{Ended, Cut, TooLong}
use Rattle.fg_walk.specs.Steps.{Breaks, IsUnderway}
use Rattle.fg_walk.proofs.Records.{breaks_at_fault, breaks_at_record, few_told, told_all, underway_more}
use Rattle.fg_walk.proofs.trace.AnyWalking.step.Goals as goal

pub tell-requires-clause-told : goal.tell-requires-clause-told
tell-requires-clause-told g c =
    let under = c.requires.2 in
    (under.records, c.requires.1, few_told _ _ c.args.reader.now _ _ _ _ under, under.told)

pub returns-in_err-tell-in-Ok-Datagram-clause-part : goal.returns-in_err-tell-in-Ok-Datagram-clause-part
returns-in_err-tell-in-Ok-Datagram-clause-part g c =
    let given = g.T.Telling.given c.args.self.now in
    let now = g.S.Source.left c.next.new.from in
    let part : (first before : Option (List ℕ)) → IsUnderway g.T.Telling.most g.T.Telling.has_told c.args.self.now c.args.reader.now first (g.S.Source.left c.args.input.now) before (g.K.Sink.written c.args.out.now)
    → Breaks g.T.Telling.part given c.args.reader.now.max first now before (g.K.Sink.written c.tell.new.out) = λ first before h.
    breaks_at_record c.walks_the_front.ensures c.read_as_far_as_needed.ensures.after g.T.Telling.has_told g.T.Telling.part c.args.self.now given c.args.reader.now c.next.new.self first _ now before _ _ c.next.result c.in-Ok-Datagram.time c.in-Ok-Datagram.port _
    c.next.ensures.max c.next.ensures.bounded (c.in-Ok-Datagram.is ∙ ap Ok c.in-Ok-Datagram.field-0-is) (c.next.ensures.walks first)
    (λ records later told. subst (λ (b : List ℕ). g.T.Telling.part given ((records ++ (record { time = c.in-Ok-Datagram.time; port = c.in-Ok-Datagram.port; datagram = b }) ∷ []) ++ later) before (g.K.Sink.written c.tell.new.out)) c.payload-bytes.ensures
    (c.in_err-tell-in-Ok-Datagram.ensures.part records later before told)) h in
    on_err _ _ part

pub returns-in_ok-tell-in-Ok-Datagram-clause-more : goal.returns-in_ok-tell-in-Ok-Datagram-clause-more
returns-in_ok-tell-in-Ok-Datagram-clause-more g c = λ first before h.
    underway_more g.T.Telling.has_told c.args.self.now c.tell.new.self c.args.reader.now c.next.new.self first _ _ before _ _ c.next.result c.in-Ok-Datagram.time c.in-Ok-Datagram.port _
    (c.in-Ok-Datagram.is ∙ ap Ok c.in-Ok-Datagram.field-0-is) (rw (c.in-Ok-Datagram.is ∙ ap Ok c.in-Ok-Datagram.field-0-is) at c.next.ensures.kept) c.next.ensures.max (c.next.ensures.walks first)
    (λ records told. subst (λ (b : List ℕ). g.T.Telling.has_told c.tell.new.self (records ++ (record { time = c.in-Ok-Datagram.time; port = c.in-Ok-Datagram.port; datagram = b }) ∷ []) before (g.K.Sink.written c.tell.new.out)) c.payload-bytes.ensures
    (c.in_ok-tell-in-Ok-Datagram.ensures.told records before told)) h

pub returns-in-Ok-End-clause-ends : goal.returns-in-Ok-End-clause-ends
returns-in-Ok-End-clause-ends g c = λ first before h.
    let is : c.next.result ≡ Ok End = c.in-Ok-End.is ∙ ap Ok c.in-Ok-End.field-0-is in
    let over = c.next.ensures.at_end (subst IsNone (sym h.untold) refl) (subst ReadsToEnd (sym is) tt) in
    told_all c.read_as_far_as_needed.ensures.after g.T.Telling.has_told c.args.self.now c.args.reader.now c.next.new.self first _ _ before _ Ended _ c.next.ensures.bounded refl tt over (λ all. over)
    (λ records k. subst (λ (a : Answer). Walks a c.next.new.self first (g.S.Source.left c.next.new.from) records) is (c.next.ensures.walks first records k)) h

pub returns-in-Err-Cut-clause-ends : goal.returns-in-Err-Cut-clause-ends
returns-in-Err-Cut-clause-ends g c = λ first before h.
    let is : c.next.result ≡ Err (fault.Cut c.in-Err-Cut.place) = c.in-Err-Cut.is ∙ ap Err c.in-Err-Cut.field-0-is in
    let over = c.next.ensures.at_end (subst IsNone (sym h.untold) refl) (subst ReadsToEnd (sym is) tt) in
    told_all c.read_as_far_as_needed.ensures.after g.T.Telling.has_told c.args.self.now c.args.reader.now c.next.new.self first _ _ before _ (Cut c.in-Err-Cut.place) _ c.next.ensures.bounded (ap finish.Cut c.in-Err-Cut.place-is) tt over (λ all. over)
    (λ records k. subst (λ (a : Answer). Walks a c.next.new.self first (g.S.Source.left c.next.new.from) records) is (c.next.ensures.walks first records k)) h

pub returns-in-Err-TooLong-clause-ends : goal.returns-in-Err-TooLong-clause-ends
returns-in-Err-TooLong-clause-ends g c = λ first before h.
    let is : c.next.result ≡ Err (fault.TooLong c.in-Err-TooLong.place) = c.in-Err-TooLong.is ∙ ap Err c.in-Err-TooLong.field-0-is in
    told_all c.read_as_far_as_needed.ensures.after g.T.Telling.has_told c.args.self.now c.args.reader.now c.next.new.self first _ _ before _ (TooLong c.in-Err-TooLong.place) _ c.next.ensures.bounded (ap finish.TooLong c.in-Err-TooLong.place-is) tt
    (c.next.ensures.past c.in-Err-TooLong.place is) (λ all. absurd all)
    (λ records k. subst (λ (a : Answer). Walks a c.next.new.self first (g.S.Source.left c.next.new.from) records) is (c.next.ensures.walks first records k)) h

pub returns-in-Err-ReadFault-clause-part : goal.returns-in-Err-ReadFault-clause-part
returns-in-Err-ReadFault-clause-part g c = λ first before h.
    breaks_at_fault c.walks_the_front.ensures c.read_as_far_as_needed.ensures.after g.T.Telling.has_told g.T.Telling.part c.args.self.now (g.T.Telling.given c.args.self.now) c.args.reader.now c.next.new.self first _ _ before _ c.in-Err-ReadFault.field-0
    c.next.ensures.max c.next.ensures.bounded (c.in-Err-ReadFault.ensures.walks first) (λ records later told. c.stops.ensures.told records later before _ told) h
