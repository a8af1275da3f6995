use Rattle.std.proofs.Common.{◌∙◌, Ok, Err, ap, subst, refl}
use Rattle.fg_report.specs.declared.tail.Tail.TheVariants as tail
use Rattle.fg_trace.specs.Reader.{Answer, Walks}
use Rattle.fg_trace.specs.Trace.{Ended, Cut, TooLong}
use Rattle.fg_batches.proofs.Gathered.{few_others, gathered_long, gathered_on, gathers_last}
use Rattle.fg_batches.proofs.gathering.Gathering.take_next.Goals as goal

pub take-requires-clause-flows : goal.take-requires-clause-flows
take-requires-clause-flows g c =
    let come = c.requires.underway in
    gathered_long c.args.plan.now come.0 (g.S.Source.left c.args.input.now) c.args.reader.now come.1 come.2 c.args.self.now come.3

pub take-requires-clause-few : goal.take-requires-clause-few
take-requires-clause-few g c =
    let come = c.requires.underway in
    few_others c.args.plan.now c.requires.fits come.0 (g.S.Source.left c.args.input.now) c.args.reader.now come.1 come.2 c.args.self.now c.requires.max come.3

pub returns-in-Ok-Datagram-clause-more : goal.returns-in-Ok-Datagram-clause-more
returns-in-Ok-Datagram-clause-more g c = λ first records batch h.
    gathered_on c.args.plan.now first _ _ c.args.reader.now c.next.new.self records batch c.args.self.now c.take.new.self c.next.result c.in-Ok-Datagram.time c.in-Ok-Datagram.port c.in-Ok-Datagram.field-0-2 c.payload.result.now
    c.requires.none (c.in-Ok-Datagram.is ∙ ap Ok c.in-Ok-Datagram.field-0-is) c.payload.ensures (c.next.ensures.walks first) c.take.ensures.keeps h

pub returns-in-Ok-End-clause-ends : goal.returns-in-Ok-End-clause-ends
returns-in-Ok-End-clause-ends g c = λ first records batch h.
    gathers_last c.args.plan.now c.requires.fits first _ _ c.args.reader.now c.next.new.self records batch c.args.self.now Ended _ (c.next.ensures.max ∙ c.requires.max) refl c.requires.none
    (λ rs k. subst (λ (a : Answer). Walks a c.next.new.self first (g.S.Source.left c.next.new.from) rs) (c.in-Ok-End.is ∙ ap Ok c.in-Ok-End.field-0-is) (c.next.ensures.walks first rs k)) h

pub returns-in-Err-Cut-clause-ends : goal.returns-in-Err-Cut-clause-ends
returns-in-Err-Cut-clause-ends g c = λ first records batch h.
    gathers_last c.args.plan.now c.requires.fits first _ _ c.args.reader.now c.next.new.self records batch c.args.self.now (Cut c.in-Err-Cut.place) _ (c.next.ensures.max ∙ c.requires.max) (ap tail.Cut c.in-Err-Cut.place-is) c.requires.none
    (λ rs k. subst (λ (a : Answer). Walks a c.next.new.self first (g.S.Source.left c.next.new.from) rs) (c.in-Err-Cut.is ∙ ap Err c.in-Err-Cut.field-0-is) (c.next.ensures.walks first rs k)) h

pub returns-in-Err-TooLong-clause-ends : goal.returns-in-Err-TooLong-clause-ends
returns-in-Err-TooLong-clause-ends g c = λ first records batch h.
    gathers_last c.args.plan.now c.requires.fits first _ _ c.args.reader.now c.next.new.self records batch c.args.self.now (TooLong c.in-Err-TooLong.place) _ (c.next.ensures.max ∙ c.requires.max) (ap tail.TooLong c.in-Err-TooLong.place-is) c.requires.none
    (λ rs k. subst (λ (a : Answer). Walks a c.next.new.self first (g.S.Source.left c.next.new.from) rs) (c.in-Err-TooLong.is ∙ ap Err c.in-Err-TooLong.field-0-is) (c.next.ensures.walks first rs k)) h
