-- A record is answered where it lies, and an ending is kept.
use Rattle.std.proofs.Common.{◌≡◌, ◌+◌, ◌∙◌, Ok, Some, length, refl, sym, subst}
use Rattle.fg_io.specs.InputBuffer.{InputState}
use Rattle.fg_trace.specs.declared.step.Step.TheVariants.{Datagram}
use Rattle.fg_trace.specs.Reader.{ReaderState, Walks}
use Rattle.fg_trace.specs.Trace.{StandsFirst}
use Rattle.fg_trace.specs.Walk.{reader_of, reader_at}
use Rattle.fg_trace.proofs.Next.{header_of, next_stands_first, first_parts}
use Rattle.fg_trace.proofs.Stopping.{walks_ending}
use Rattle.fg_trace.proofs.Viewing.{none_answered, none_stepped, taking, answering, payload_length}
use Rattle.fg_trace.proofs.Walking.{after_taking, walks_record}
use Rattle.fg_trace.proofs.reader.Reader.next.Goals as goal

pub returns-in-Next-clause-walks : goal.returns-in-Next-clause-walks
returns-in-Next-clause-walks g c =
    let inside = c.self.inside in
    let input = c.look.new.input in
    let found = rw c.in-Next.is at c.in_ok-header.ensures.finds in
    let takes = taking c.args.self.now inside.input c.step.new.self input inside.answered inside.started inside.kept _ _ c.self.view_is c.step.ensures c.in_ok-header.ensures.takes c.in_ok-header.ensures.same in
    λ first records h. walks_record (reader_at input inside.started inside.kept) (reader_of input (12 + c.from.result) inside.started inside.kept) first _ records
    c.in-Next.header.time c.in-Next.header.port c.in-Next.header.size (Datagram c.in-Next.header.time c.in-Next.header.port c.in-Next.header.size)
    (after_taking c.args.self.now (reader_at input inside.started inside.kept) first _ _ records h takes) c.in_default.is found.0 refl (answering input c.in-Next.header.size c.from.result inside.started inside.kept c.from.ensures)

pub returns-in-Next-clause-payload : goal.returns-in-Next-clause-payload
returns-in-Next-clause-payload g c =
    let found = rw c.in-Next.is at c.in_ok-header.ensures.finds in
    payload_length c.look.new.input.held c.in-Next.header.size c.from.result c.from.ensures found.0.whole

pub returns-in-Ends-clause-walks : goal.returns-in-Ends-clause-walks
returns-in-Ends-clause-walks g c =
    let inside = c.self.inside in
    let input = c.look.new.input in
    let found = rw c.in-Ends.is at c.in_ok-header.ensures.finds in
    let takes = taking c.args.self.now inside.input c.step.new.self input inside.answered inside.started inside.kept _ _ c.self.view_is c.step.ensures c.in_ok-header.ensures.takes c.in_ok-header.ensures.same in
    λ first records h. subst (λ (t : ReaderState). Walks c.in-Ends.answer t first (g.S.Source.left c.look.new.from) records)
    (sym (none_answered input 0 inside.started (Some c.in-Ends.answer) refl))
    (walks_ending (reader_at input inside.started inside.kept) (reader_at input inside.started (Some c.in-Ends.answer)) first _ records c.in-Ends.answer
    (after_taking c.args.self.now (reader_at input inside.started inside.kept) first _ _ records h takes) found.0 found.1 refl)

pub returns-in_err-header-clause-held : goal.returns-in_err-header-clause-held
returns-in_err-header-clause-held g c =
    let inside = c.self.inside in
    λ held.
    let first = next_stands_first c.args.self.now inside.input c.step.new.self inside.answered inside.started inside.kept c.self.view_is c.step.ensures held in
    absurd (c.in_err-header.ensures.held held.next.time held.next.port (length held.next.datagram) first.1).0

pub returns-in_err-header-clause-short : goal.returns-in_err-header-clause-short
returns-in_err-header-clause-short g c =
    let inside = c.self.inside in
    let input = c.look.new.input in
    λ failed held.
    let first = next_stands_first (reader_of input 0 inside.started inside.kept) input input 0 inside.started inside.kept refl (none_stepped input 0 refl) held in
    c.in_err-header.ensures.short held.next.time held.next.port (length held.next.datagram) first.1

pub returns-in-Ends-clause-held : goal.returns-in-Ends-clause-held
returns-in-Ends-clause-held g c =
    let inside = c.self.inside in
    λ held.
    let first = next_stands_first c.args.self.now inside.input c.step.new.self inside.answered inside.started inside.kept c.self.view_is c.step.ensures held in
    let found = (c.in_ok-header.ensures.held held.next.time held.next.port (length held.next.datagram) first.1).0 in
    absurd (rw c.in-Ends.is at found)

pub returns-in-Next-clause-held : goal.returns-in-Next-clause-held
returns-in-Next-clause-held g c =
    let inside = c.self.inside in
    let input = c.look.new.input in
    let header = c.in-Next.header in
    let found = rw c.in-Next.is at c.in_ok-header.ensures.finds in
    λ held.
    let first = next_stands_first c.args.self.now inside.input c.step.new.self inside.answered inside.started inside.kept c.self.view_is c.step.ensures held in
    let still = c.in_ok-header.ensures.held held.next.time held.next.port (length held.next.datagram) first.1 in
    let stands : StandsFirst input.held held.next held.rest = subst (λ (t : InputState). StandsFirst t.held held.next held.rest) (sym still.1) first.0 in
    let same = header_of input.held header.time header.port header.size held.next held.rest found.0.header stands in
    let parts = first_parts input.held held.next held.rest c.from.result (c.from.ensures ∙ same.2) stands in
    let answer : Ok (Datagram header.time header.port header.size) ≡ Ok (Datagram held.next.time held.next.port (length held.next.datagram)) = cc in
    (answer, parts.0, parts.1, still.2)
