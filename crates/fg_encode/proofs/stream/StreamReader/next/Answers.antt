-- A payload is answered where it lies, and an ending is kept.
use Rattle.std.proofs.Common.{◌*◌, ◌≤◌, Option, Some, Ok, length, refl, sym, ap, subst}
use Rattle.fg_io.specs.InputBuffer.{InputState, IsAhead}
use Rattle.fg_encode.specs.declared.stream.StreamStep.TheVariants.{End}
use Rattle.fg_encode.specs.Stream.{StreamEnding}
use Rattle.fg_encode.specs.StreamReader.{StreamState, Walks}
use Rattle.fg_encode.specs.StreamSteps.{Accepts, reader_at, reader_of}
use Rattle.fg_encode.proofs.StreamViews.{taking, holds, answering, none_answered}
use Rattle.fg_encode.proofs.StreamWalks.{after_taking, walks_ending, walks_payload}
use Rattle.fg_encode.proofs.stream.StreamReader.next.Goals as goal

pub returns-in-Some-ending-clause-walks : goal.returns-in-Some-ending-clause-walks
returns-in-Some-ending-clause-walks g c =
    let inside = c.self.inside in
    let input = c.fill.new.self in
    let now = g.S.Source.left c.fill.new.from in
    let ending = c.in-Some-ending.ending in
    let reader = reader_at input inside.packets inside.kept in
    let within : input.place ≤ input.max = subst (λ (t : InputState). t.place ≤ t.max) (sym c.fill.ensures.same) (subst (λ (t : InputState). t.place ≤ t.max) (sym c.step.ensures) c.self.invariant.within) in
    let takes = taking c.args.self.now inside.input c.step.new.self input inside.packets inside.answered inside.kept _ now c.self.view_is c.step.ensures c.fill.ensures.takes c.fill.ensures.same
    (λ over. let k = c.fill.ensures.stays over in (k.0, ap g.S.Source.left k.1)) c.fill.ensures.at_end in
    λ first payloads h. subst (λ (t : StreamState). Walks (Ok (End ending)) t first now payloads) (none_answered input inside.packets (Some ending))
    (walks_ending reader (reader_at input inside.packets (Some ending)) first now payloads ending (after_taking c.args.self.now reader first _ now payloads h takes)
    (holds c.in_ok-ahead.ahead input inside.packets inside.kept (subst (λ n. IsAhead c.in_ok-ahead.ahead input (188 * n)) c.from-size.ensures c.in_ok-ahead.ensures.tells)) within c.in-Some-ending.ensures refl)

pub returns-in-None-clause-walks : goal.returns-in-None-clause-walks
returns-in-None-clause-walks g c =
    let inside = c.self.inside in
    let input = c.fill.new.self in
    let now = g.S.Source.left c.fill.new.from in
    let reader = reader_at input inside.packets inside.kept in
    let answered = length c.next_payload.result.now in
    let takes = taking c.args.self.now inside.input c.step.new.self input inside.packets inside.answered inside.kept _ now c.self.view_is c.step.ensures c.fill.ensures.takes c.fill.ensures.same
    (λ over. let k = c.fill.ensures.stays over in (k.0, ap g.S.Source.left k.1)) c.fill.ensures.at_end in
    λ first payloads h. walks_payload reader (reader_of input inside.packets answered inside.kept) first now payloads (after_taking c.args.self.now reader first _ now payloads h takes) c.in_default.is
    (holds c.in_ok-ahead.ahead input inside.packets inside.kept (subst (λ n. IsAhead c.in_ok-ahead.ahead input (188 * n)) c.from-size.ensures c.in_ok-ahead.ensures.tells)) (subst (λ (kept : Option StreamEnding). Accepts (reader_at input inside.packets kept)) (sym c.in_default.is) c.in-None.ensures) (answering input inside.packets answered inside.kept (ap length c.next_payload.ensures))
