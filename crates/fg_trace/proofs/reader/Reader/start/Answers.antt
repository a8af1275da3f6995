-- What is held differs from the magic, and so do the bytes.
use Rattle.std.proofs.Common.{◌≡◌, Some, Err, arith, ap, sym, subst}
use Rattle.fg_trace.specs.declared.step.TraceFault.TheVariants.{NotTrace as NoMagic}
use Rattle.fg_trace.specs.Reader.{ReaderState, StandsBefore}
use Rattle.fg_trace.specs.Trace.{DiffersAt}
use Rattle.fg_trace.specs.Walk.{reader_at}
use Rattle.fg_trace.proofs.Stopping.{keeps_difference}
use Rattle.fg_trace.proofs.Viewing.{taking, none_answered, none_stepped, enough}
use Rattle.fg_trace.proofs.Walking.{before_taking}
use Rattle.fg_trace.proofs.reader.Reader.start.Goals as goal

pub returns-in-Some-differs_from_magic-clause-opens : goal.returns-in-Some-differs_from_magic-clause-opens
returns-in-Some-differs_from_magic-clause-opens g c =
    let inside = c.self.inside in
    let input = c.ask.new.input in
    let n = c.in-Some-differs_from_magic.place in
    let none : inside.answered ≡ 0 = omega (arith, c.self.invariant.front c.if-self.false) in
    let takes = taking c.args.self.now inside.input inside.input input inside.answered inside.started inside.kept _ _ c.self.view_is (none_stepped inside.input inside.answered none)
    c.in_ok-ask.ensures.takes c.in_ok-ask.ensures.same in
    let holds = enough c.in_ok-ask.field-0 input (g.S.Source.left c.ask.new.from) 8 c.in_ok-ask.ensures.has c.in_ok-ask.ensures.lacks in
    let differs : DiffersAt input.held n = subst (λ t. DiffersAt t n) c.held.ensures.value c.in-Some-differs_from_magic.ensures.differs in
    λ first h.
    let both = keeps_difference (reader_at input inside.started inside.kept) first _ n (before_taking c.args.self.now (reader_at input inside.started inside.kept) first _ _ h takes)
    (omega (arith, c.self.invariant.least, ap (λ t. t.max) c.in_ok-ask.ensures.same)) holds differs in (
      subst (λ (t : ReaderState). StandsBefore t first (g.S.Source.left c.ask.new.from)) (sym (none_answered input inside.answered inside.started (Some (Err (NoMagic n))) none)) both.0,
      both.1,
    )
