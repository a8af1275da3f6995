use Rattle.std.proofs.Common.{◌≢◌, ℕ, Some, None, sym, subst, ◌∙◌}
use Rattle.fg_io.proofs.FaultLemmas.{on_err}
use Rattle.fg_playout.specs.Held.{at_time, IsHeldStep}
use Rattle.fg_playout.specs.Run.{ArePlaysHeld}
use Rattle.fg_playout.specs.PlayedOn.{held_on}
use Rattle.fg_prove.specs.Steps.{IsQuiet, TellsOne, BreaksOne}
use Rattle.fg_prove.proofs.Playing.{held_more, held_breaks, held_ends, nothing_held, held_keeps, quiet_tells}
use Rattle.fg_prove.proofs.prover.Prover.play_held.Goals as goal

pub returns-then-hold-eq0-clause-plays : goal.returns-then-hold-eq0-clause-plays
returns-then-hold-eq0-clause-plays g c =
    let old = c.args.self.now in
    nothing_held c.desks_end.ensures.none_held old.desk.state c.args.time old.gaps.port old.gaps.text.held (g.K.Sink.written c.args.out.now)
    (sym c.hold.ensures ∙ c.if-hold-eq0.true)

pub steps-preserved : goal.steps-preserved
steps-preserved g c =
    let old = c.args.self.now in
    let now = c.steps.self in
    let from = now.desk.state in
    let to = c.held_step.new.self in
    let one : TellsOne (λ play next. IsHeldStep from c.args.time (Some play) next) (at_time from c.args.time) now.gaps.port now.gaps.text.held (g.K.Sink.written c.steps.out) to.desk.state to.gaps.text.held (g.K.Sink.written c.held_step.new.out) =
    rw c.if-branch.true at c.in_ok-held_step.ensures.some in
    record {
      so = held_more c.desks_join.ensures.held old.desk.state from to.desk.state c.args.time old.gaps.port old.gaps.text.held now.gaps.text.held to.gaps.text.held
          (g.K.Sink.written c.args.out.now) (g.K.Sink.written c.steps.out) (g.K.Sink.written c.held_step.new.out) c.steps.invariant.so
          (subst (λ (port : ℕ). TellsOne (λ play next. IsHeldStep from c.args.time (Some play) next) (at_time from c.args.time) port now.gaps.text.held (g.K.Sink.written c.steps.out) to.desk.state to.gaps.text.held (g.K.Sink.written c.held_step.new.out))
          c.steps.invariant.port one);
      playout = held_keeps from to.desk.state c.args.time one.play one.plays ∙ c.steps.invariant.playout;
      port = c.in_ok-held_step.ensures.port ∙ c.steps.invariant.port;
      faults = c.in_ok-held_step.ensures.faults.no_write (λ e. e) ∙ c.steps.invariant.faults;
    }

pub returns-in_err-held_step-clause-breaks : goal.returns-in_err-held_step-clause-breaks
returns-in_err-held_step-clause-breaks g c =
    let old = c.args.self.now in
    let now = c.steps.self in
    let from = now.desk.state in
    let some : old.desk.state.playout.hold ≢ 0 = λ none. c.if-hold-eq0.false (c.hold.ensures ∙ none) in
    on_err _ _ (held_breaks c.desks_join.ensures.held old.desk.state from c.args.time old.gaps.port old.gaps.text.held now.gaps.text.held
    (g.K.Sink.written c.args.out.now) (g.K.Sink.written c.steps.out) (g.K.Sink.written c.held_step.new.out) some c.steps.invariant.so
    (subst (λ (port : ℕ). BreaksOne (λ play next. IsHeldStep from c.args.time (Some play) next) (at_time from c.args.time) port now.gaps.text.held (g.K.Sink.written c.steps.out) (g.K.Sink.written c.held_step.new.out))
    c.steps.invariant.port c.in_err-held_step.ensures.breaks))

pub returns-clause-plays : goal.returns-clause-plays
returns-clause-plays g c =
    let old = c.args.self.now in
    let now = c.steps.self in
    let from = now.desk.state in
    let to = c.held_step.new.self in
    let some : old.desk.state.playout.hold ≢ 0 = λ none. c.if-hold-eq0.false (c.hold.ensures ∙ none) in
    let none : IsHeldStep from c.args.time None to.desk.state × IsQuiet now.gaps.text.held (g.K.Sink.written c.steps.out) to.gaps.text.held (g.K.Sink.written c.held_step.new.out) =
    rw c.if-branch.false at c.in_ok-held_step.ensures.none in
    quiet_tells (ArePlaysHeld old.desk.state c.args.time) (held_on old.desk.state c.args.time) old.gaps.port old.gaps.text.held now.gaps.text.held to.gaps.text.held (g.K.Sink.written c.args.out.now) (g.K.Sink.written c.steps.out) (g.K.Sink.written c.held_step.new.out) to.desk.state none.1
    (held_ends c.desks_end.ensures.held old.desk.state from to.desk.state c.args.time old.gaps.port old.gaps.text.held now.gaps.text.held
    (g.K.Sink.written c.args.out.now) (g.K.Sink.written c.steps.out) some none.0 c.steps.invariant.so)
