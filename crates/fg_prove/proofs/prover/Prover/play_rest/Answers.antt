use Rattle.std.proofs.Common.{ℕ, None, subst, ◌∙◌}
use Rattle.fg_io.proofs.FaultLemmas.{on_err}
use Rattle.fg_playout.specs.Play.{IsFlushStep, Flushes}
use Rattle.fg_playout.specs.Run.{IsFlush}
use Rattle.fg_playout.specs.PlayedOn.{flushed_on}
use Rattle.fg_prove.specs.Steps.{IsQuiet, TellsOne, BreaksOne}
use Rattle.fg_prove.proofs.Playing.{flush_more, flush_breaks, flush_ends, quiet_tells}
use Rattle.fg_prove.proofs.prover.Prover.play_rest.Goals as goal

pub steps-preserved : goal.steps-preserved
steps-preserved g c =
    let old = c.args.self.now in
    let now = c.steps.self in
    let from = now.desk.state in
    let to = c.flush_step.new.self in
    let one : TellsOne (IsFlushStep from) from now.gaps.port now.gaps.text.held (g.K.Sink.written c.steps.out) to.desk.state to.gaps.text.held (g.K.Sink.written c.flush_step.new.out) =
    rw c.if-branch.true at c.in_ok-flush_step.ensures.some in
    record {
      so = flush_more c.desks_join.ensures.flushed old.desk.state from to.desk.state old.gaps.port old.gaps.text.held now.gaps.text.held to.gaps.text.held
          (g.K.Sink.written c.args.out.now) (g.K.Sink.written c.steps.out) (g.K.Sink.written c.flush_step.new.out) c.steps.invariant.so
          (subst (λ (port : ℕ). TellsOne (IsFlushStep from) from port now.gaps.text.held (g.K.Sink.written c.steps.out) to.desk.state to.gaps.text.held (g.K.Sink.written c.flush_step.new.out))
          c.steps.invariant.port one);
      port = c.in_ok-flush_step.ensures.port ∙ c.steps.invariant.port;
      faults = c.in_ok-flush_step.ensures.faults.no_write (λ e. e) ∙ c.steps.invariant.faults;
    }

pub returns-in_err-flush_step-clause-breaks : goal.returns-in_err-flush_step-clause-breaks
returns-in_err-flush_step-clause-breaks g c =
    let old = c.args.self.now in
    let now = c.steps.self in
    let from = now.desk.state in
    on_err _ _ (flush_breaks c.desks_join.ensures.flushed old.desk.state from old.gaps.port old.gaps.text.held now.gaps.text.held
    (g.K.Sink.written c.args.out.now) (g.K.Sink.written c.steps.out) (g.K.Sink.written c.flush_step.new.out) c.steps.invariant.so
    (subst (λ (port : ℕ). BreaksOne (IsFlushStep from) from port now.gaps.text.held (g.K.Sink.written c.steps.out) (g.K.Sink.written c.flush_step.new.out))
    c.steps.invariant.port c.in_err-flush_step.ensures.breaks))

pub returns-clause-plays : goal.returns-clause-plays
returns-clause-plays g c =
    let old = c.args.self.now in
    let now = c.steps.self in
    let from = now.desk.state in
    let to = c.flush_step.new.self in
    let none : Flushes from None to.desk.state × IsQuiet now.gaps.text.held (g.K.Sink.written c.steps.out) to.gaps.text.held (g.K.Sink.written c.flush_step.new.out) =
    rw c.if-branch.false at c.in_ok-flush_step.ensures.none in (
      from,
      none.0.1,
      quiet_tells (IsFlush old.desk.state) (flushed_on old.desk.state) old.gaps.port old.gaps.text.held now.gaps.text.held to.gaps.text.held (g.K.Sink.written c.args.out.now) (g.K.Sink.written c.steps.out) (g.K.Sink.written c.flush_step.new.out) from none.1
          (flush_ends c.desks_end.ensures.flushed old.desk.state from old.gaps.port old.gaps.text.held now.gaps.text.held
          (g.K.Sink.written c.args.out.now) (g.K.Sink.written c.steps.out) none.0.0 c.steps.invariant.so),
    )
