use Rattle.std.proofs.Common.{◌≡◌, ℕ, List, Option, subst, slice_index, arith}
use Rattle.std.proofs.lemmas.Result.{on_ok_weaker, on_err_weaker}
use Rattle.fg_io.proofs.FaultLemmas.{on_err}
use Rattle.fg_flows.specs.Plan.{playout_of}
use Rattle.fg_trace.specs.Trace.{Record}
use Rattle.fg_playout.specs.State.{State}
use Rattle.fg_playout.specs.Admission.{counted}
use Rattle.fg_playout.specs.Run.{IsFlush}
use Rattle.fg_playout.specs.Laws.{AreFlushSteps}
use Rattle.fg_playout.specs.PlayedOn.{flushed_on}
use Rattle.fg_playout.specs.DesksJoin.{flush_steps_on}
use Rattle.fg_prove.specs.Steps.{Tells, Breaks, HasProvedPart, HasTold}
use Rattle.fg_prove.proofs.Taking.{flushes_within, flush_breaks_whole, flushed_whole}
use Rattle.fg_prove.proofs.Walking.{FirstHasEnded, part_of_all, proved_all}
use Rattle.fg_prove.proofs.walk.ProvingTelling.end.Goals as goal

pub returns-in_err-play_rest-clause-part : goal.returns-in_err-play_rest-clause-part
returns-in_err-play_rest-clause-part g c =
    let plan = c.args.self.now.plan.now in
    let old = c.args.self.now.prover in
    let laws = c.records_are_told.ensures in
    let at = g.K.Sink.written c.args.out.now in
    let after = g.K.Sink.written c.play_rest.new.out in
    let part : (records : List Record) (before : Option (List ℕ)) → HasTold plan old.gaps.port records old.desk.state before old.gaps.text.held at → HasProvedPart plan records before after =
    λ records before h cases proved.
    flush_breaks_whole laws.media laws.parity laws.mades laws.flushed (playout_of plan) _ records old.desk.state before old.gaps.text.held at after cases
    (subst (λ (flow : ℕ). Breaks (AreFlushSteps old.desk.state) (flush_steps_on old.desk.state) flow old.gaps.text.held at after) h.flow_is c.in_err-play_rest.ensures.breaks)
    h.taken proved in
    on_err _ _ part

-- What all that is left adds is told of the plan's flow.
ended :
    (g : _) (c : goal.After-flush g) (records : List Record) (before : Option (List ℕ))
    → HasTold c.args.self.now.plan.now c.args.self.now.prover.gaps.port records c.args.self.now.prover.desk.state before c.args.self.now.prover.gaps.text.held (g.K.Sink.written c.args.out.now)
    → FirstHasEnded c.args.self.now.plan.now records before c.play_rest.new.self.gaps.text.held (g.K.Sink.written c.play_rest.new.out)
ended g c records before h =
    let plan = c.args.self.now.plan.now in
    let old = c.args.self.now.prover in
    let now = c.play_rest.new.self in
    let at = g.K.Sink.written c.args.out.now in
    let middle = g.K.Sink.written c.play_rest.new.out in
    flushed_whole c.desks_end.ensures.run (playout_of plan) (slice_index plan.table 0) records old.desk.state now.desk.state before old.gaps.text.held at now.gaps.text.held middle
    (subst (λ (flow : ℕ). (empty : State) × (now.desk.state ≡ counted empty) × Tells (IsFlush old.desk.state) (flushed_on old.desk.state) flow old.gaps.text.held at empty now.gaps.text.held middle)
    h.flow_is c.in_ok-play_rest.ensures.plays) h.taken

pub returns-clause-whole : goal.returns-clause-whole
returns-clause-whole g c =
    let plan = c.args.self.now.plan.now in
    let held = c.play_rest.new.self.gaps.text.held in
    on_ok_weaker c.flush.result (λ gained records end before is h.
    proved_all plan records before held (g.K.Sink.written c.play_rest.new.out) (g.K.Sink.written c.flush.new.out) (ended g c records before h) gained) c.flush.ensures.whole

pub returns-clause-part : goal.returns-clause-part
returns-clause-part g c =
    let plan = c.args.self.now.plan.now in
    let held = c.play_rest.new.self.gaps.text.held in
    on_err_weaker c.flush.result (λ part records before h.
    part_of_all c.records_are_told.ensures.records plan records before held (g.K.Sink.written c.play_rest.new.out) (g.K.Sink.written c.flush.new.out) (ended g c records before h) part) c.flush.ensures.part

pub play_rest-requires : goal.play_rest-requires
play_rest-requires g c =
    let h = c.requires.told.3 in
    record { within = flushes_within c.records_are_told.ensures.flushing _ _ _ _ _ _ _ h.fits.playout (omega (arith, c.requires.told.2)) h.taken }
