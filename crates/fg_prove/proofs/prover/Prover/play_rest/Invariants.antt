use Rattle.std.proofs.Common.{◌≡◌, ◌-◌}
use Rattle.fg_playout.specs.Room.{farthest_limit}
use Rattle.fg_playout.specs.Laws.{AreFlushSteps}
use Rattle.fg_playout.specs.DesksJoin.{flush_steps_on}
use Rattle.fg_prove.specs.Steps.{Tells}
use Rattle.fg_prove.proofs.prover.Prover.play_rest.Given as goal

abbrev pub invariant-steps : goal.invariant-steps
invariant-steps g l = record {
  so : Tells (AreFlushSteps l.fn.self.desk.state) (flush_steps_on l.fn.self.desk.state)
      l.fn.self.gaps.port l.fn.self.gaps.text.held (g.K.Sink.written l.fn.out) l.self.desk.state
      l.self.gaps.text.held (g.K.Sink.written l.out);
  port : l.self.gaps.port ≡ l.fn.self.gaps.port;
  faults : g.K.Sink.faults l.out ≡ g.K.Sink.faults l.fn.out;
}

abbrev pub decreases-steps : goal.decreases-steps
decreases-steps g l = farthest_limit - l.self.desk.state.mark
