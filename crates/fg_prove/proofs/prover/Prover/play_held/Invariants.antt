use Rattle.std.proofs.Common.{◌≡◌, ◌-◌}
use Rattle.fg_playout.specs.Room.{farthest_limit}
use Rattle.fg_playout.specs.Laws.{AreHeldSteps}
use Rattle.fg_playout.specs.DesksJoin.{held_steps_on}
use Rattle.fg_prove.specs.Steps.{Tells}
use Rattle.fg_prove.proofs.prover.Prover.play_held.Given as goal

abbrev pub invariant-steps : goal.invariant-steps
invariant-steps g l = record {
  so : Tells (AreHeldSteps l.fn.self.desk.state l.time) (held_steps_on l.fn.self.desk.state l.time)
      l.fn.self.gaps.port l.fn.self.gaps.text.held (g.K.Sink.written l.fn.out) l.self.desk.state
      l.self.gaps.text.held (g.K.Sink.written l.out);
  playout : l.self.desk.state.playout ≡ l.fn.self.desk.state.playout;
  port : l.self.gaps.port ≡ l.fn.self.gaps.port;
  faults : g.K.Sink.faults l.out ≡ g.K.Sink.faults l.fn.out;
}

abbrev pub decreases-steps : goal.decreases-steps
decreases-steps g l = farthest_limit - l.self.desk.state.mark
