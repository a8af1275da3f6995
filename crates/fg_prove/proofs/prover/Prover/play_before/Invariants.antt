use Rattle.std.proofs.Common.{◌≡◌, ◌-◌}
use Rattle.fg_playout.specs.Room.{farthest_limit}
use Rattle.fg_playout.specs.Laws.{HavePlayed}
use Rattle.fg_playout.specs.DesksJoin.{have_played_on}
use Rattle.fg_prove.specs.Steps.{Tells}
use Rattle.fg_prove.proofs.prover.Prover.play_before.Given as goal

abbrev pub invariant-plays : goal.invariant-plays
invariant-plays g l = record {
  so : Tells (HavePlayed l.fn.self.desk.state l.seq l.ssrc) (have_played_on l.fn.self.desk.state l.seq l.ssrc)
      l.fn.self.gaps.port l.fn.self.gaps.text.held (g.K.Sink.written l.fn.out) l.self.desk.state
      l.self.gaps.text.held (g.K.Sink.written l.out);
  port : l.self.gaps.port ≡ l.fn.self.gaps.port;
  faults : g.K.Sink.faults l.out ≡ g.K.Sink.faults l.fn.out;
}

abbrev pub decreases-plays : goal.decreases-plays
decreases-plays g l = farthest_limit - l.self.desk.state.mark
