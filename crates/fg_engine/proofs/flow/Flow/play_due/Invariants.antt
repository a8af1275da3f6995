use Rattle.std.proofs.Common.{◌≡◌, ◌-◌}
use Rattle.fg_playout.specs.Room.{farthest_limit}
use Rattle.fg_playout.specs.Laws.{HavePlayed}
use Rattle.fg_engine.proofs.Showing.{HavePlayedOn}
use Rattle.fg_engine.proofs.flow.Flow.play_due.Given as goal

abbrev pub invariant-loop-self : goal.invariant-loop-self
invariant-loop-self g l =
    HavePlayedOn (HavePlayed l.fn.self.state l.seq l.ssrc) l.fn.self.state l.fn.self.sum (g.P.Player.lanes l.fn.lanes)
    (g.D.WindowState.state l.self-inside.window) l.self-inside.sum (g.P.Player.lanes l.lanes)
    (l.player ≡ l.fn.player) (g.P.Player.takes l.lanes l.self-inside.sum.port) (g.P.Player.faults l.lanes ≡ g.P.Player.faults l.fn.lanes)

abbrev pub decreases-loop-self : goal.decreases-loop-self
decreases-loop-self g l = farthest_limit - (g.D.WindowState.state l.self-inside.window).mark
