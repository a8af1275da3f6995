use Rattle.fg_playout.specs.Play.{Play, IsFlushStep}
use Rattle.fg_desk.proofs.DeskShows.{count_shown, shown_play}
use Rattle.fg_desk.proofs.desk.Desk.flush_step.Goals as goal

pub returns-clause-some : goal.returns-clause-some
returns-clause-some c = (
  count_shown _ c.self.invariant _ c.self.view_is _ _ _ _ _ c.in-Some.ensures.flushes.plays _ _ c.show_kept.ensures,
  c.in-Some.ensures.some.2,
)

pub returns-clause-flushes : goal.returns-clause-flushes
returns-clause-flushes c =
    shown_play _ c.self.invariant _ c.self.view_is _ _ _ _ _ c.in-Some.ensures.flushes.plays _ _ c.show_kept.ensures
    (λ (play : Play). IsFlushStep c.args.self.now.state play c.flush_step_in_place.new.self.state) c.in-Some.ensures.flushes
