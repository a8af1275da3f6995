use Rattle.fg_playout.specs.Play.{Play}
use Rattle.fg_playout.specs.Held.{at_time, IsHeldPlay}
use Rattle.fg_desk.proofs.DeskShows.{count_shown, shown_play}
use Rattle.fg_desk.proofs.desk.Desk.held_step.Goals as goal

pub returns-clause-some : goal.returns-clause-some
returns-clause-some c = (
  count_shown _ c.self.invariant _ c.self.view_is _ _ _ _ _ c.in-Some.ensures.held.plays _ _ c.show_kept.ensures,
  c.in-Some.ensures.some.2,
)

pub returns-clause-held : goal.returns-clause-held
returns-clause-held c =
    shown_play _ c.self.invariant _ c.self.view_is _ _ _ _ _ c.in-Some.ensures.held.plays _ _ c.show_kept.ensures
    (λ (play : Play). IsHeldPlay (at_time c.args.self.now.state c.args.time) play c.held_step_in_place.new.self.state) c.in-Some.ensures.held
