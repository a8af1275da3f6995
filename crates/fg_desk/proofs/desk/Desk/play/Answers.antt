use Rattle.fg_playout.specs.Play.{Play, IsPlay}
use Rattle.fg_desk.proofs.DeskShows.{shown_play}
use Rattle.fg_desk.proofs.desk.Desk.play.Goals as goal

pub returns-clause-play : goal.returns-clause-play
returns-clause-play c =
    let played = c.play_in_place-played in
    shown_play _ c.self.invariant _ c.self.view_is _ _ _ _ _ played.ensures.play _ _ c.show_kept.ensures
    (λ (play : Play). IsPlay c.args.self.now.state.playout.window c.args.self.now.state play played.new.self.state) played.ensures.play
