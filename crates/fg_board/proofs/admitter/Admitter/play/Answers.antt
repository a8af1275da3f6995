use Rattle.std.proofs.Common.{refl}
use Rattle.fg_core.specs.Core.{play}
use Rattle.fg_board.proofs.OneCall.{call_made, play_is}
use Rattle.fg_board.proofs.admitter.Admitter.play.Goals as goal

pub returns-clause-call : goal.returns-clause-call
returns-clause-call g c =
    let call = play c.play-played.result in
    call_made call call c.args.self.now c.self.inside.seat c.enter-flow.new.self c.leave.new.self c.enter-flow.result
    c.play-played.new.self c.self.view_is refl c.enter-flow.ensures
    (play_is c.enter-flow.result c.play-played.new.self c.play-played.result c.play-played.new.tray.shown
    c.play-played.ensures.play c.play-played.ensures.count)
    c.leave.ensures
