use Rattle.std.proofs.Common.{refl}
use Rattle.fg_core.specs.Core.{held}
use Rattle.fg_board.proofs.OneCall.{call_made, held_is}
use Rattle.fg_board.proofs.admitter.Admitter.held_step.Goals as goal

pub returns-clause-call : goal.returns-clause-call
returns-clause-call g c =
    let call = held c.args.time c.held_step-played.result in
    call_made call call c.args.self.now c.self.inside.seat c.enter-flow.new.self c.leave.new.self c.enter-flow.result
    c.held_step-played.new.self c.self.view_is refl c.enter-flow.ensures
    (held_is c.enter-flow.result c.held_step-played.new.self c.args.time c.held_step-played.new.tray.shown c.held_step-played.result
    c.held_step-played.ensures.held c.held_step-played.ensures.count)
    c.leave.ensures
