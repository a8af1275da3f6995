use Rattle.std.proofs.Common.{refl}
use Rattle.fg_core.specs.Core.{flush}
use Rattle.fg_board.proofs.OneCall.{call_made, flush_is}
use Rattle.fg_board.proofs.admitter.Admitter.flush_step.Goals as goal

pub returns-clause-call : goal.returns-clause-call
returns-clause-call g c =
    let call = flush c.flush_step-played.result in
    call_made call call c.args.self.now c.self.inside.seat c.enter-flow.new.self c.leave.new.self c.enter-flow.result
    c.flush_step-played.new.self c.self.view_is refl c.enter-flow.ensures
    (flush_is c.enter-flow.result c.flush_step-played.new.self c.flush_step-played.new.tray.shown c.flush_step-played.result
    c.flush_step-played.ensures.flushes c.flush_step-played.ensures.count)
    c.leave.ensures
