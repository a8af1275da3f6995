use Rattle.std.proofs.Common.{refl}
use Rattle.fg_core.specs.Core.{Call, skip}
use Rattle.fg_core.specs.Skipping.{time_of}
use Rattle.fg_board.specs.Actors.{desk_of}
use Rattle.fg_board.specs.OwnTurns.{standing}
use Rattle.fg_board.proofs.OneCall.{call_made}
use Rattle.fg_board.proofs.Windows.{knows_passed, knows_its_desk}
use Rattle.fg_board.proofs.admitter.Admitter.pass.Goals as goal

pub returns-clause-call : goal.returns-clause-call
returns-clause-call g c =
    let call : Call = skip (time_of c.args.which) c.skip-count.result in
    call_made call call c.args.self.now c.self.inside.seat c.enter-flow.new.self c.leave.new.self c.enter-flow.result
    c.skip-count.new.self c.self.view_is refl c.enter-flow.ensures c.skip-count.ensures.passes c.leave.ensures

pub invariant_of-self : goal.invariant_of-self
invariant_of-self g c =
    let seat = c.self.inside.seat in
    let near = c.self.inside.near in
    let entered = c.enter-flow.result in
    let new = c.skip-count.new.self in
    let later = c.after_windows-self-inside.result in
    let told = c.after_windows-self-inside.ensures in
    let known = c.self.invariant in
    knows_its_desk (skip (time_of c.args.which) c.skip-count.result) seat c.enter-flow.new.self c.leave.new.self entered new
    later.top later.previous later.runs later.mark later.calls known.window known.depth known.own c.enter-flow.ensures
    c.leave.ensures
    (knows_passed (time_of c.args.which) c.skip-count.result (standing seat).playout (desk_of (standing seat)) entered.desk.state
    new.desk.state near.top later.top near.previous later.previous near.runs later.runs near.mark later.mark near.calls
    later.calls known.knows c.enter-flow.ensures.own c.skip-count.ensures.passes.state told.top told.previous told.runs told.mark
    told.calls c.skip-count.ensures.calls)
