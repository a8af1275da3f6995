use Rattle.std.proofs.lemmas.Result.{IfOk-weaker, on_err_weaker}
use Rattle.fg_io.proofs.FaultLemmas.{on_err}
use Rattle.fg_desk.proofs.Within.{held_within, then_within}
use Rattle.fg_engine.proofs.Admitting.{admitted_whole, held_breaks_off, then_breaks_off}
use Rattle.fg_engine.proofs.flow.Flow.admit.Goals as goal

pub play_held-requires-clause-within : goal.play_held-requires-clause-within
play_held-requires-clause-within g c = held_within c.args.self.now.state c.args.time c.requires.within

pub admit_then-requires-clause-within : goal.admit_then-requires-clause-within
admit_then-requires-clause-within g c =
    let so = c.in_ok-play_held.ensures.plays in
    then_within c.args.self.now.state c.play_held.new.self.state c.args.time so.plays c.requires.within so.are

pub returns-in_err-play_held-clause-breaks : goal.returns-in_err-play_held-clause-breaks
returns-in_err-play_held-clause-breaks g c =
    on_err _ _ (held_breaks_off c.args.kind c.args.time c.args.datagram.now c.args.self.now.state c.args.self.now.sum.port
    (g.P.Player.lanes c.args.lanes.now) (g.P.Player.lanes c.play_held.new.lanes) c.in_err-play_held.ensures.breaks)

pub returns-clause-admits : goal.returns-clause-admits
returns-clause-admits g c =
    let old = c.args.self.now in
    IfOk-weaker _ _ _ (λ reply admits. admitted_whole c.args.kind c.args.time c.args.datagram.now old.state c.play_held.new.self.state
    c.admit_then.new.self.state old.sum c.play_held.new.self.sum c.admit_then.new.self.sum (g.P.Player.lanes c.args.lanes.now)
    (g.P.Player.lanes c.play_held.new.lanes) (g.P.Player.lanes c.admit_then.new.lanes) reply c.play_held.ensures.stays.port
    c.in_ok-play_held.ensures.plays admits) c.admit_then.ensures.admits

pub returns-clause-breaks : goal.returns-clause-breaks
returns-clause-breaks g c =
    let old = c.args.self.now in
    on_err_weaker _ (then_breaks_off c.args.kind c.args.time c.args.datagram.now old.state c.play_held.new.self.state old.sum
    c.play_held.new.self.sum (g.P.Player.lanes c.args.lanes.now) (g.P.Player.lanes c.play_held.new.lanes) (g.P.Player.lanes c.admit_then.new.lanes)
    c.play_held.ensures.stays.port c.in_ok-play_held.ensures.plays) c.admit_then.ensures.breaks
