use Rattle.fg_board.proofs.OneCall.{has_entered}
use Rattle.fg_board.proofs.admitter.own_seat.OwnSeat.enter.Goals as goal

pub returns : goal.returns
returns g c =
    let e = c.enter_owner-flow.ensures in
    has_entered c.calls_make_one_desk.ensures c.args.self.now c.enter_owner-flow.new.owner c.enter_owner-flow.result c.fill.new.flow
    c.requires.window c.requires.own e.owner e.grows e.seat c.fill.ensures
