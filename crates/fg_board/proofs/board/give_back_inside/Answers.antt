use Rattle.std.proofs.Common.{refl}
use Rattle.fg_core.specs.Core.{give_back}
use Rattle.fg_board.proofs.OneTurn.{turn_taken}
use Rattle.fg_board.proofs.board.give_back_inside.Goals as goal

pub returns-clause-turn : goal.returns-clause-turn
returns-clause-turn g c =
    turn_taken (give_back c.args.key c.give_back-fate.result) (give_back c.args.key c.give_back-fate.result) c.args.seat.now
    c.enter-flow.new.seat c.settle.new.seat c.enter-flow.result c.give_back-fate.new.self
    refl c.enter-flow.ensures.seat c.settle.ensures.seat
    c.enter-flow.ensures.calls c.enter-flow.ensures.owner c.enter-flow.ensures.grows tt c.give_back-fate.ensures
