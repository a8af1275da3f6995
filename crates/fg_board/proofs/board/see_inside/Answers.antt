use Rattle.std.proofs.Common.{Some, ap}
use Rattle.fg_core.specs.Board.{look_seen}
use Rattle.fg_core.specs.Core.{look}
use Rattle.fg_core.specs.declared.fate.Seen.{Seen}
use Rattle.fg_board.proofs.OneTurn.{turn_taken}
use Rattle.fg_board.proofs.board.see_inside.Goals as goal

pub returns-clause-turn : goal.returns-clause-turn
returns-clause-turn g c =
    turn_taken (look c.args.key (Some c.args.slot) (look_seen c.see-answer.result))
    (look c.args.key (Some c.args.slot) (look_seen c.of.result.value))
    c.args.seat.now c.enter-flow.new.seat c.settle.new.seat c.enter-flow.result c.enter-flow.result
    (ap (λ (seen : Seen). look c.args.key (Some c.args.slot) (look_seen seen)) c.of.ensures) c.enter-flow.ensures.seat c.settle.ensures.seat
    c.enter-flow.ensures.calls c.enter-flow.ensures.owner c.enter-flow.ensures.grows tt c.see-answer.ensures
