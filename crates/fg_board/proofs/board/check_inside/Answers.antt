use Rattle.std.proofs.Common.{map, refl}
use Rattle.fg_core.specs.Codes.{told_from}
use Rattle.fg_board.specs.Deeds.{checks}
use Rattle.fg_board.proofs.OneTurn.{turn_taken}
use Rattle.fg_board.proofs.Bringing.{check_follows, can_check}
use Rattle.fg_board.proofs.board.check_inside.Goals as goal

pub check-fate-requires : goal.check-fate-requires
check-fate-requires g c = check_follows c.enter-flow.new.seat.calls c.args.seat.now.told c.enter-flow.result c.enter-flow.ensures.owner
    c.enter-flow.ensures.grows c.args.key c.checked_come_out.ensures c.args.zero c.requires.checked

pub returns-clause-turn : goal.returns-clause-turn
returns-clause-turn g c =
    turn_taken (checks c.args.holds_job c.args.key c.args.zero c.check-fate.result) (checks c.args.holds_job c.args.key c.args.zero c.check-fate.result) c.args.seat.now
    c.enter-flow.new.seat c.settle.new.seat c.enter-flow.result c.check-fate.new.flow
    refl c.enter-flow.ensures.seat c.settle.ensures.seat
    c.enter-flow.ensures.calls c.enter-flow.ensures.owner c.enter-flow.ensures.grows
    (can_check c.args.holds_job (map told_from c.args.seat.now.told) c.args.key c.args.zero c.check-fate.result c.requires.checked)
    c.check-fate.ensures
