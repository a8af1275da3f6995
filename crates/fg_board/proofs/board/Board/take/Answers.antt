use Rattle.std.proofs.Common.{subst}
use Rattle.std.specs.Prelude.{Option}
use Rattle.fg_board.specs.Actors.{TakesTurn}
use Rattle.fg_core.specs.Board.{JobState}
use Rattle.fg_core.specs.Core.{take}
use Rattle.fg_board.proofs.Bringing.{taken_told}
use Rattle.fg_board.proofs.board.Board.take.Goals as goal

pub new-requires : goal.new-requires
new-requires g c =
    taken_told c.codes_are_read_back.ensures.told c.in-Ok-Some.work c.pass.inside.seat c.take_inside.new.seat
    (subst (λ (o : Option JobState). TakesTurn (take o) c.pass.inside.seat c.take_inside.new.seat) c.in-Ok-Some.field-0-is
    c.in-Ok-Some.ensures.taken)
