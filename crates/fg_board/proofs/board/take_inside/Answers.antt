use Rattle.std.proofs.Common.{◌≡◌, Some, sym, ap, subst, ◌∙◌}
use Rattle.fg_peel.specs.Equation.{IsComplete}
use Rattle.fg_playout.specs.State.{Live}
use Rattle.fg_desk.specs.Contents.{known_in}
use Rattle.fg_core.specs.Core.{take}
use Rattle.fg_board.proofs.OneTurn.{owning, turn_taken, no_turn_taken}
use Rattle.fg_board.proofs.board.take_inside.Goals as goal

-- What was vouched for is complete on the board that is entered, since the admitter's calls made it.
pub take-requires : goal.take-requires
take-requires g c serial live is vouched =
    let board = c.enter-flow.result in
    let owned = (owning c.enter-flow.new.seat.calls board c.enter-flow.ensures.owner).owned in
    let own = owned.vouched serial vouched in
    let both : Some own.0 ≡ Some live = sym own.1 ∙ is in
    let same : own.0 ≡ live = (cc) in
    subst (λ (l : Live). IsComplete (known_in board.desk) l.equation) same own.2.0

pub returns-in-Ok-clause-taken : goal.returns-in-Ok-clause-taken
returns-in-Ok-clause-taken g c =
    turn_taken (take c.in-Ok.work) (take c.of.result.value) c.args.seat.now
    c.enter-flow.new.seat c.settle.new.seat c.enter-flow.result c.take.new.self
    (ap take c.of.ensures) c.enter-flow.ensures.seat c.settle.ensures.seat
    c.enter-flow.ensures.calls c.enter-flow.ensures.owner c.enter-flow.ensures.grows tt c.in-Ok.ensures.taken

pub returns-in-Err-clause-none : goal.returns-in-Err-clause-none
returns-in-Err-clause-none g c =
    no_turn_taken c.args.seat.now c.enter-flow.new.seat c.skip.new.seat c.enter-flow.result c.take.new.self
    c.in-Err.ensures.none c.enter-flow.ensures.seat c.skip.ensures c.enter-flow.ensures.calls c.enter-flow.ensures.owner
    c.enter-flow.ensures.grows
