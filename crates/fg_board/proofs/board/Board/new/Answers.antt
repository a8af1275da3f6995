use Rattle.std.proofs.Common.{[], subst, sym}
use Rattle.fg_core.specs.Board.{BoardState}
use Rattle.fg_core.specs.Core.{IsOwned}
use Rattle.fg_board.proofs.board.Board.new.Goals as goal

pub new-requires-2-clause-owner : goal.new-requires-2-clause-owner
new-requires-2-clause-owner c =
    subst (λ (b : BoardState). IsOwned b.desk.state.playout [] b) (sym c.in_ok-flow.ensures)
    (c.opening_is_owned.ensures (record { window = c.args.window; depth = c.args.depth; hold = c.args.hold }) c.requires.window.0
    c.requires.window.1 c.requires.depth.0)
