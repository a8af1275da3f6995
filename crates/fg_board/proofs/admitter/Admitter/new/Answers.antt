use Rattle.std.proofs.Common.{◌≡◌, [], Option, Some, None, refl, sym, ap, subst, arith}
use Rattle.fg_shape.specs.Playout.{Playout}
use Rattle.fg_core.specs.Board.{BoardState, opened_board}
use Rattle.fg_core.specs.Core.{IsOwned}
use Rattle.fg_board.specs.Actors.{board_of}
use Rattle.fg_board.specs.Knowing.{Knows}
use Rattle.fg_board.proofs.admitter.Admitter.new.Goals as goal

pub invariant_of-result : goal.invariant_of-result
invariant_of-result c =
    let playout : Playout = record { window = c.args.window; depth = c.args.depth; hold = c.args.hold } in
    let board : opened_board playout ≡ board_of (record { seat = c.args.owner; playout = playout }) =
    sym (ap (λ (o : Option BoardState). elim o as (λ _. BoardState) [
      | None ↦ opened_board playout
      | Some left ↦ left
    ]) c.requires.left) in
    let owned = c.opening_is_owned.ensures playout c.requires.window.0 c.requires.window.1 c.requires.window.2 in
    record {
      outside = c.requires.outside;
      window = c.requires.window;
      depth = omega arith;
      own = ([], c.requires.calls, subst (λ (b : BoardState). IsOwned playout [] b) board owned);
      knows = subst (λ (b : BoardState). Knows playout None None 0 0 0 b.desk.state) board
          (record { playout_is = refl; top_is = refl; previous_is = refl; runs_is = refl; mark_is = refl; calls_is = refl; top_limit = tt });
    }
