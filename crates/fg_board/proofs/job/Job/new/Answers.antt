use Rattle.std.proofs.Common.{sym, subst}
use Rattle.fg_turn.specs.Standing.{Standing}
use Rattle.fg_core.specs.Board.{BoardState}
use Rattle.fg_board.specs.Actors.{WasTold}
use Rattle.fg_board.proofs.job.Job.new.Goals as goal

pub invariant_of-result : goal.invariant_of-result
invariant_of-result c =
    subst (λ (s : Standing BoardState). WasTold (record { taken = s; job = c.args.work })) (sym c.of.ensures) c.requires
