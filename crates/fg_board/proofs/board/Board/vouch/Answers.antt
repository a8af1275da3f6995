use Rattle.std.proofs.Common.{◌≡◌, ℕ, Some, map, subst, sym}
use Rattle.std.specs.FinMap.{get}
use Rattle.fg_words.specs.declared.Word.{Word}
use Rattle.fg_words.specs.Word.{HasRoom}
use Rattle.fg_turn.specs.Standing.{Standing}
use Rattle.fg_board.specs.Actors.{TakenJob, WasTold, IsLater}
use Rattle.fg_core.specs.Board.{BoardState}
use Rattle.fg_core.specs.Codes.{told_from}
use Rattle.fg_core.specs.Views.{IsChecked}
use Rattle.fg_core.specs.declared.key.Key.{Key}
use Rattle.fg_board.proofs.Bringing.{job_checked}
use Rattle.fg_board.proofs.board.Board.vouch.Goals as goal

pub check_inside-requires-clause-checked : goal.check_inside-requires-clause-checked
check_inside-requires-clause-checked g c =
    let job = c.args.job.job in
    let seat = c.pass.inside.seat in (
      job.equation,
      subst (λ (k : Key). IsChecked (map told_from seat.told) k job.equation c.args.zero) (sym c.key.ensures.key)
          (job_checked c.args.job (subst WasTold c.job.view_is c.job.invariant) seat
          (subst (λ (s : Standing BoardState). IsLater c.args.job.taken s) (sym c.pass.view_is) c.requires.taken)
          (record {
            commutes = c.xor_is_a_group.ensures.commutes;
            associates = c.xor_is_a_group.ensures.associates;
            has_zero = c.xor_is_a_group.ensures.has_zero;
            undoes_itself = c.xor_is_a_group.ensures.undoes_itself;
          })
          c.args.zero c.requires.complete c.requires.zero
          (subst (λ (t : TakenJob). HasRoom t.job.equation.parity) c.job.view_is c.room.ensures.parity)
          (subst (λ (t : TakenJob). (slot : ℕ) (w : Word) → get t.job.inputs slot ≡ Some w → HasRoom w) c.job.view_is
          c.room.ensures.inputs)),
    )
