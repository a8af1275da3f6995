use Rattle.std.proofs.Common.{ℕ, map, subst, sym}
use Rattle.std.specs.Prelude.{Option, IfSome}
use Rattle.std.specs.FinMap.{get}
use Rattle.fg_peel.specs.declared.span.Missing.TheVariants.{One}
use Rattle.fg_peel.specs.Slots.{IsMissing}
use Rattle.fg_turn.specs.Standing.{Standing}
use Rattle.fg_board.specs.Actors.{WasTold, IsLater}
use Rattle.fg_core.specs.Board.{BoardState}
use Rattle.fg_core.specs.Codes.{told_from}
use Rattle.fg_core.specs.Views.{IsWorked}
use Rattle.fg_core.specs.declared.key.Key.{Key}
use Rattle.fg_board.proofs.Bringing.{job_worked}
use Rattle.fg_board.proofs.board.Board.publish.Goals as goal

pub bring_inside-requires-clause-worked : goal.bring_inside-requires-clause-worked
bring_inside-requires-clause-worked g c =
    let job = c.args.job.job in
    let seat = c.pass.inside.seat in (
      job.equation,
      subst (λ (k : Key). IsWorked (map told_from seat.told) k job.equation c.unwrap-slot.result c.args.share)
          (sym c.key-key.ensures.key)
          (job_worked c.args.job (subst WasTold c.job.view_is c.job.invariant) seat
          (subst (λ (s : Standing BoardState). IsLater c.args.job.taken s) (sym c.pass.view_is) c.requires.taken)
          c.unwrap-slot.result c.args.share
          (subst (λ (o : Option ℕ). IfSome o (λ slot. IsMissing (get job.inputs) job.equation (One slot)))
          c.unwrap-slot.ensures c.missing.ensures.some)
          c.requires.word.1),
    )
