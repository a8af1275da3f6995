use Rattle.std.proofs.Common.{map, sym, subst}
use Rattle.fg_peel.specs.Equation.{Equation}
use Rattle.fg_turn.specs.Standing.{Standing}
use Rattle.fg_core.specs.Board.{BoardState}
use Rattle.fg_core.specs.Codes.{told_from}
use Rattle.fg_core.specs.Views.{IsWorked}
use Rattle.fg_core.specs.declared.key.Key.{Key}
use Rattle.fg_board.specs.Actors.{IsLater}
use Rattle.fg_board_tests.proofs.tests.scene.bring_word.Goals as goal

-- Only what public contracts tell of the job is cited.
pub offer-fate-requires-clause-word : goal.offer-fate-requires-clause-word
offer-fate-requires-clause-word g c =
    let seat = c.hand.inside.pass in
    subst (λ (k : Key). (equation : Equation) × IsWorked (map told_from seat.told) k equation c.args.slot c.args.share)
    (sym c.key-key.ensures.key)
    (c.requires.worked seat
    (subst (λ (s : Standing BoardState). IsLater c.args.job.taken s) (sym c.hand.view_is) c.requires.taken))

pub offer-requires-clause-word : goal.offer-requires-clause-word
offer-requires-clause-word g c =
    let seat = c.give_back_job-back.new.pass in
    subst (λ (k : Key). (equation : Equation) × IsWorked (map told_from seat.told) k equation c.args.slot c.args.share)
    (sym c.key-key.ensures.key)
    (c.requires.worked seat c.give_back_job-back.ensures.taken)
