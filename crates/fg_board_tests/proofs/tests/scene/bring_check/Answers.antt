use Rattle.std.proofs.Common.{map, sym, subst}
use Rattle.fg_peel.specs.Equation.{Equation}
use Rattle.fg_turn.specs.Standing.{Standing}
use Rattle.fg_core.specs.Board.{BoardState}
use Rattle.fg_core.specs.Codes.{told_from}
use Rattle.fg_core.specs.Views.{IsChecked}
use Rattle.fg_core.specs.declared.key.Key.{Key}
use Rattle.fg_board.specs.Actors.{IsLater}
use Rattle.fg_board_tests.proofs.tests.scene.bring_check.Goals as goal

-- Only what public contracts tell of the job is cited.
pub attest-fate-requires-clause-check : goal.attest-fate-requires-clause-check
attest-fate-requires-clause-check g c =
    let seat = c.hand.inside.pass in
    subst (λ (k : Key). (equation : Equation) × IsChecked (map told_from seat.told) k equation c.args.zero)
    (sym c.key-key.ensures.key)
    (c.requires.checked seat
    (subst (λ (s : Standing BoardState). IsLater c.args.job.taken s) (sym c.hand.view_is) c.requires.taken))

pub attest-requires-clause-check : goal.attest-requires-clause-check
attest-requires-clause-check g c =
    let seat = c.give_back_job-back.new.pass in
    subst (λ (k : Key). (equation : Equation) × IsChecked (map told_from seat.told) k equation c.args.zero)
    (sym c.key-key.ensures.key)
    (c.requires.checked seat c.give_back_job-back.ensures.taken)
