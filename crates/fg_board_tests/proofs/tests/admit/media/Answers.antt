use Rattle.std.proofs.Common.{true≢false, subst, sym, ap, ◌∙◌}
use Rattle.fg_playout.specs.State.{State}
use Rattle.fg_playout.specs.Admission.{IsFresh}
use Rattle.fg_playout.specs.Play.{HasMore}
use Rattle.fg_board.specs.Actors.{desk_of}
use Rattle.fg_board_tests.proofs.Emptied.{left_empty}
use Rattle.fg_board_tests.proofs.tests.admit.media.Goals as goal
use Rattle.fg_board_tests.proofs.tests.admit.media.Goals.{then-fresh+in_ok-tray+else-not-room+else-is_some, else-fresh}

pub admit_media-requires-clause-flushed : goal.admit_media-requires-clause-flushed
admit_media-requires-clause-flushed g c fresh =
    elim c.if-fresh.branch [
      | then-fresh+in_ok-tray+else-not-room+else-is_some w ↦
          subst (λ (s : State). ¬ HasMore s) (sym (ap desk_of w.admitter-is))
          (left_empty _ (desk_of c.args.admitter.now) (desk_of w.flush_step.new.self) w.flush_step.result w.flush_step.ensures.flushes (cc))
      | else-fresh w ↦
          let was = subst (λ (s : State). IsFresh s c.args.ssrc) (ap desk_of w.admitter-is) fresh in
          absurd (true≢false (sym (c.fresh.ensures.1 was) ∙ w.if-fresh.false))
    ]
