-- How the values that contracts see of a board's actors are told apart. No public contract cites it.
use Rattle.std.specs.Prelude.{refl}
use Rattle.std.specs.Coded.{Coded, code_by, coded×}
use Rattle.fg_shape.specs.Playout.{Playout}
use Rattle.fg_desk.specs.Inside.{playout_code}
use Rattle.fg_turn.specs.Standing.{Standing, standing_coded}
use Rattle.fg_core.specs.Board.{BoardState, JobState}
use Rattle.fg_core.specs.Codings.{board_code, job_code}
use Rattle.fg_board.specs.Actors.{TakenJob, AdmitterState}

abbrev pub taken_job_code : Coded TakenJob
taken_job_code =
    code_by (Standing BoardState × JobState) (coded× (standing_coded board_code) job_code) (λ t. (t.taken, t.job))
    (λ p. record { taken = p.0; job = p.1 }) (λ _. refl)

abbrev pub admitter_code : Coded AdmitterState
admitter_code =
    code_by (Standing BoardState × Playout) (coded× (standing_coded board_code) playout_code)
    (λ a. (a.seat, a.playout)) (λ p. record { seat = p.0; playout = p.1 }) (λ _. refl)
