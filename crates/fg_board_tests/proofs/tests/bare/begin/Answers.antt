use Rattle.fg_board_tests.proofs.Emptied.{left_empty}
use Rattle.fg_board_tests.proofs.tests.bare.begin.Goals as goal

pub admit_media-requires-clause-flushed : goal.admit_media-requires-clause-flushed
admit_media-requires-clause-flushed c fresh =
    left_empty _ c.args.desk.now.state c.flush_step_in_place.new.self.state c.flush_step_in_place.result c.flush_step_in_place.ensures.flushes (cc)
