use denote.Param.Send.{sendable}
use Rattle.fg_tally.proofs.Crossing.{tallies_sync}
use Rattle.fg_tally_tests.proofs.tests.crossing.use_tallies.Goals as goal

pub use_at_once-requires-sync-T : goal.use_at_once-requires-sync-T
use_at_once-requires-sync-T c κs = search (sendable, tallies_sync)
