use Rattle.fg_playout.proofs.PlayOutcomes.{play_has_outcome, flush_has_outcome}
use Rattle.fg_playout.proofs.ReplyOutcomes.{media_has_outcome, parity_has_outcome}
use Rattle.fg_playout.proofs.Held.{held_step_has_outcome}
use Rattle.fg_playout.proofs.laws.outcomes_exist.Goals as goal

pub returns-clause-media : goal.returns-clause-media
returns-clause-media c = media_has_outcome

pub returns-clause-parity : goal.returns-clause-parity
returns-clause-parity c = parity_has_outcome

pub returns-clause-play : goal.returns-clause-play
returns-clause-play c = play_has_outcome c.peelings_are_told.ensures

pub returns-clause-flush : goal.returns-clause-flush
returns-clause-flush c = flush_has_outcome c.peelings_are_told.ensures

pub returns-clause-held : goal.returns-clause-held
returns-clause-held c = held_step_has_outcome c.peelings_are_told.ensures
