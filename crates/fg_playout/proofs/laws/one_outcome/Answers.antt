use Rattle.fg_playout.proofs.OneOutcome.{media_is_one, parity_is_one, play_is_one, flush_is_one}
use Rattle.fg_playout.proofs.Held.{held_step_is_one}
use Rattle.fg_playout.proofs.laws.one_outcome.Goals as goal

pub returns : goal.returns
returns c = record {
  media = media_is_one;
  parity = parity_is_one;
  play = play_is_one c.uniqueness.ensures;
  flush = flush_is_one c.uniqueness.ensures;
  held = held_step_is_one c.uniqueness.ensures;
}
