use Rattle.fg_streams.proofs.Positioned.{counts_positions}
use Rattle.fg_streams.proofs.laws.each_position_is_received_or_lost.Goals as goal

pub returns : goal.returns
returns c = counts_positions
