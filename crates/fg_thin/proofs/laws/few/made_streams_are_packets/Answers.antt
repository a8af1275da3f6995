use Rattle.std.proofs.Common.{◌*◌}
use Rattle.fg_thin.specs.Made.{generator_of}
use Rattle.fg_thin.proofs.MadeLemmas.{are_packets}
use Rattle.fg_thin.proofs.laws.few.made_streams_are_packets.Goals as goal

pub returns : goal.returns
returns c = λ seed datagrams. are_packets (generator_of seed 54) 0 (7 * datagrams)
