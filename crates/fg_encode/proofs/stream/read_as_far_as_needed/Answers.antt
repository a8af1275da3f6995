use Rattle.fg_encode.proofs.StreamReading.{reads_as_far}
use Rattle.fg_encode.proofs.stream.read_as_far_as_needed.Goals as goal

pub returns : goal.returns
returns c = reads_as_far
