use Rattle.fg_rtp.proofs.DecidedDatagrams.{media_is_decided}
use Rattle.fg_rtp.proofs.laws.media_datagrams_are_decided.Goals as goal

pub returns : goal.returns
returns c = media_is_decided
