use Rattle.fg_fechead.proofs.DecidedDatagrams.{parity_is_decided}
use Rattle.fg_fechead.proofs.laws.parity_datagrams_are_decided.Goals as goal

pub returns : goal.returns
returns c = parity_is_decided
