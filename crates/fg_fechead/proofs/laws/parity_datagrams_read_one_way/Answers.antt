use Rattle.fg_fechead.proofs.DatagramLemmas.{datagram_one_way}
use Rattle.fg_fechead.proofs.laws.parity_datagrams_read_one_way.Goals as goal

pub returns : goal.returns
returns c = datagram_one_way
