use Rattle.fg_fechead.proofs.DatagramLemmas.{datagram_one_way, written_datagram}
use Rattle.fg_fechead.proofs.laws.what_is_written_is_read.Goals as goal

pub returns : goal.returns
returns c seq ts parity size can base len ts_fits room =
    let written = written_datagram seq ts parity size can base len ts_fits room in
    (written, λ other read. datagram_one_way _ parity other written read)
