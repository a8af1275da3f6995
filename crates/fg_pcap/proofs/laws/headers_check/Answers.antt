use Rattle.fg_pcap.proofs.Checksums as checksums
use Rattle.fg_pcap.proofs.laws.headers_check.Goals as goal

pub returns : goal.returns
returns c = checksums.headers_check
