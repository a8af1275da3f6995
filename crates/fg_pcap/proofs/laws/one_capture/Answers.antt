use Rattle.fg_pcap.proofs.Captures.{one_capture}
use Rattle.fg_pcap.proofs.laws.one_capture.Goals as goal

pub returns : goal.returns
returns c = one_capture
