use Rattle.fg_pcap.proofs.RoundTrips as round_trips
use Rattle.fg_pcap.proofs.laws.written_is_read_back.Goals as goal

pub returns : goal.returns
returns c = round_trips.written_is_read_back
