use Rattle.fg_pcap.proofs.Fronts as fronts
use Rattle.fg_pcap.proofs.laws.one_spelling.Goals as goal

pub returns : goal.returns
returns c = fronts.one_spelling c.one_trace.ensures
