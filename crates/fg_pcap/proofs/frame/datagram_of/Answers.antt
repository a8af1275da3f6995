use Rattle.std.proofs.Common.{ℕ, List}
use Rattle.fg_pcap.specs.Frame.{GivesNone, HoldsDatagram}
use Rattle.fg_pcap.proofs.Frames.{gives_none, if_none}
use Rattle.fg_pcap.proofs.frame.datagram_of.Goals as goal

pub returns-in-Some-clause-none : goal.returns-in-Some-clause-none
returns-in-Some-clause-none c =
    let found = c.in-Some.ensures.found in
    if_none c.datagram_in.result ((port : ℕ) (payload : List ℕ) → ¬ HoldsDatagram c.in-Some.packet.now port payload) (GivesNone c.args.frame.now)
    (gives_none c.args.frame.now c.in-Some.packet.now found.0 found.1 found.2) c.datagram_in.ensures.none

pub returns-in-None-clause-none : goal.returns-in-None-clause-none
returns-in-None-clause-none c = λ port payload g. c.in-None.ensures.none g.place g.carries
