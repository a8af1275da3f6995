use Rattle.fg_drill.proofs.DrillsBack.{samples_come_back}
use Rattle.fg_drill.proofs.laws.drills.samples_come_back.Goals as goal

pub returns : goal.returns
returns c =
    samples_come_back c.losses_are_few.ensures c.cuts_are_payloads.ensures c.whole_cut_is_all.ensures
    c.thinned_comes_back.ensures.consistent c.thinned_comes_back.ensures.shown c.thinned_comes_back.ensures.whole
    c.made_streams_are_cut.ensures c.made_streams_are_packets.ensures
