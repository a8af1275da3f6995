use Rattle.fg_drill.proofs.DrillsBack.{drills_come_back}
use Rattle.fg_drill.proofs.laws.drills.drills_come_back.Goals as goal

pub returns : goal.returns
returns c =
    drills_come_back c.losses_are_few.ensures c.cuts_are_payloads.ensures c.whole_cut_is_all.ensures
    c.thinned_comes_back.ensures.consistent c.thinned_comes_back.ensures.shown c.thinned_comes_back.ensures.whole
