use Rattle.fg_drill.proofs.laws.covered.covered_losses_come_back.Goals as goal

pub returns : goal.returns
returns c = λ playout settings payloads lost result can covered waits is.
    c.thinned_comes_back.ensures.whole playout settings payloads lost result can is
    (c.covered_losses_peel.ensures playout settings payloads lost can covered waits)
