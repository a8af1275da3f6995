use Rattle.fg_playout.proofs.StaysPeeled.{solved_stays_peeled}
use Rattle.fg_playout.proofs.laws.solved_stays_peeled.Goals as goal

pub returns : goal.returns
returns c = solved_stays_peeled
    c.peelings_fill_the_closure.ensures.keeps
    c.confluence.ensures.kept
    c.peelings_stay.ensures.play
