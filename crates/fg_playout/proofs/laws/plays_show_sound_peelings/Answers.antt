use Rattle.fg_playout.proofs.SoundPeelings as proofs
use Rattle.fg_playout.proofs.laws.plays_show_sound_peelings.Goals as goal

pub returns : goal.returns
returns c = proofs.plays_show_sound_peelings c.peelings_fill_the_closure.ensures c.confluence.ensures.same_end c.confluence.ensures.solvable
