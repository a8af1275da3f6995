use Rattle.fg_results.proofs.Fronts as fronts
use Rattle.fg_results.proofs.laws.shown_is_front.Goals as goal

pub returns : goal.returns
returns c = fronts.shown_is_front c.media_datagrams_read_one_way.ensures.one_way c.parity_datagrams_read_one_way.ensures c.taken_plays_come_first.ensures
