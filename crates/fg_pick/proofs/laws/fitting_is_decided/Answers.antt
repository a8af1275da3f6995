use Rattle.fg_pick.proofs.Deciding.{fits_is_decided}
use Rattle.fg_pick.proofs.laws.fitting_is_decided.Goals as goal

pub returns : goal.returns
returns c = fits_is_decided c.media_datagrams_are_decided.ensures c.media_datagrams_read_one_way.ensures.one_way
