use Rattle.fg_playout.proofs.PlayedAfter as proofs
use Rattle.fg_playout.proofs.laws.runs_show_what_was_admitted.Goals as goal

pub returns : goal.returns
returns c = proofs.runs_show_what_was_admitted c.plays_show_sound_peelings.ensures
