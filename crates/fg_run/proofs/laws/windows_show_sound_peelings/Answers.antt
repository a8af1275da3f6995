use Rattle.fg_run.proofs.Headline as proofs
use Rattle.fg_run.proofs.laws.windows_show_sound_peelings.Goals as goal

pub returns : goal.returns
returns c = proofs.windows_show_sound_peelings c.one_list_of_desks.ensures.plays c.runs_show_what_was_admitted.ensures
