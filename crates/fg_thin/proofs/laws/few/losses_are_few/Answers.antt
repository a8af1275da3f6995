use Rattle.fg_thin.proofs.FewLemmas.{losses_few}
use Rattle.fg_thin.proofs.laws.few.losses_are_few.Goals as goal

pub returns : goal.returns
returns c = losses_few c.each_slot_has_its_number.ensures c.ends_are_the_layouts.ensures.columns c.ends_are_the_layouts.ensures.rows
