use Rattle.fg_surveyed.proofs.Leaving.{all_left, columns_left}
use Rattle.fg_surveyed.proofs.laws.nothing_lost_leaves_all.Goals as goal

pub returns-clause-media : goal.returns-clause-media
returns-clause-media c = all_left

pub returns-clause-columns : goal.returns-clause-columns
returns-clause-columns c = columns_left c.each_slot_has_its_number.ensures
