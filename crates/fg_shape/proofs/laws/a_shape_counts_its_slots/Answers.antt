use Rattle.fg_shape.proofs.ShapeLemmas.{length-slots_of}
use Rattle.fg_shape.proofs.laws.a_shape_counts_its_slots.Goals as goal

pub returns : goal.returns
returns c = length-slots_of
