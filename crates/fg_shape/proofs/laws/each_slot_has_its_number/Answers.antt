use Rattle.fg_shape.proofs.ShapeLemmas.{get_or-slots_of}
use Rattle.fg_shape.proofs.laws.each_slot_has_its_number.Goals as goal

pub returns : goal.returns
returns c = λ base offset na j below. get_or-slots_of base offset na j 0 below
