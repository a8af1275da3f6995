use Rattle.std.proofs.Common.{sym, ◌∙◌}
use Rattle.fg_shape.proofs.ShapeLemmas.{get_or-slots_of, slots_apart}
use Rattle.fg_shape.proofs.laws.slots_differ.Goals as goal

pub returns : goal.returns
returns c = λ base offset na i j some i_below j_below same.
    slots_apart base offset i j some (sym (get_or-slots_of base offset na i 0 i_below) ∙ same ∙ get_or-slots_of base offset na j 0 j_below)
