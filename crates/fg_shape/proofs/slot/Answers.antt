use Rattle.fg_shape.proofs.ShapeLemmas.{get_or-slots_of}
use Rattle.fg_shape.proofs.slot.Goals as goal

pub returns : goal.returns
returns c =
    let number = get_or-slots_of c.args.base c.args.shape.offset c.args.shape.na c.args.j 0 c.requires.number in
    cc
