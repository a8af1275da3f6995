use Rattle.std.proofs.Common.{◌-◌, ◌<◌, arith}
use Rattle.fg_shape.proofs.ShapeLemmas.{slot_of_number, all_below_last}
use Rattle.fg_shape.proofs.last.Goals as goal

pub returns-clause-slot : goal.returns-clause-slot
returns-clause-slot c =
    let below : c.args.shape.na - 1 < c.args.shape.na = omega arith in
    rw (c.from.ensures, c.from-2.ensures) (slot_of_number c.args.base c.args.shape.offset c.args.shape.na (c.args.shape.na - 1) below)

pub returns-clause-greatest : goal.returns-clause-greatest
returns-clause-greatest c =
    rw (c.from.ensures, c.from-2.ensures) (all_below_last c.args.base c.args.shape.offset c.args.shape.na c.requires.shape.some_slot)
