use Rattle.std.proofs.Common.{arith}
use Rattle.fg_tally.proofs.Numbers.{number_is}
use Rattle.fg_tally.proofs.folding.number_of.Goals as goal

pub overflow_sub-distance : goal.overflow_sub-distance
overflow_sub-distance c =
    (number_is c.args.base c.args.shape.offset c.args.shape.na c.args.slot c.requires.shape.some_offset c.requires.slot).above

pub overflow_cast-result : goal.overflow_cast-result
overflow_cast-result c =
    let n = number_is c.args.base c.args.shape.offset c.args.shape.na c.args.slot c.requires.shape.some_offset c.requires.slot in
    rw c.from.ensures (omega (arith, n.below, c.requires.shape.slot_limit))

pub returns-clause-number : goal.returns-clause-number
returns-clause-number c =
    let n = number_is c.args.base c.args.shape.offset c.args.shape.na c.args.slot c.requires.shape.some_offset c.requires.slot in
    rw c.from.ensures n.below

pub returns-clause-slot : goal.returns-clause-slot
returns-clause-slot c =
    let n = number_is c.args.base c.args.shape.offset c.args.shape.na c.args.slot c.requires.shape.some_offset c.requires.slot in
    rw c.from.ensures n.slot_is
