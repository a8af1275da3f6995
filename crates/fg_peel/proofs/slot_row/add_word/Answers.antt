use Rattle.std.proofs.Common.{arith}
use Rattle.fg_peel.proofs.Entries.{adds_later, adds_earlier}
use Rattle.fg_peel.proofs.slot_row.add_word.Goals as goal

pub returns-then-target-other : goal.returns-then-target-other
returns-then-target-other c =
    let cut = c.split_at_mut-front.ensures in
    adds_later c.args.slots.now _ _ _ _ _ _ _ cut.value cut.front_len c.if-target-other.true c.requires.other c.add_slot.ensures

pub returns-else-target-other : goal.returns-else-target-other
returns-else-target-other c =
    let cut = c.split_at_mut-front-else-target-other.ensures in
    adds_earlier c.args.slots.now _ _ _ _ _ _ _ cut.value cut.front_len (omega (arith, c.requires.apart)) c.requires.target c.add_slot-else-target-other.ensures
