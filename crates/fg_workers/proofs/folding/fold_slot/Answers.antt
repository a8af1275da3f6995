use Rattle.std.proofs.Common.{◌∙◌}
use Rattle.fg_workers.proofs.Slots.{slot_is_held}
use Rattle.fg_workers.proofs.folding.fold_slot.Goals as goal

pub fold-requires : goal.fold-requires
fold-requires g c =
    let held = c.in-Some.held in
    let below = c.if-number-held.false in
    slot_is_held c.args.tally.now.held held held.key c.args.number c.slot-slot.result c.in-Some.ensures.held below
    (c.slot-slot.ensures ∙ c.each_slot_has_its_number.ensures held.base held.shape.offset held.shape.na c.args.number below)
