use Rattle.std.proofs.Common.{◌≡◌, length, min, ap, ◌∙◌, w64, arith}
use Rattle.std.proofs.Math.IntN.{nat_abs}
use Rattle.std.proofs.lemmas.Int.{to_z-of_z}
use Rattle.fg_peel.proofs.Low.{peels_whole, peels_up, fits_up, peels_below, fits_below, media_up, media_below, fills_after, same_before, same_before_up}
use Rattle.fg_peel.proofs.peel_slots.Goals as goal
use Rattle.fg_peel.proofs.peel_slots.Goals.{After-min-below}

least : (c : After-min-below) → c.min-below.result ≡ min (length c.args.slots.now) (nat_abs c.args.low)
least c =
    c.min-below.ensures
    ∙ ap (min (length c.args.slots.now)) (c.unsigned_abs.ensures.value ∙ ap nat_abs (to_z-of_z w64 c.args.low c.ranges.low))

pub peel_after-requires-clause-lines : goal.peel_after-requires-clause-lines
peel_after-requires-clause-lines c =
    fits_below c.args.low c.min-below.result c.args.lines.now c.args.slots.now (rw (to_z-of_z w64 c.args.low c.ranges.low) at c.if-low-lt0.true)
    (least (goal.at.peel_after-requires-clause-lines c).After-min-below) c.requires.lines

pub peel_row-requires-clause-lines : goal.peel_row-requires-clause-lines
peel_row-requires-clause-lines c =
    rw (to_z-of_z w64 c.args.low c.ranges.low)
    (fits_up c.args.low c.args.lines.now c.args.slots.now (rw (to_z-of_z w64 c.args.low c.ranges.low) at c.if-low-lt0.false) c.requires.lines)

pub peel_after-requires-clause-media : goal.peel_after-requires-clause-media
peel_after-requires-clause-media c = λ media.
    media_below c.args.low c.min-below.result c.args.slots.now (rw (to_z-of_z w64 c.args.low c.ranges.low) at c.if-low-lt0.true)
    (least (goal.at.peel_after-requires-clause-media c).After-min-below) (c.requires.media media)

pub peel_row-requires-clause-media : goal.peel_row-requires-clause-media
peel_row-requires-clause-media c =
    rw (to_z-of_z w64 c.args.low c.ranges.low)
    (λ media. media_up c.args.low c.args.slots.now (rw (to_z-of_z w64 c.args.low c.ranges.low) at c.if-low-lt0.false) (c.requires.media media))

pub returns-then-low-lt0 : goal.returns-then-low-lt0
returns-then-low-lt0 c =
    let under = rw (to_z-of_z w64 c.args.low c.ranges.low) at c.if-low-lt0.true in
    let count = least (goal.at.returns-then-low-lt0 c).After-min-below in
    peels_whole c.args.low c.args.lines.now c.args.slots.now c.peel_after.new.slots c.peel_after.result c.requires.lines
    (fills_after c.min-below.result c.args.lines.now c.args.slots.now c.peel_after.new.slots c.peel_after.result (omega (arith, c.min-below.ensures)) c.peel_after.ensures)
    (same_before c.args.low c.min-below.result c.args.lines.now c.args.slots.now c.peel_after.new.slots c.peel_after.result count c.peel_after.ensures)
    (peels_below c.args.low c.min-below.result c.args.lines.now c.args.slots.now c.peel_after.new.slots c.peel_after.result under count c.peel_after.ensures)

pub returns-else-low-lt0 : goal.returns-else-low-lt0
returns-else-low-lt0 c =
    let above = rw (to_z-of_z w64 c.args.low c.ranges.low) at c.if-low-lt0.false in
    peels_whole c.args.low c.args.lines.now c.args.slots.now c.peel_row.new.slots c.peel_row.result c.requires.lines
    c.peel_row.ensures.fills
    (same_before_up c.args.low c.args.slots.now c.peel_row.new.slots above)
    (peels_up c.args.low c.args.lines.now c.args.slots.now c.peel_row.new.slots c.peel_row.result above
    (rw (to_z-of_z w64 c.args.low c.ranges.low) at c.peel_row.ensures))
