use Rattle.std.proofs.Common.{w64}
use Rattle.std.proofs.lemmas.Int.{to_z-of_z}
use Rattle.fg_peel.proofs.peel_media.Goals as goal

pub peel_slots-requires-clause-lines : goal.peel_slots-requires-clause-lines
peel_slots-requires-clause-lines c = rw (to_z-of_z w64 c.args.low c.ranges.low) c.requires.lines

pub peel_slots-requires-clause-media : goal.peel_slots-requires-clause-media
peel_slots-requires-clause-media c = rw (to_z-of_z w64 c.args.low c.ranges.low) (λ _. c.requires.media)

pub returns : goal.returns
returns c = rw (to_z-of_z w64 c.args.low c.ranges.low) at c.peel_slots.ensures
