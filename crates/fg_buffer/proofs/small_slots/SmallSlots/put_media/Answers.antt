use Rattle.std.proofs.Common.{refl}
use Rattle.fg_buffer.specs.declared.small_slots.SmallSlot.TheVariants.{Media}
use Rattle.fg_buffer.proofs.HeldWords.{put_held, put_said}
use Rattle.fg_buffer.proofs.small_slots.SmallSlots.put_media.Goals as goal

pub invariant_of-self : goal.invariant_of-self
invariant_of-self c =
    put_held _ _ c.self.invariant _ c.self.view_is c.args.index (Media c.args.share) c.requires.within c.requires.empty refl

pub returns : goal.returns
returns c =
    put_said _ _ c.self.invariant _ c.self.view_is c.args.index (Media c.args.share) c.requires.within c.requires.empty refl
