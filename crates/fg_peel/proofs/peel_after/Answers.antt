use Rattle.std.proofs.Common.{List, subst, sym}
use Rattle.fg_peel.specs.declared.Slot.{Slot}
use Rattle.fg_peel.specs.Equation.{AreMedia}
use Rattle.fg_peel.specs.Slots.{words_from, AllFitFrom}
use Rattle.fg_peel.proofs.peel_after.Goals as goal

pub peel_row-requires-clause-lines : goal.peel_row-requires-clause-lines
peel_row-requires-clause-lines c =
    subst (λ (s : List Slot). AllFitFrom 0 s c.args.lines.now) (sym c.split_at_mut-rest.ensures.back) c.requires.lines

pub peel_row-requires-clause-media : goal.peel_row-requires-clause-media
peel_row-requires-clause-media c = λ media.
    subst (λ (s : List Slot). AreMedia (words_from 0 s)) (sym c.split_at_mut-rest.ensures.back) (c.requires.media media)
