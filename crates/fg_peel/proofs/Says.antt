-- Lines that fit some entries fit as many others.
use Rattle.std.proofs.Common.{◌≡◌, ℕ, List, length, sym, subst}
use Rattle.slab.specs.Slab.{Slab}
use Rattle.fg_peel.specs.declared.Slot.{Slot}
use Rattle.fg_peel.specs.declared.Line.{Line}
use Rattle.fg_peel.specs.Slots.{FitsFrom, AllFitFrom}

pub fit_others :
    (start : ℕ) (one other : List Slot) (lines : Slab Line) → length other ≡ length one → AllFitFrom start one lines
    → AllFitFrom start other lines
fit_others start one other lines same fit line listed =
    subst (λ count. FitsFrom start count line) (sym same) (fit line listed)
